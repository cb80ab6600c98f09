use Rattle.pagable_tables.proofs.{Words.live, WorkCounts.none-at-work}
use Rattle.pagable_tables.proofs.release.find_last_handle_in_range.Goals as goal

pub returns-then-is_known_empty-clause-none : goal.returns-then-is_known_empty-clause-none
returns-then-is_known_empty-clause-none c w q loads above below =
    let rows = live c.args.handles.now.places.items in
    let (v, n, is, none) = c.is_known_empty.ensures c.if-is_known_empty.true in
    rw is (none-at-work v n w rows _ c.requires.worked none q)
