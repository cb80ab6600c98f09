use Rattle.blobctl.proofs.Keeping.{counted}
use Rattle.std.proofs.Common.{Some, arith, bytes_eq, ◌+◌, ◌≡◌}
use Rattle.std.proofs.lemmas.Map.Text.{text_keys}
use Rattle.std.specs.{HashMap.get_by_text, Map.update}
use Rattle.blobctl.proofs.keep.count_row.Goals as goal

pub returns-clause-counts : goal.returns-clause-counts
returns-clause-counts c q =
    let text = c.in_ok-from_str.ensures.ok in
    let count = c.count_of-count.result in
    let done : get_by_text c.insert.new.self q ≡ update bytes_eq (get_by_text c.args.counts.now) c.args.name.now (Some (count + 1)) q = grind
    (arith, text_keys) in
    counted c.args.name.now q (get_by_text c.args.counts.now) (get_by_text c.insert.new.self) count done c.count_of-count.ensures
