use Rattle.pagable_tables.proofs.{
  OwnedByLoad.{does-then, found-again, pinned-alike},
  RowCounts.found-among,
  Views.{loose-unshared, not-list},
  Words.{Tables, ap, basics, core_alone, core_of, ℕ, ◌∙◌},
}
use Rattle.pagable_tables.specs.Core.{no_blobs}
use Rattle.pagable_tables.proofs.create.pin_in_memory.Goals as goal

pub make_handle-requires-clause-suits : goal.make_handle-requires-clause-suits
make_handle-requires-clause-suits c = grind (basics, found-among, loose-unshared, c.requires.owns.live, c.requires.owns.as_asked)

pub unreachable-requires : goal.unreachable-requires
unreachable-requires c =
    let again = found-again _ _ _ c.requires.owns.live ((c.in_ok-handle.ensures.does.does no_blobs).made.1.rows)
    c.in_default.ensures.none in
    absurd (cc)

pub set_loose_pinned-requires-clause-unshared : goal.set_loose_pinned-requires-clause-unshared
set_loose_pinned-requires-clause-unshared c =
    let again = found-again _ _ _ c.requires.owns.live
    ((c.in_ok-handle.ensures.does.does no_blobs).made.1.rows) c.in-Some.ensures.found in
    grind (basics, loose-unshared, c.requires.owns.as_asked)

pub set_loose_pinned-requires-clause-unlisted : goal.set_loose_pinned-requires-clause-unlisted
set_loose_pinned-requires-clause-unlisted c =
    let again = found-again _ _ _ c.requires.owns.live
    ((c.in_ok-handle.ensures.does.does no_blobs).made.1.rows) c.in-Some.ensures.found in
    grind (basics, not-list (core_alone c.args.t.now) c.args.me c.requires.holder, c.requires.owns.own)

pub returns-clause-does : goal.returns-clause-does
returns-clause-does c =
    let row = c.args.row in
    let numbered = c.requires.whole.core.handles.numbered row (found-among row.number.0 (core_alone c.args.t.now).rows row c.requires.owns.live).0 in
    does-then c.in_ok-handle.ensures.does c.set_loose_pinned.ensures.does
    (λ storage m turns.
    let cache = λ (u : Tables). (core_of u storage).cache in
    let u = core_of c.make_handle.new.t storage in
    let w' = core_of c.set_loose_pinned.new.t storage in
    let turned = rw c.in-Some.ensures.number at turns in
    let same = λ (kind key : ℕ). ap (λ (u : Tables). cache u kind key) c.set_loose_pinned.ensures.same
    ∙ ap (λ u. cache u kind key) c.in_ok-handle.ensures.same in
    let w = core_of c.args.t.now storage in
    record {
      pinned = (
        record { above = m.made.0.above; is_left = m.made.0.is_left },
        pinned-alike w u w' _ _ _ numbered.1 same m.made.1 turned,
      );
      refused = tt;
    })
