use Rattle.blobctl.proofs.Keeping.{count_more, kept_more, kept_none}
use Rattle.blobctl.specs.Kept.{rows_of}
use Rattle.std.proofs.Common.{List, ap, arith, drop, length, refl, ℕ, [], ◌+◌, ◌-◌, ◌<◌, ◌∙◌, ◌≡◌}
use Rattle.std.proofs.Math.ListN.{drop_of_length-le}
use Rattle.std.specs.{HashMap.get_by_text, Prelude.unwrap_or}
use Rattle.blobctl.proofs.keep.versions_kept.Goals as goal

pub loop-at-init : goal.loop-at-init
loop-at-init c =
    let rows = c.args.changes.now in
    let none : drop (length rows) rows ≡ [] = drop_of_length-le rows (omega arith) in
    record {
      within = omega arith;
      counts = λ q. rw (none, c.new-counts.ensures.empty) refl;
      kept = kept_none c.args.keep c.new-kept.result.items (drop (length rows) rows) none;
    }

pub loop-at-preserved : goal.loop-at-preserved
loop-at-preserved c =
    let rows = c.args.changes.now in
    let row = c.index-changes-at.result in
    let place = c.loop-at.at - 1 in
    let next : place + 1 ≡ c.loop-at.at = omega (arith, c.loop-at-test.true) in
    let within : place < length rows = omega (arith, c.loop-at.invariant.within, c.loop-at-test.true) in
    let before : (q : List ℕ) → unwrap_or (get_by_text c.loop-at.counts q) 0 ≡ rows_of q (drop (place + 1) rows) = λ q. rw next (c.loop-at.invariant.counts q) in
    record {
      within = omega (arith, within);
      counts = λ q. count_more rows place row c.as_str.result.now q _ _ within c.index-changes-at.is c.as_str.ensures.value (before q) (c.in_ok-behind.ensures.counts q);
      kept = kept_more c.args.keep rows place c.in_ok-behind.behind row c.loop-at.kept.items c.keep_row.new.kept.items within c.index-changes-at.is
          (c.in_ok-behind.ensures.count ∙ before c.as_str.result.now ∙ ap (λ (n : List ℕ). rows_of n (drop (place + 1) rows)) c.as_str.ensures.value)
          c.in_ok-keep_row.ensures.added c.in_ok-keep_row.ensures.stay (rw next c.loop-at.invariant.kept);
    }
