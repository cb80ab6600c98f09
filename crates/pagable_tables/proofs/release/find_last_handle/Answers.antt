use Rattle.pagable_tables.proofs.{OwnedByLoad.{below-to, none-from, places}, Words.{ap, arith, basics, contains_row, ◌-◌}}
use Rattle.pagable_tables.proofs.release.find_last_handle.Goals as goal

pub returns-then-number-since-clause-none : goal.returns-then-number-since-clause-none
returns-then-number-since-clause-none c w q loads above below =
    let ss = c.args.handles.now.places.items in
    none-from (contains_row w c.args.giving) ss _ q _
    (λ k d lt. below-to ss _ _ (omega arith) c.index-found.ensures _ q c.requires.ordered
    (omega arith) above k d (omega arith)) below
    (λ k d. c.loop-place.invariant.passed w k d loads)

pub returns-then-is_in_release_set-clause-last : goal.returns-then-is_in_release_set-clause-last
returns-then-is_in_release_set-clause-last c =
    let ss = c.args.handles.now.places.items in
    let p = c.index-found.result.now in
    let same = ap (λ x. x.number.0) c.row-row.ensures in
    record {
      place = grind (arith, places);
      found = grind (arith, places);
      between = (omega arith, omega arith);
      contains = λ w loads. grind (basics, c.is_in_release_set.ensures.contains w loads);
      not_a_value = grind (basics, c.is_in_release_set.ensures.not_a_value);
      last = λ w q loads asked above below. none-from (contains_row w c.args.giving) ss c.loop-place.place q c.args.left
          (λ k d lt. below-to ss (c.loop-place.place - 1) p (omega arith) c.index-found.ensures p.row.number.0 q c.requires.ordered (omega arith)
          (omega arith) k d (omega arith)) below
          (λ k d. c.loop-place.invariant.passed w k d loads);
    }

pub returns-clause-none : goal.returns-clause-none
returns-clause-none c w q loads above below =
    none-from (contains_row w c.args.giving) _ _ q _ (λ k d lt. absurd (omega arith)) below
    (λ k d. c.loop-place.invariant.passed w k d loads)
