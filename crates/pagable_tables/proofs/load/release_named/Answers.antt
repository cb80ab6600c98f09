use Rattle.pagable_tables.proofs.{
  CascadeEnd.{drops-still, drops-then},
  CascadeStep.aside,
  OwnedByLoad.{all-given, none-given, one-given},
  Words.{None, arith, take_all, []},
}
use Rattle.pagable_tables.proofs.load.release_named.Goals as goal

pub loop-reference-init : goal.loop-reference-init
loop-reference-init g c =
    let t = record c.args.t.now { listing_error = None } in (
      aside _ None [] _ c.requires,
      omega arith,
      λ before w f few. none-given _ c.args.references.now f,
      drops-still _ _ c.requires,
    )

pub loop-reference-preserved : goal.loop-reference-preserved
loop-reference-preserved g c =
    let i = c.loop-reference.invariant in (
      c.release_if_owned.ensures.steady,
      omega arith,
      λ before w f few. one-given _ _ _ _
          c.loop-reference-test.true (c.release_if_owned.ensures.so_far before w _ (i.2 before w f few) (omega arith)),
      drops-then i.3 c.release_if_owned.ensures.drops,
    )

pub returns-clause-falls : goal.returns-clause-falls
returns-clause-falls g c before w f few owned =
    let i = c.loop-reference.invariant in
    let k = c.loop-reference.reference-index in
    record {
      told = c.finish_cascade.result;
      falls = c.finish_cascade.ensures.falls before w _ (all-given _ _ k
          (take_all k c.args.references.now (omega arith)) owned (i.2 before w f few));
    }
