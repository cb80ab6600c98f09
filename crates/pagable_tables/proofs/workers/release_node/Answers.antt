use Rattle.pagable_tables.proofs.{
  CascadeStep.begun-whole,
  Counting.and-left,
  OwnedByLoad.{drops-with, lazily-so, passes-given},
  Views.lone-falling,
  Words.{ReleaseSet, arith, basics, contains_row, core_of, refl},
}

pub returns : Rattle.pagable_tables.proofs.workers.release_node.Goals.returns
returns g c =
    let t = c.args.t.now in
    drops-with (lazily-so
    (λ storage e.
    let w = core_of t storage in
    record {
      told = c.release_owned.result;
      falls = c.release_owned.ensures.falls w w w (λ l. refl) (begun-whole t storage _ c.requires.whole e) (omega arith)
          (λ q gives. (
            rw c.reach_of-reach.ensures (c.requires.later.reach c.args.worker.0 q (grind (basics, and-left))),
            (passes-given (contains_row w (ReleaseSet.AtNode c.args.worker c.args.node)) q c.requires.whole.core.handles gives).1,
          ));
    })
    c.release_owned.ensures.steady
    (λ falls. lone-falling c.requires.whole.core falls.falls) refl refl refl) c.release_owned.ensures.drops
