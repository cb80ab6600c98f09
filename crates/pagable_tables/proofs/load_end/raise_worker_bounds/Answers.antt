use Rattle.pagable_tables.proofs.{
  SameViews.in-take,
  Words.{ap, arith, basics, false, is_in, live, numbers_of, refl, take, take_all, true, ◌∙◌, ◌≡◌},
  WorkCounts.{none-taken, work-comes, work-moved},
}
use Rattle.pagable_tables.specs.CascadeInvariant.{is_worker}
use Rattle.pagable_tables.proofs.load_end.raise_worker_bounds.Goals as goal

pub returns-then-not-is_worker-clause-worked : goal.returns-then-not-is_worker-clause-worked
returns-then-not-is_worker-clause-worked c =
    let none : is_worker c.args.me ≡ false = grind (basics, c.is_worker.ensures) in
    work-moved _ (is_in (numbers_of c.args.named.now)) _ (live c.args.handles.now.places.items) none c.requires.worked

pub loop-handle-init : goal.loop-handle-init
loop-handle-init c = record {
  counts = λ n. refl;
  refs = λ n. refl;
  worker_bound = λ n. omega arith;
  here = λ q row is found. absurd (let none = none-taken c.args.named.now q in cc);
}

pub loop-handle-preserved : goal.loop-handle-preserved
loop-handle-preserved c =
    let i = c.loop-handle.invariant in
    let k = c.raise_worker_bound.ensures in
    let at = c.loop-handle.handle-index in
    record {
      counts = λ n. k.counts n ∙ i.counts n;
      refs = λ n. k.refs n ∙ i.refs n;
      worker_bound = λ n. omega (arith, k.worker_bound n, i.worker_bound n);
      here = λ q row is found.
          let more = k.worker_bound row.node.0 in
          let before = λ (had : is_in (numbers_of (take at c.args.named.now)) q ≡ true). i.here q row had found in
          let here = k.here in
          grind (basics, in-take c.args.named.now at (record { 0 = 0 }) q (omega arith));
    }

pub returns-clause-worked : goal.returns-clause-worked
returns-clause-worked c =
    let i = c.loop-handle.invariant in
    let hs = c.args.named.now in
    let all = take_all c.loop-handle.handle-index hs (omega arith) in
    work-comes _ _ (is_in (numbers_of hs)) _ _ c.requires.ordered
    c.requires.worked i.worker_bound
    (λ q row is found. i.here q row (ap (λ l. is_in (numbers_of l) q) all ∙ is) found)
