use Rattle.pagable_tables.proofs.{
  CallsKeepWhole.worker-end-whole,
  CascadeStep.begun-less,
  OwnedByLoad.{drops-with, in-reach, later-less, lazily-by, loads-anew, passes-given, updated-by},
  Views.newer-falls,
  Words.{Falls, ReleaseSet, arith, basics, cases_eq, contains_row, core_of, is_some, is_workers, refl, subst, sym, with_tables, without_worker, ◌∙◌},
}

pub returns : Rattle.pagable_tables.proofs.workers.worker_end.Goals.returns
returns g c =
    let t = c.args.t.now in
    let v = c.args.worker.0 in
    drops-with (lazily-by
    (λ storage e.
    let w = core_of t storage in
    let u = without_worker w v in
    let h = c.release_owned.new.t in
    let r = c.release_owned.result in
    let w' = core_of (record t { ref_counts = h; loads = c.close_loads.new.loads; workers = c.remove_row.new.rows }) storage in
    let falls = c.release_owned.ensures.falls w u w (λ l. refl) (begun-less t u.loads _ storage _ c.requires.whole e) (omega arith)
    (λ q is. (
      rw c.reach_of-reach.ensures (in-reach t c.requires.whole c.requires.later _ q is),
      (passes-given (contains_row w (ReleaseSet.Worker c.args.worker)) q c.requires.whole.core.handles is).1,
    )) in
    let loads = loads-anew (λ l. grind (basics, c.close_loads.ensures l)) falls in
    record {
      told = r;
      falls = subst (λ s. Falls w u (is_workers w v) r (record (with_tables u h) { loads = w'.loads; workers = s }))
          (λ i q. updated-by is_some c.remove_row.ensures.gone c.remove_row.ensures.others q i)
          loads;
    })
    c.release_owned.ensures.steady (worker-end-whole v c.requires.whole.core)
    (λ ends later. later-less later (newer-falls ends.falls) refl (λ l load is. grind (basics, sym (c.close_loads.ensures l) ∙ is))
    (grind (basics, cases_eq, c.remove_row.ensures.gone, c.remove_row.ensures.others))))
    c.release_owned.ensures.drops
