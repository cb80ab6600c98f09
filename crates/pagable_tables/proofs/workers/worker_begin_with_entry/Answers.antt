use Rattle.pagable_tables.proofs.{OwnedByLoad.takes-worker, Words.{basics, refl}}

pub returns : Rattle.pagable_tables.proofs.workers.worker_begin_with_entry.Goals.returns
returns c =
    let t1 = c.worker_begin.new.t in
    let e = c.in_ok-worker.ensures in
    let taken = c.take_pending.ensures in
    record {
      does = λ storage. takes-worker _ _ _ _ _ _
          (grind (basics, c.worker_begin.ensures.same, e.more, e.number.1)) e.number.0 c.requires.within
          (taken.taken storage);
      whole = taken.whole;
      later = λ later. taken.later (λ m. refl) (c.worker_begin.ensures.does.later later);
    }
