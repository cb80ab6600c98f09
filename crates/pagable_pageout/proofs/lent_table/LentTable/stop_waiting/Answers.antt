use Rattle.pagable_pageout.proofs.{Waits.{stopped, wait-is}, Words.{None, refl, shelf_in, shelf_of}}

pub invariant_of-self-clause-ends : Rattle.pagable_pageout.proofs.lent_table.LentTable.stop_waiting.Goals.invariant_of-self-clause-ends
invariant_of-self-clause-ends g c =
    let old = c.args.self.now in
    stopped (shelf_of old) (shelf_in old.slots c.swap_remove.new.self) c.args.worker.0
    (record { slots = λ i. refl; waits = wait-is old.waits c.swap_remove.new.self c.args.worker.0 None c.swap_remove.ensures.updates.0 }) old.ends
