use Rattle.pagable_pageout.proofs.{Waits.{either-way, less-open, wait-is, waiting}, Words.{Some, ap, inl, inr, lookup, nat_eq, refl, shelf_in, shelf_of}}

pub invariant_of-self-clause-ends : Rattle.pagable_pageout.proofs.lent_table.LentTable.note_wait.Goals.invariant_of-self-clause-ends
invariant_of-self-clause-ends g c =
    let old = c.args.self.now in
    let new = shelf_in old.slots c.insert.new.self in
    elim (either-way c.insert.result c.insert.ensures.updates c.insert.ensures.err) [
      | inl updates ↦ waiting (shelf_of old) new c.args.worker.0 c.args.identity
          (record { slots = λ i. refl; waits = wait-is old.waits c.insert.new.self c.args.worker.0 (Some c.args.identity) updates.0 }) c.requires.0 c.requires.1
          c.requires.2 old.ends
      | inr same ↦ less-open (shelf_of old) new (λ j w e. e) (λ q. ap (lookup (nat_eq q)) same) old.ends
    ]
