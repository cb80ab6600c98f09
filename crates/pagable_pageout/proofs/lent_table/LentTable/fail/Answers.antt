use Rattle.pagable_pageout.proofs.{Waits.{failure-less, less-open}, Words.{ap, open_worker, refl, shelf_in, shelf_of, sym, ◌∙◌}}
use Rattle.pagable_pageout.specs.Slots.{slots_in}

pub invariant_of-self-clause-ends : Rattle.pagable_pageout.proofs.lent_table.LentTable.fail.Goals.invariant_of-self-clause-ends
invariant_of-self-clause-ends g c =
    let old = c.args.self.now in
    less-open (shelf_of old) (shelf_in c.fail_open_claims.new.slots old.waits)
    (λ j w e. failure-less c.args.worker.0 (slots_in old.slots j) w (sym (ap open_worker (c.fail_open_claims.ensures.slots j)) ∙ e)) (λ v. refl) old.ends
