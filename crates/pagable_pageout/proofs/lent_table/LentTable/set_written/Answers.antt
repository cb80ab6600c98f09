use Rattle.pagable_pageout.proofs.Waits.{changed-is, changed-table}
use Rattle.pagable_pageout.specs.Slots.{with_references}
use Rattle.std.proofs.Common.{Some, refl, rules}

pub returns-in-Some : Rattle.pagable_pageout.proofs.lent_table.LentTable.set_written.Goals.returns-in-Some
returns-in-Some g c =
    let w = record c.in-Some.slot.now { references = Some c.args.references } in
    let at = ((c.get_mut.follows.holds w).3 (search rules)).0 in
    record { slots = changed-is c.args.self.now.slots (c.get_mut.follows.lender w) c.args.identity w at _ c.in-Some.ensures.value _ refl; waits = λ v. refl }

pub invariant_of-self : Rattle.pagable_pageout.proofs.lent_table.LentTable.set_written.Goals.invariant_of-self
invariant_of-self g c =
    let w = record c.in-Some.slot.now { references = Some c.args.references } in
    let at = ((c.get_mut.follows.holds w).3 (search rules)).0 in
    let old = c.args.self.now in
    let both = changed-table old.slots (c.get_mut.follows.lender w) old.waits c.args.identity w _ (with_references c.args.references.items)
    at c.in-Some.ensures.value refl (λ x w e. e) (λ named. named) old.own old.ends in
    record { own = both.0; ends = both.1 }

pub invariant_of-self-in-None-get_mut : Rattle.pagable_pageout.proofs.lent_table.LentTable.set_written.Goals.invariant_of-self-in-None-get_mut
invariant_of-self-in-None-get_mut g c =
    let old = c.args.self.now in
    rw c.get_mut.follows.holds-at-none (record { own = old.own; ends = old.ends })
