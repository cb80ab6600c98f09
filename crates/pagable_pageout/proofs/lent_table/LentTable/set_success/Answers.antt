use Rattle.pagable_pageout.proofs.Waits.{changed-is, changed-table, outcome-less}
use Rattle.pagable_pager_spec.specs.{Workers.with_outcome, World.published}
use Rattle.std.proofs.Common.{refl, rules}

pub returns-in-Some : Rattle.pagable_pageout.proofs.lent_table.LentTable.set_success.Goals.returns-in-Some
returns-in-Some g c =
    let w = c.set_success.new.self in
    let at = ((c.get_mut.follows.holds w).3 (search rules)).0 in
    record {
      slots = changed-is c.args.self.now.slots (c.get_mut.follows.lender w) c.args.found.identity w at _ c.in-Some.ensures.value _
          c.set_success.ensures.slot;
      waits = λ v. refl;
    }

pub invariant_of-self : Rattle.pagable_pageout.proofs.lent_table.LentTable.set_success.Goals.invariant_of-self
invariant_of-self g c =
    let at = ((c.get_mut.follows.holds c.set_success.new.self).3 (search rules)).0 in
    let old = c.args.self.now in
    let known = published c.args.found.key c.args.found.height in
    let both = changed-table old.slots (c.get_mut.follows.lender c.set_success.new.self) old.waits c.args.found.identity _ _ (with_outcome known)
    at c.in-Some.ensures.value c.set_success.ensures.slot (outcome-less known refl) c.set_success.ensures.own old.own old.ends in
    record { own = both.0; ends = both.1 }
