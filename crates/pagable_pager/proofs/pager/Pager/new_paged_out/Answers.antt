use Rattle.pagable_pager.proofs.Invariant.{caller-free, calls-tables, made-by}
use Rattle.pagable_theorems.proofs.ValuesOwned.{born-away}
use Rattle.std.proofs.Common.{refl}
use Rattle.pagable_pager.proofs.pager.Pager.new_paged_out.Goals as goal

pub invariant_of-self : goal.invariant_of-self
invariant_of-self g c = made-by c.self.invariant c.insert_paged_out.ensures
    (λ step. born-away c.self.invariant.state c.insert_paged_out.result caller-free step (λ n. refl))

pub returns : goal.returns
returns g c = rw (← c.self.view_is) (calls-tables c.self.invariant c.insert_paged_out.ensures)
