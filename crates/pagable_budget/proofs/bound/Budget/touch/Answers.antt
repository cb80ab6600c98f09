use Rattle.pagable_budget.proofs.Evicting.{bounded-promoted}
use Rattle.pagable_budget.proofs.bound.Budget.touch.Goals as goal

pub invariant_of-self : goal.invariant_of-self
invariant_of-self c =
    bounded-promoted c.self.inside.pins c.promote-is_kept.new.self c.self.inside.cost c.self.inside.most c.args.cell c.self.invariant
    c.promote-is_kept.ensures.entries
