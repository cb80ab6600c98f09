use Rattle.pagable_pager.proofs.LentCalls.{lends, lends-fault, lends-none}
use Rattle.std.proofs.Common.{ap, sym}
use Rattle.std.specs.{Arc.arc_value, Option.option_map}
use Rattle.pagable_pager.proofs.pager.Pager.pinned_value.Goals as goal

pub returns-in-Ok-None : goal.returns-in-Ok-None
returns-in-Ok-None g c = rw (← c.self.view_is) (lends-none c.self.invariant.state c.args.handle
    ((rw c.in-Ok-None.field-0-is at c.in-Ok-None.ensures) _))

pub returns-in-Ok-Some : goal.returns-in-Ok-Some
returns-in-Ok-Some g c = rw (← c.self.view_is) (lends c.self.invariant.state c.args.handle c.in-Ok-Some.node c.get.result arc_value (λ x. x.now)
    (ap (option_map arc_value) (sym c.get.ensures))
    ((rw c.in-Ok-Some.field-0-is at c.in-Ok-Some.ensures) _))

pub returns-in-Err : goal.returns-in-Err
returns-in-Err g c = rw (← c.self.view_is) (lends-fault c.self.invariant.state c.args.handle c.in-Err.e
    (c.in-Err.ensures _))
