use Rattle.pagable_budget.proofs.Evicting.{evict-one}
use Rattle.std.proofs.Common.{refl}
use Rattle.pagable_budget.proofs.evictions.evict_last.Goals as goal

pub returns-clause-evicts : goal.returns-clause-evicts
returns-clause-evicts g c =
    evict-one _ c.args.pins.now c.pop_lru.new.self c.in_ok-pin.field-0-0 c.in_ok-pin.pin c.release-told.result c.args.pager.now c.release-told.new.self _
    c.in_ok-pin.ensures.value
    c.in_ok-pin.ensures.entries refl c.release-told.ensures
