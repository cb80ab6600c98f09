use Rattle.pagable_core.specs.Data.{blob_of}
use Rattle.pagable_pager.proofs.Invariant.{asked, asks-it, fetch-call, kept-so}
use Rattle.std.specs.Arc.{arc_value}
use Rattle.pagable_pager.proofs.pager.Pager.fetch.Goals as goal

pub invariant_of-self : goal.invariant_of-self
invariant_of-self g c = let e = c.fetch_data_blocking.ensures in kept-so c.self.invariant c.fetch_data_blocking.new.self e.open e.later

pub returns-clause-asks : goal.returns-clause-asks
returns-clause-asks g c =
    let e = c.fetch_data_blocking.ensures in
    let s = c.fetch_data_blocking.new.self in
    rw (← c.self.view_is) (asks-it c.self.invariant s e.open e.later
    (λ h. fetch-call (λ d. blob_of (arc_value d)) _ _ c.args.key c.fetch_data_blocking.result (asked c.self.invariant s e.open e.later (e.same h).0) (e.ok h)
    (e.only h)) e.honest)
