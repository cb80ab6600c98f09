use Rattle.pagable_pager.proofs.Invariant.{caller-free, known-valued, only-less, release_at}
use Rattle.pagable_theorems.proofs.ValuesOwned.{offered}
use Rattle.std.proofs.Common.{ap, not}
use Rattle.pagable_pager.proofs.pager.Pager.on_arc_deserialized.Goals as goal

pub invariant_of-self : goal.invariant_of-self
invariant_of-self g c =
    let e = c.offer.ensures in
    let step = e.offered _ (ap not c.has_closed-lists.ensures) in
    let drops = e.drops (λ n known pinning. known-valued c.self.invariant c.args.kind.0 c.args.key n known pinning) in
    release_at c.self.invariant c.offer.new.t c.offer.new.values e.whole (e.later c.self.invariant.later) drops
    (λ left. offered c.self.invariant.state left caller-free c.offer.result step)

pub returns : goal.returns
returns g c =
    let drops = c.offer.ensures.drops (λ n known pinning. known-valued c.self.invariant c.args.kind.0 c.args.key n known pinning) in
    rw (← c.self.view_is) (record {
      step = c.offer.ensures.offered _ (ap not c.has_closed-lists.ensures);
      only = only-less c.self.invariant _ _ drops;
    })
