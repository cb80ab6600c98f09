use Rattle.pagable_core.specs.Data.{blob_of}
use Rattle.pagable_pager.proofs.Invariant.{asks-it, kept-so, store-call}
use Rattle.pagable_value_spec.specs.Blob.{key_of}
use Rattle.pagable_pager.proofs.pager.Pager.store_keyed.Goals as goal

pub invariant_of-self : goal.invariant_of-self
invariant_of-self g c = let e = c.store_keyed.ensures in kept-so c.self.invariant c.store_keyed.new.self e.open e.later

pub returns-clause-asks : goal.returns-clause-asks
returns-clause-asks g c =
    let e = c.store_keyed.ensures in
    let s = c.store_keyed.new.self in
    let digest = key_of g.E.Hash.KeyHash.digest in
    rw (← c.self.view_is) (asks-it c.self.invariant s e.open e.later
    (λ h. store-call c.self.invariant s e.open e.later digest (blob_of c.args.blob) c.store_keyed.result e.key (e.adds h) e.was_open (e.only h) (e.err h))
    e.honest)
