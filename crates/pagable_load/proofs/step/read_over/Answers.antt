use Rattle.pagable_load.specs.AccessView.{values_at}
use Rattle.pagable_pager_spec.specs.World.{Reading}
use Rattle.std.proofs.Common.{ap}
use Rattle.pagable_load.proofs.{Keyed.from_nothing, LoadSteps.{acts_then, environment-is}, PinsAndReads.{key_failed, key_read}}

pub returns-in-Read-clause-acts : Rattle.pagable_load.proofs.step.read_over.Goals.returns-in-Read-clause-acts
returns-in-Read-clause-acts g c =
    let e = c.new-reading.ensures in
    acts_then c.in_ok-load.ensures c.in-Read.ensures.acts (λ s mid t call runs. key_read _ _ c.requires.caller c.new-reading.result c.in_ok-load.load c.args.key
    c.args.node_type e.reading e.key e.for_cell s mid call c.in-Read.value t runs)

pub returns-in-Refused-clause-acts : Rattle.pagable_load.proofs.step.read_over.Goals.returns-in-Refused-clause-acts
returns-in-Refused-clause-acts g c =
    let e = c.new-reading.ensures in
    acts_then c.in_ok-load.ensures c.in-Refused.ensures.acts (λ s mid t call runs. key_failed _ _ c.requires.caller c.new-reading.result c.in_ok-load.load
    c.args.key c.args.node_type e.reading e.key e.for_cell s mid call c.in-Refused.e t runs)

pub returns-in-Read-clause-keyed : Rattle.pagable_load.proofs.step.read_over.Goals.returns-in-Read-clause-keyed
returns-in-Read-clause-keyed g c =
    let e = c.new-reading.ensures in
    from_nothing (values_at g.E.Node.NodeSet g.E.Env g.E.Hash.KeyHash) (environment-is c.in_ok-load.ensures.acting) e.key
    (ap (λ (r : Reading). r.node_type) e.reading) (ap (λ (r : Reading). r.frames) e.reading) c.in-Read.ensures.keyed
