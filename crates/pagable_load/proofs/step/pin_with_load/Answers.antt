use Rattle.pagable_load.proofs.{
  Keyed.{from_nothing, share_keyed},
  LoadSteps.{acts_map, acts_then, environment-is},
  PinsAndReads.{load_failed, load_pinned, start_pinned},
}
use Rattle.pagable_load.specs.AccessView.{values_at}
use Rattle.pagable_pager_spec.specs.World.{Reading}
use Rattle.std.proofs.Common.{ap}
use Rattle.pagable_load.proofs.step.pin_with_load.Goals as goal

pub returns-in-Pinned-clause-acts : goal.returns-in-Pinned-clause-acts
returns-in-Pinned-clause-acts g c = acts_map (rw c.in-Pinned.is at c.in_ok-pinned.ensures.starts)
    (start_pinned _ _ c.requires.caller c.args.handle c.in-Pinned.pinned c.in-Pinned.was_unpinned)

pub returns-in-Pinned-run-clause-acts : goal.returns-in-Pinned-run-clause-acts
returns-in-Pinned-run-clause-acts g c =
    let e = c.new-reading.ensures in
    rw (c.ended_pin.ensures.handle, c.ended_pin.ensures.was_unpinned) (acts_then (rw c.in-Load.is at c.in_ok-pinned.ensures.starts) c.in-Pinned-run.ensures.acts
    (λ s mid t call runs. load_pinned _ _ c.requires.caller c.new-reading.result c.in-Load.load c.in-Load.key c.in-Load.node_type e.reading e.key c.args.handle
    e.for_cell s mid call c.in-Pinned-run.pinned c.in-Pinned-run.read t runs))

pub returns-in-Refused-clause-acts : goal.returns-in-Refused-clause-acts
returns-in-Refused-clause-acts g c =
    let e = c.new-reading.ensures in
    acts_then (rw c.in-Load.is at c.in_ok-pinned.ensures.starts) c.in-Refused.ensures.acts
    (λ s mid t call runs. load_failed _ _ c.requires.caller c.new-reading.result c.in-Load.load c.in-Load.key c.in-Load.node_type e.reading e.key c.args.handle
    e.for_cell s mid call c.in-Refused.e t runs)

pub returns-in-Pinned-run-clause-keyed : goal.returns-in-Pinned-run-clause-keyed
returns-in-Pinned-run-clause-keyed g c =
    let e = c.new-reading.ensures in
    share_keyed _ c.in-Load.key c.in-Load.node_type c.in-Pinned-run.read _ _ (from_nothing (values_at g.E.Node.NodeSet g.E.Env g.E.Hash.KeyHash) (environment-is c.in_ok-pinned.ensures.starts.acting)
    e.key (ap (λ (r : Reading). r.node_type) e.reading) (ap (λ (r : Reading). r.frames) e.reading) c.in-Pinned-run.ensures.keyed) c.ended_pin.ensures.key
