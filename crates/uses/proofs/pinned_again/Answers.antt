use Rattle.pagable_load.specs.AccessView.{values_at}
use Rattle.std.proofs.Common.{IsTrue, subst}
use Rattle.std.specs.Arc.{arc_value}
use Rattle.uses.proofs.Working.{shows-same}

pub returns : Rattle.uses.proofs.pinned_again.Goals.returns
returns g c = record {
  same = λ honest.
      let worked = c.pin-2.ensures.honest honest in
      let freed = c.run.ensures.honest worked in
      let pinned = subst (λ s. IsTrue (g.S.PagableStorage.is_honest s)) c.release-released.ensures.only.storage freed in
      shows-same (values_at g.E.Node.NodeSet g.E.Env g.E.Hash.KeyHash) c.args.pager.now c.pin.new.pager c.release-released.new.self c.run.new.pager
      c.pin-2.new.pager c.args.handle
      c.in_ok-pinned.pinned c.in_ok-again.again.0 (arc_value c.in_ok-pinned.first) (arc_value c.in_ok-again.again.1) c.release-released.result
      c.assert_invariant.ensures (record {
        has_meaning = g.met.E.Node.NodeSet.has_meaning;
        refers = g.met.E.Node.NodeSet.refers;
        shaped = λ x. (_, g.met.E.Node.NodeSet.has_shape c.args.pager.now.environment x);
        own_reading = g.met.E.Node.NodeSet.read_causes_are_own;
        own_writing = g.met.E.Node.NodeSet.write_causes_may_refuse;
      }) (c.in_ok-pinned.ensures.pins pinned) c.release-released.ensures c.assert_invariant-2.ensures (c.run.ensures.operates worked)
      (c.in_ok-again.ensures.pins honest);
}
