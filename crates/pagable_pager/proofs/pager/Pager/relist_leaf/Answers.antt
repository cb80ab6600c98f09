use Rattle.pagable_load.specs.AccessView.{values_at}
use Rattle.pagable_pager.proofs.LeafPageOuts.{clone-never-fails, pins-before, relist-leaves, relist-only, unlist-leaves, unlist-only}
use Rattle.pagable_pager.proofs.pager.Pager.relist_leaf.Goals.{else-pins_of-eq0, then-pins_of-eq0+in-Ok}
use Rattle.std.proofs.Common.{arith, sym, ◌∙◌}
use Rattle.pagable_pager.proofs.pager.Pager.relist_leaf.Goals as goal

pub unreachable-requires : goal.unreachable-requires
unreachable-requires g c = clone-never-fails g.S.PagableStorage (λ e. values_at g.E.Node.NodeSet g.E.Env g.E.Hash.KeyHash e) c.args.self.now
    c.assert_invariant.ensures c.args.place c.args.entry c.requires.leaf c.requires.bare c.take_leaf-handle.new.self c.take_leaf-handle.result
    c.take_leaf-handle.ensures.takes c.take_leaf-handle.ensures.whole (rw c.in_default.is at c.clone_for.ensures.step)

pub returns-clause-leaves : goal.returns-clause-leaves
returns-clause-leaves g c =
    let pins_are = pins-before g.S.PagableStorage (λ e. values_at g.E.Node.NodeSet g.E.Env g.E.Hash.KeyHash e) c.args.self.now
    c.assert_invariant.ensures c.args.place c.args.entry c.requires.leaf c.requires.bare c.take_leaf-handle.new.self c.take_leaf-handle.result
    c.take_leaf-handle.ensures.takes c.take_leaf-handle.ensures.whole c.pins_of.result c.pins_of.ensures in
    elim c.if-pins_of-eq0.branch [
      | then-pins_of-eq0+in-Ok w ↦ relist-leaves g.S.PagableStorage (λ e. values_at g.E.Node.NodeSet g.E.Env g.E.Hash.KeyHash e) c.args.self.now
          c.assert_invariant.ensures c.args.place c.args.entry c.requires.leaf c.requires.bare c.take_leaf-handle.new.self c.take_leaf-handle.result
          c.take_leaf-handle.ensures.takes c.take_leaf-handle.ensures.whole w.in-Ok.new w.clone_for.new.self (rw w.in-Ok.is at w.clone_for.ensures)
          w.assert_invariant-then-pins_of-eq0.ensures w.schedule_for_paging_for-listed.result c.release_for-released.result
          w.schedule_for_paging_for-listed.new.self c.release_for-released.new.self (sym pins_are ∙ w.if-pins_of-eq0.true)
          w.schedule_for_paging_for-listed.ensures (rw w.self-is at c.release_for-released.ensures)
      | else-pins_of-eq0 w ↦ unlist-leaves g.S.PagableStorage (λ e. values_at g.E.Node.NodeSet g.E.Env g.E.Hash.KeyHash e) c.args.self.now
          c.assert_invariant.ensures c.args.place c.args.entry c.requires.leaf c.requires.bare c.take_leaf-handle.new.self c.take_leaf-handle.result
          c.take_leaf-handle.ensures.takes c.take_leaf-handle.ensures.whole c.release_for-released.result c.release_for-released.new.self
          (let other = w.if-pins_of-eq0.false in grind arith) (rw w.self-is at c.release_for-released.ensures)
    ]

pub returns-clause-only : goal.returns-clause-only
returns-clause-only g c =
    let pins_are = pins-before g.S.PagableStorage (λ e. values_at g.E.Node.NodeSet g.E.Env g.E.Hash.KeyHash e) c.args.self.now
    c.assert_invariant.ensures c.args.place c.args.entry c.requires.leaf c.requires.bare c.take_leaf-handle.new.self c.take_leaf-handle.result
    c.take_leaf-handle.ensures.takes c.take_leaf-handle.ensures.whole c.pins_of.result c.pins_of.ensures in
    elim c.if-pins_of-eq0.branch [
      | then-pins_of-eq0+in-Ok w ↦ relist-only g.S.PagableStorage (λ e. values_at g.E.Node.NodeSet g.E.Env g.E.Hash.KeyHash e) c.args.self.now
          c.assert_invariant.ensures c.args.place c.args.entry c.requires.leaf c.requires.bare c.take_leaf-handle.new.self c.take_leaf-handle.result
          c.take_leaf-handle.ensures.takes c.take_leaf-handle.ensures.whole w.in-Ok.new w.clone_for.new.self (rw w.in-Ok.is at w.clone_for.ensures)
          w.assert_invariant-then-pins_of-eq0.ensures w.schedule_for_paging_for-listed.result c.release_for-released.result
          w.schedule_for_paging_for-listed.new.self c.release_for-released.new.self (sym pins_are ∙ w.if-pins_of-eq0.true)
          w.schedule_for_paging_for-listed.ensures (rw w.self-is at c.release_for-released.ensures)
      | else-pins_of-eq0 w ↦ unlist-only g.S.PagableStorage (λ e. values_at g.E.Node.NodeSet g.E.Env g.E.Hash.KeyHash e) c.args.self.now
          c.assert_invariant.ensures c.args.place c.args.entry c.requires.leaf c.requires.bare c.take_leaf-handle.new.self c.take_leaf-handle.result
          c.take_leaf-handle.ensures.takes c.take_leaf-handle.ensures.whole c.release_for-released.result c.release_for-released.new.self
          (let other = w.if-pins_of-eq0.false in grind arith) (rw w.self-is at c.release_for-released.ensures)
    ]
