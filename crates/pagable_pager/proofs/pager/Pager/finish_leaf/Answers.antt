use Rattle.pagable_load.specs.AccessView.{values_at}
use Rattle.pagable_pager.proofs.LeafPageOuts.{finish-leaves, finish-only}
use Rattle.pagable_pager.proofs.pager.Pager.finish_leaf.Goals as goal

pub returns-clause-leaves : goal.returns-clause-leaves
returns-clause-leaves g c = finish-leaves g.S.PagableStorage (λ e. values_at g.E.Node.NodeSet g.E.Env g.E.Hash.KeyHash e) c.args.self.now
    c.assert_invariant.ensures c.args.place c.args.entry c.requires.leaf c.requires.bare c.take_leaf-handle.new.self c.take_leaf-handle.result
    c.take_leaf-handle.ensures.takes c.take_leaf-handle.ensures.whole c.args.key c.set_data_key_for-set.result c.release_for-released.result
    c.set_data_key_for-set.new.self c.release_for-released.new.self c.set_data_key_for-set.ensures c.release_for-released.ensures

pub returns-clause-only : goal.returns-clause-only
returns-clause-only g c = finish-only g.S.PagableStorage (λ e. values_at g.E.Node.NodeSet g.E.Env g.E.Hash.KeyHash e) c.args.self.now
    c.assert_invariant.ensures c.args.place c.args.entry c.requires.leaf c.requires.bare c.take_leaf-handle.new.self c.take_leaf-handle.result
    c.take_leaf-handle.ensures.takes c.take_leaf-handle.ensures.whole c.args.key c.set_data_key_for-set.result c.release_for-released.result
    c.set_data_key_for-set.new.self c.release_for-released.new.self c.set_data_key_for-set.ensures c.release_for-released.ensures
