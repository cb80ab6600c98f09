use Rattle.pagable_core.specs.Data.{blob_of}
use Rattle.pagable_load.specs.AccessView.{values_at}
use Rattle.pagable_pager.proofs.{LeafBatches.fewer-after, LeafPageOuts.{failure-run, page-out-run}}
use Rattle.std.proofs.Common.{refl}
use Rattle.pagable_pager.proofs.pager.Pager.page_out_leaf.Goals as goal

pub returns-in-Ok-clause-pages : goal.returns-in-Ok-clause-pages
returns-in-Ok-clause-pages g c =
    let f = c.finish_leaf.ensures in
    λ honest written. page-out-run g.S.PagableStorage (λ e. values_at g.E.Node.NodeSet g.E.Env g.E.Hash.KeyHash e) c.args.self.now
    c.assert_invariant.ensures c.args.place c.in-Some.entry c.in-Some.ensures.leaf c.in-Some.ensures.kinds (blob_of c.args.leaf.blob)
    (c.is_entry_of.ensures.written c.if-not-is_entry_of.false written) c.store_keyed.new.self c.in-Ok.ensures.asks c.finish_leaf.new.self f.only f.whole
    (c.in-Ok.ensures.asks.step (rw f.only.storage at honest)) c.in-Ok.key refl f.leaves

pub returns-in-Err-clause-pages : goal.returns-in-Err-clause-pages
returns-in-Err-clause-pages g c =
    let f = c.relist_leaf.ensures in
    let (entries, are, alike) = f.leaves in
    λ honest written. failure-run g.S.PagableStorage (λ e. values_at g.E.Node.NodeSet g.E.Env g.E.Hash.KeyHash e) c.args.self.now
    c.assert_invariant.ensures c.args.place c.in-Some.entry c.in-Some.ensures.leaf c.in-Some.ensures.kinds (blob_of c.args.leaf.blob)
    (c.is_entry_of.ensures.written c.if-not-is_entry_of.false written) c.store_keyed.new.self c.in-Err.ensures.asks c.relist_leaf.new.self f.only f.whole
    (c.in-Err.ensures.asks.step (rw f.only.storage at honest)) c.in-Err.e refl entries are alike

pub returns-in-Ok-clause-fewer : goal.returns-in-Ok-clause-fewer
returns-in-Ok-clause-fewer g c = fewer-after c.args.self.now c.store_keyed.new.self c.finish_leaf.new.self c.in-Ok.ensures.asks.only c.finish_leaf.ensures.only

pub returns-in-Err-clause-fewer : goal.returns-in-Err-clause-fewer
returns-in-Err-clause-fewer g c = fewer-after c.args.self.now c.store_keyed.new.self c.relist_leaf.new.self c.in-Err.ensures.asks.only c.relist_leaf.ensures.only

pub finish_leaf-requires-clause-bare : goal.finish_leaf-requires-clause-bare
finish_leaf-requires-clause-bare g c = λ x there. c.is_entry_of.ensures.bare c.if-not-is_entry_of.false x (rw c.in-Ok.ensures.asks.only.values at there)

pub relist_leaf-requires-clause-bare : goal.relist_leaf-requires-clause-bare
relist_leaf-requires-clause-bare g c = λ x there. c.is_entry_of.ensures.bare c.if-not-is_entry_of.false x (rw c.in-Err.ensures.asks.only.values at there)
