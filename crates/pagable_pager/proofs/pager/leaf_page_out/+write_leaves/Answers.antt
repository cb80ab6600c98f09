use Rattle.pagable_load.specs.AccessView.{values_at}
use Rattle.pagable_pager.proofs.LeafBatches.{shared-pop, written-pushed, written-shared}
use Rattle.std.proofs.Common.{refl}
use Rattle.std.specs.Result.{is_ok}
use Rattle.pagable_pager.proofs.pager.leaf_page_out.+write_leaves.Goals as goal

pub returns : goal.returns
returns g n c s held =
    let says = values_at g.E.Node.NodeSet g.E.Env g.E.Hash.KeyHash c.args.env.now in
    let parts = shared-pop s c.pop.new.self.items c.in-Some.leaf (rw c.in-Some.ensures.items at held) in
    written-pushed says s (is_ok c.push-pushed.result) c.write_leaves-written.result.items (record { node = c.in-Some.leaf.node; blob = c.in-Ok.blob })
    c.push-pushed.new.self.items c.push-pushed.ensures.items (c.write_leaves-written.ensures s parts.0)
    (written-shared says s c.in-Some.leaf (record { node = c.in-Some.leaf.node; blob = c.in-Ok.blob }) refl (rw c.as_ref.ensures at c.in-Ok.ensures) parts.1)
