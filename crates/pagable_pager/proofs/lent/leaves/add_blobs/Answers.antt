use Rattle.pagable_load.specs.AccessView.{values_at}
use Rattle.pagable_pager.proofs.TakenLeaves.{writes-push}
use Rattle.std.proofs.{Common.{refl, rules}, lemmas.Option.{slice_get_read}}
use Rattle.pagable_pager.proofs.lent.leaves.add_blobs.Goals as goal

pub loop-leaf-preserved : goal.loop-leaf-preserved
loop-leaf-preserved g c =
    let says = values_at g.E.Node.NodeSet g.E.Env g.E.Hash.KeyHash c.args.env.now in
    let (written, count) = c.loop-leaf.invariant in
    let items = c.in_ok-push.ensures.items in (
      rw items (writes-push says c.args.taken.now c.loop-leaf.blobs.items c.leaf-item.result c.in_ok-blob.blob (rw count (slice_get_read c.args.taken.now _ c.loop-leaf.leaf-index c.leaf-item.result refl c.loop-leaf-test.true c.leaf-item.is)) written
          (rw c.as_ref.ensures at c.in_ok-blob.ensures)),
      rw items (search rules),
    )
