use Rattle.pagable_traits.specs.{References.raw_reference, declared.raw_ref.RawRef.RawRef}
use Rattle.record_store.proofs.Handling.{one-seen}
use Rattle.std.proofs.{Common.{ap, arith, map, ◌∙◌}, lemmas.{List.take_all, Option.slice_get-get_or}}
use Rattle.record_store.proofs.reading.list_handles.Goals as goal

pub loop-reference-preserved : goal.loop-reference-preserved
loop-reference-preserved c =
    let i = c.loop-reference in
    let same = c.deref-reference-items.ensures.value in
    rw (c.in_ok-push.ensures.items, c.reference.ensures, same) (one-seen (λ (q : RawRef 1). (raw_reference 1 q).handle) c.args.holder.now.refs.items
    i.reference-index _ i.invariant (slice_get-get_or c.args.holder.now.refs.items i.reference-index _ (rw same at c.loop-reference-test.true)))

pub returns-clause-listed : goal.returns-clause-listed
returns-clause-listed c =
    let i = c.loop-reference in
    i.invariant ∙ ap (map (λ (q : RawRef 1). (raw_reference 1 q).handle)) (take_all i.reference-index c.args.holder.now.refs.items
    (omega (arith, rw c.deref-reference-items.ensures.value at c.loop-reference-test.false)))
