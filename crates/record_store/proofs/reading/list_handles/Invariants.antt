use Rattle.pagable_traits.specs.{References.raw_reference, declared.raw_ref.RawRef.RawRef}
use Rattle.record_store.proofs.reading.list_handles.Given.{invariant-loop-reference as invariant}
use Rattle.std.proofs.Common.{map, take, ◌≡◌}

-- the handles so far
abbrev pub invariant-loop-reference : invariant
invariant-loop-reference l = l.handles.items ≡ map (λ (q : RawRef 1). (raw_reference 1 q).handle) (take l.reference-index l.holder.refs.items)
