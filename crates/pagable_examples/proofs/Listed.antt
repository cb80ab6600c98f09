-- What a refusal that is passed on says, and what a bundle and its node hold.
use Rattle.pagable_examples.specs.{
  Linked.{bundle_beside, fields_beside, node_beside},
  declared.linked.{LinkedNode.LinkedNode, bundle.Bundle.Bundle},
}
use Rattle.pagable_value_spec.specs.{
  Cursor.{GivesSome, HoldsLentValues, InputState},
  declared.error.Error.Error,
}
use Rattle.std.proofs.Common.{Err, Ok, Result, ap, inl, inr, subst, sym, ◌∙◌, ◌≡◌, ◌⊎◌}
use Rattle.std.specs.{Arc.arc_value, Result.IsErrAnd, declared.{alloc.Global.Global, sync.Arc.Arc}}
use Rattle.pagable_examples.specs.declared.linked.LinkedNode.TheVariants as nodes

-- a cause of a value's own is one of its node's
pub or_memory : {A B C : Type 0} → A ⊎ C → A ⊎ (B ⊎ C)
or_memory (inl a) = inl a
or_memory (inr c) = inr (inr c)

-- a refusal that is passed on, of a reading whose causes are among these
pub refused_so : {X Y R : Type 0} {own wider : Error → Type 0} {read : Result (Y × R) Error} {e : Error} (means : X → Y → Type 0) (after : R)
    (r : Result X Error) → IsErrAnd r (λ f. f ≡ e)
    → (read ≡ Err e) ⊎ own e → ((f : Error) → own f → wider f) → GivesSome wider means after r read
refused_so means after (Ok x) is told wide = absurd is
refused_so {wider = wider} means after (Err f) is told wide = elim told [
  | inl read ↦ inl (read ∙ ap Err (sym is))
  | inr cause ↦ inr (subst wider (sym is) (wide _ cause))
]

-- a bundle holds what its lists hold, and its node what the bundle holds
pub bundle_holds : {s : InputState LinkedNode} (b : Bundle) → HoldsLentValues s fields_beside (b.shared, (b.loose, b.pinned))
    → HoldsLentValues s bundle_beside b
bundle_holds b h = record { each = h.each }

pub node_holds : {s : InputState LinkedNode} (b : Arc Bundle Global) (x : Bundle) → arc_value b ≡ x → HoldsLentValues s bundle_beside x
    → HoldsLentValues s node_beside (nodes.Bundle b)
node_holds {s} b x is h = record { each = (subst (HoldsLentValues s bundle_beside) (sym is) h).each }
