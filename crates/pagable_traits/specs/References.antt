-- References in values: what they mean, and why they are read back and have one form.
use Rattle.pagable_traits.specs.{
  OwnCauses.ReadCauses,
  ReadBack.IsReadableThroughout,
  declared.{arc.HoldingArc.HoldingArc, pagable_arc.PagableArc.PagableArc, raw_ref.RawRef.RawRef},
}
use Rattle.pagable_value_spec.specs.{
  Canonical.{IsCanonical, IsReadable, LiesIn},
  Causes.memory_is_own_reading,
  Keyed.throughout-alone,
  Meaning.Meaning,
  OneForm.HasOneFormThroughout,
  Refusals.is_own_reading,
  Shape.{Shape, reference},
  declared.{error.Error.Error, numbers.ArcRef.ArcRef, reason.Reason.Reason},
}
use Rattle.std.proofs.Common.{inl, inr, subst, sym}
use Rattle.std.specs.Prelude.{Bool, List, codes, false, refl, true, ℕ, ◌*◌, ◌+◌, ◌≡◌, ◌⊎◌}
use Rattle.pagable_value_spec.specs.Meaning as meanings
use Rattle.pagable_value_spec.specs.declared.error.Error.TheVariants as errors

-- the kind of loose references to values of the type number t
abbrev pub loose_kind : ℕ → ℕ
loose_kind t = 3 * t + 1

-- the `ArcRef` of a `PagableArc`
abbrev pub loose_reference : {T : Type 0} → ℕ → PagableArc T → ArcRef
loose_reference t a = record { kind = record { 0 = loose_kind t }; node = a.node; handle = a.handle }

abbrev pub loose_means : {T : Type 0} → ℕ → PagableArc T → Meaning ArcRef
loose_means t a = meanings.reference (loose_reference t a)

-- the `ArcRef` of a `RawRef`
abbrev pub raw_reference : (kind : ℕ) → RawRef kind → ArcRef
raw_reference kind a = record { kind = record { 0 = kind }; node = a.node; handle = a.handle }

abbrev pub plain_means : (kind : ℕ) → RawRef kind → Meaning ArcRef
plain_means kind a = meanings.reference (raw_reference kind a)

-- the kind of references that hold a value of the type number t: of pins, or of shared ones
abbrev pub holding_kind : ℕ → Bool → ℕ
holding_kind t true = 3 * t + 2
holding_kind t false = 3 * t

abbrev pub holding_reference : {T : Type 0} {sort : ℕ} → ℕ → Bool → HoldingArc T sort → ArcRef
holding_reference t pins a = record { kind = record { 0 = holding_kind t pins }; node = a.node; handle = a.handle }

abbrev pub holding_means : {T : Type 0} {sort : ℕ} → ℕ → Bool → HoldingArc T sort → Meaning ArcRef
holding_means t pins a = meanings.reference (holding_reference t pins a)

abbrev pub holding_name : Bool → List ℕ
holding_name true = codes "PinnedPagableArc"
holding_name false = codes "Arc"

-- a reference that holds its value may fail with `OutOfMemory`, or with `Custom` if no value of its type is lent
abbrev pub lending_causes : Error → Type 0
lending_causes e = (e ≡ errors.OutOfMemory) ⊎ ((reason : Reason) × (e ≡ errors.Custom reason))

pub lending_causes_are_own : (e : Error) → lending_causes e → is_own_reading e ≡ true
lending_causes_are_own e (inl h) = memory_is_own_reading e h
lending_causes_are_own e (inr (text, h)) = let P : Error → Type 0 = λ x. is_own_reading x ≡ true in subst P (sym h) refl

abbrev pub reads_lending : ReadCauses
reads_lending = record { are = lending_causes; own = lending_causes_are_own }

pub reference_is_read : (parts : ℕ → Shape) (kind : ℕ) → IsReadableThroughout parts (reference kind)
unfolding IsReadable LiesIn
reference_is_read parts kind = throughout-alone IsReadable parts (reference kind) tt (λ those. tt)

pub reference_has_one_form : (parts : ℕ → Shape) (kind : ℕ) → HasOneFormThroughout parts (reference kind)
unfolding IsCanonical LiesIn
reference_has_one_form parts kind = throughout-alone IsCanonical parts (reference kind) tt (λ those. tt)
