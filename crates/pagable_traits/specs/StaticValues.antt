-- Why static values may be keys, and why their forms are read back: each index of a registered value is read as that
-- value, which refers to nothing.
use Rattle.pagable_traits.specs.{OwnCauses.WriteCauses, ReadBack.IsReadableThroughout}
use Rattle.pagable_value_spec.specs.{
  Canonical.{HasNoReference, IsReadable, LiesIn},
  Codes.one-meaning,
  Keyed.{RefersToNothing, same-by, throughout-alone},
  Keys.same_key,
  Meaning.{Meaning, followed, lifted, pair, plain, reference, rename, variant},
  Shape.{Shape, static_value},
  Statics.{meanings_of, unregistered, unregistered_may_refuse_writing},
  declared.numbers.ArcRef.ArcRef,
}
use Rattle.std.specs.{List.AllByRecursion, Prelude.{Bool, IsTrue, List, refl, ℕ, [], ◌∷◌, ◌≡◌}}

-- writing a value that isn't registered fails
abbrev pub writes_unregistered : WriteCauses
writes_unregistered = record { are = unregistered; may = unregistered_may_refuse_writing }

all-plain : {T : Type 0} (meaning : T → Meaning ⊥) → ((x : T) → HasNoReference (meaning x)) → (registry : List T)
    → AllByRecursion HasNoReference (meanings_of meaning registry)
all-plain meaning holds_none [] = tt
all-plain meaning holds_none (v ∷ vs) = (holds_none v, all-plain meaning holds_none vs)

pub static_is_read : {T : Type 0} (parts : ℕ → Shape) (meaning : T → Meaning ⊥) → ((x : T) → HasNoReference (meaning x))
    → (registry : List T) → IsReadableThroughout parts (static_value (meanings_of meaning registry))
unfolding IsReadable LiesIn
static_is_read parts meaning holds_none registry = throughout-alone IsReadable parts
    (static_value (meanings_of meaning registry)) (all-plain meaning holds_none registry) (λ those. tt)

-- a meaning that is lifted and then loses its references again is as it was
plain-lifted : (A : Type 0) (m : Meaning ⊥) → plain {A = A} (lifted m) ≡ m
unfolding plain rename
plain-lifted A (pair a b) = rw (plain-lifted A a, plain-lifted A b) refl
plain-lifted A (variant n a) = rw (plain-lifted A a) refl
plain-lifted A (reference a) = absurd a
plain-lifted A (followed kind a) = rw (plain-lifted A a) refl
plain-lifted A _ = refl

pub static_is_same : {T : Type 0} (eq : T → T → Bool) (meaning : T → Meaning ⊥)
    → ((x y : T) → IsTrue (eq x y) → meaning x ≡ meaning y) → ((x y : T) → meaning x ≡ meaning y → IsTrue (eq x y))
    → (x y : T) → eq x y ≡ same_key {A = ArcRef} (lifted (meaning x)) (lifted (meaning y))
static_is_same eq meaning same_meaning same_value x y =
    rw (plain-lifted ArcRef (meaning x), plain-lifted ArcRef (meaning y))
    (same-by (eq x y) (meaning x) (meaning y) (same_meaning x y)
    (λ e. same_value x y (one-meaning (meaning x) (meaning y) e)))

pub static_refers_to_nothing : (parts : ℕ → Shape) (registry : List (Meaning ⊥))
    → RefersToNothing parts (static_value registry)
unfolding LiesIn
static_refers_to_nothing parts registry = throughout-alone (LiesIn (λ node. ⊥) (λ part. Unit {0})) parts
    (static_value registry) tt (λ those. tt)
