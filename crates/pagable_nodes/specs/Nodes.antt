-- The numbers, meanings, references, errors and held values of nodes of one value type and of three.
use Rattle.pagable_nodes.specs.declared.{either_node.EitherNode.EitherNode, one_node.OneNode.OneNode}
use Rattle.pagable_traits.specs.{
  HeldValues.Beside,
  InNodes.{Holds, holds-none, holds-value},
  Meanings.{AreSingle, Meanings, some},
  OwnCauses.{ReadCauses, WriteCauses, reads_memory_or},
}
use Rattle.pagable_value_spec.specs.{
  Cursor.SomeMeaning,
  Meaning.Meaning,
  References.{SameReferences, references_in},
  Shape.Shape,
  declared.numbers.ArcRef.ArcRef,
}
use Rattle.std.proofs.Common.{arith}
use Rattle.std.specs.{Arc.arc_value, Prelude.{List, None, Option, Some, refl, suc, zero, ℕ, ◌<◌, ◌^◌, ◌≡◌}}
use Rattle.pagable_nodes.specs.declared.either_node.EitherNode.TheVariants as nodes

-- a value refers to what its one meaning refers to
pub value_refers : {T : Type 0} (M : Meanings T) → AreSingle M → (x : T) (m : Meaning ArcRef) → M.of x m
    → SameReferences (references_in (M.meaning x)) (references_in m)
value_refers M single x m h = rw (single x m h) (λ test. refl)

-- ---- one type

pub zero_is_small : 0 < 2 ^ 30
zero_is_small = omega arith

abbrev pub shape_of_one : Shape → ℕ → Option Shape
shape_of_one s zero = Some s
shape_of_one s (suc n) = None

abbrev pub one_held : {T : Type 0} → OneNode T → Option T
one_held n = Some (arc_value n.value)

-- a node holds beside references what its value holds
abbrev pub one_beside : {N T : Type 0} → Beside N T → Beside N (OneNode T)
one_beside B n = B (arc_value n.value)

pub holds_one : {T : Type 0} (M : Meanings T) (n : OneNode T) → Holds M.of 0 0 (M.of (arc_value n.value)) (one_held n)
holds_one M n = holds-value (arc_value n.value) refl (λ m h. h) (λ m h. h)

-- ---- three types

pub three_are_small : (0 < 2 ^ 30) × ((1 < 2 ^ 30) × (2 < 2 ^ 30))
three_are_small = (omega arith, (omega arith, omega arith))

abbrev pub shape_of_three : Shape → Shape → Shape → ℕ → Option Shape
shape_of_three s t u zero = Some s
shape_of_three s t u (suc zero) = Some t
shape_of_three s t u (suc (suc zero)) = Some u
shape_of_three s t u (suc (suc (suc n))) = None

abbrev pub either_writes : WriteCauses → WriteCauses → WriteCauses → ℕ → WriteCauses
either_writes a b c zero = a
either_writes a b c (suc zero) = b
either_writes a b c (suc (suc n)) = c

abbrev pub either_reads : ReadCauses → ReadCauses → ReadCauses → ℕ → ReadCauses
either_reads a b c zero = reads_memory_or a
either_reads a b c (suc zero) = reads_memory_or b
either_reads a b c (suc (suc n)) = reads_memory_or c

module _ {A B C : Type 0} where
  abbrev pub either_number : EitherNode A B C → ℕ
  either_number (nodes.First n) = 0
  either_number (nodes.Second n) = 1
  either_number (nodes.Third n) = 2

  abbrev pub first_held : EitherNode A B C → Option A
  first_held (nodes.First n) = one_held n
  first_held _ = None

  abbrev pub second_held : EitherNode A B C → Option B
  second_held (nodes.Second n) = one_held n
  second_held _ = None

  abbrev pub third_held : EitherNode A B C → Option C
  third_held (nodes.Third n) = one_held n
  third_held _ = None

  abbrev pub either_beside : {N : Type 0} → Beside N A → Beside N B → Beside N C → Beside N (EitherNode A B C)
  either_beside P Q R (nodes.First n) = one_beside P n
  either_beside P Q R (nodes.Second n) = one_beside Q n
  either_beside P Q R (nodes.Third n) = one_beside R n

  module _ (s t u : Shape) where
    abbrev pub either_shape : EitherNode A B C → Shape
    either_shape (nodes.First n) = s
    either_shape (nodes.Second n) = t
    either_shape (nodes.Third n) = u

    pub either_has_shape : (n : EitherNode A B C) → shape_of_three s t u (either_number n) ≡ Some (either_shape n)
    either_has_shape (nodes.First n) = refl
    either_has_shape (nodes.Second n) = refl
    either_has_shape (nodes.Third n) = refl

  module _ (M : Meanings A) (N : Meanings B) (O : Meanings C) where
    abbrev pub either_means : EitherNode A B C → Meaning ArcRef → Type 0
    either_means (nodes.First n) = M.of (arc_value n.value)
    either_means (nodes.Second n) = N.of (arc_value n.value)
    either_means (nodes.Third n) = O.of (arc_value n.value)

    abbrev pub either_refs : EitherNode A B C → List ArcRef
    either_refs (nodes.First n) = references_in (M.meaning (arc_value n.value))
    either_refs (nodes.Second n) = references_in (N.meaning (arc_value n.value))
    either_refs (nodes.Third n) = references_in (O.meaning (arc_value n.value))

    pub either_has_meaning : (n : EitherNode A B C) → SomeMeaning (either_means n)
    either_has_meaning (nodes.First n) = some M (arc_value n.value)
    either_has_meaning (nodes.Second n) = some N (arc_value n.value)
    either_has_meaning (nodes.Third n) = some O (arc_value n.value)

    pub either_refers : AreSingle M → AreSingle N → AreSingle O → (n : EitherNode A B C) (m : Meaning ArcRef)
        → either_means n m → SameReferences (either_refs n) (references_in m)
    either_refers i j k (nodes.First n) m h = value_refers M i (arc_value n.value) m h
    either_refers i j k (nodes.Second n) m h = value_refers N j (arc_value n.value) m h
    either_refers i j k (nodes.Third n) m h = value_refers O k (arc_value n.value) m h

    -- what a node holds of each type
    pub holds_first : (n : EitherNode A B C) → Holds M.of 0 (either_number n) (either_means n) (first_held n)
    holds_first (nodes.First n) = holds-value (arc_value n.value) refl (λ m h. h) (λ m h. h)
    holds_first _ = holds-none (λ e. omega (arith, e))

    pub holds_second : (n : EitherNode A B C) → Holds N.of 1 (either_number n) (either_means n) (second_held n)
    holds_second (nodes.Second n) = holds-value (arc_value n.value) refl (λ m h. h) (λ m h. h)
    holds_second _ = holds-none (λ e. omega (arith, e))

    pub holds_third : (n : EitherNode A B C) → Holds O.of 2 (either_number n) (either_means n) (third_held n)
    holds_third (nodes.Third n) = holds-value (arc_value n.value) refl (λ m h. h) (λ m h. h)
    holds_third _ = holds-none (λ e. omega (arith, e))
