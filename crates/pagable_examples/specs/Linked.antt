-- What links and bundles mean and refer to, and the same for the nodes that hold them.
use Rattle.pagable_examples.specs.declared.linked.{LinkedNode.LinkedNode, bundle.Bundle.Bundle, chain.Chain.Chain}
use Rattle.pagable_traits.specs.{
  HeldValues.{Beside, holding_beside, lists_beside, pairs_beside},
  InNodes.{Holds, holds-none, holds-value},
  Meanings.{AreSingle, Meanings, exactly, lists, lists_single, options, options_single, pairs, pairs_single, seen_by},
  Meanings.some,
  OwnCauses.{ReadCauses, WriteCauses, reads_either, reads_memory_or, reads_never, writes_either, writes_long_or},
  OwnCauses.{writes_memory, writes_memory_or},
  ReadBack.{IsReadableThroughout, over_is_read, two_is_read},
  References.{holding_means, loose_means, plain_means, reads_lending, reference_has_one_form, reference_is_read},
  Refers.{ListsInOrder, both_in_order, list_in_order, optional_in_order, reference_in_order},
  declared.{arc.HoldingArc.HoldingArc, pagable_arc.PagableArc.PagableArc},
}
use Rattle.pagable_value_spec.specs.{
  Cursor.SomeMeaning,
  Meaning.Meaning,
  OneForm.{HasOneFormThroughout, over_has_one_form, two_has_one_form},
  References.{SameReferences, references_in},
  Shape.{Shape, both, list, nothing, optional, reference},
  declared.numbers.ArcRef.ArcRef,
}
use Rattle.std.proofs.Common.{arith}
use Rattle.std.specs.{
  Arc.arc_value,
  Global.Vec,
  Prelude.{List, None, Option, Some, false, refl, suc, true, zero, ℕ, ◌<◌, ◌^◌, ◌≡◌},
}
use Rattle.pagable_examples.specs.declared.linked.LinkedNode.TheVariants as nodes

-- the environment has no part with a number
abbrev pub no_parts : ℕ → Shape
no_parts n = nothing

pub numbers_are_small : (0 < 2 ^ 30) × ((1 < 2 ^ 30) × (2 < 2 ^ 30))
numbers_are_small = (omega arith, (omega arith, omega arith))

-- ---- links: at most one reference

abbrev pub chain_means : (kind : ℕ) → Meanings (Chain kind)
chain_means kind = seen_by (λ c. c.next) (options (exactly (plain_means kind)))

pub chain_single : (kind : ℕ) → AreSingle (chain_means kind)
chain_single kind c = options_single (exactly (plain_means kind)) (λ a m is. is) c.next

pub one_in_order : (parts : ℕ → Shape) (kind : ℕ) → ListsInOrder parts (optional (reference kind))
one_in_order parts kind = optional_in_order parts (reference kind) (reference_in_order parts kind)

-- ---- bundles: lists of references of three sorts

abbrev pub bundle_shape : Shape
bundle_shape = both (list (reference 3)) (both (list (reference 1)) (list (reference 2)))

abbrev many : {T : Type 0} → (T → Meaning ArcRef) → Meanings (Vec T)
many meaning = seen_by (λ v. v.items) (lists (exactly meaning))

many-single : {T : Type 0} (meaning : T → Meaning ArcRef) → AreSingle (many meaning)
many-single meaning v = lists_single (exactly meaning) (λ a m is. is) v.items

abbrev pub bundle_means : Meanings Bundle
bundle_means = seen_by (λ b. (b.shared, (b.loose, b.pinned)))
    (pairs (many (holding_means 1 false)) (pairs (many (loose_means 0)) (many (holding_means 0 true))))

pub bundle_single : AreSingle bundle_means
bundle_single b = pairs_single (many (holding_means 1 false))
    (pairs (many (loose_means 0)) (many (holding_means 0 true))) (many-single (holding_means 1 false))
    (pairs_single (many (loose_means 0)) (many (holding_means 0 true)) (many-single (loose_means 0))
    (many-single (holding_means 0 true))) (b.shared, (b.loose, b.pinned))

-- what holds for a list of references of any kind, and for a pair if it holds for its parts, holds for a bundle
in-bundle : (P : Shape → Type 0) → ((s t : Shape) → P s → P t → P (both s t)) → ((kind : ℕ) → P (list (reference kind)))
    → P bundle_shape
in-bundle P pairs lists = pairs (list (reference 3)) (both (list (reference 1)) (list (reference 2))) (lists 3)
    (pairs (list (reference 1)) (list (reference 2)) (lists 1) (lists 2))

pub bundle_has_one_form : HasOneFormThroughout no_parts bundle_shape
bundle_has_one_form = in-bundle (HasOneFormThroughout no_parts) (λ s t. two_has_one_form (refl, refl))
    (λ kind. over_has_one_form refl (reference_has_one_form no_parts kind))

pub bundle_is_read : IsReadableThroughout no_parts bundle_shape
bundle_is_read = in-bundle (IsReadableThroughout no_parts) (λ s t. two_is_read (refl, refl))
    (λ kind. over_is_read refl (reference_is_read no_parts kind))

pub bundle_in_order : ListsInOrder no_parts bundle_shape
bundle_in_order = in-bundle (ListsInOrder no_parts) (both_in_order no_parts)
    (λ kind. list_in_order no_parts (reference kind) (reference_in_order no_parts kind))

-- all errors of writing at most one reference, and of writing a list of them, of which a bundle has three; and the
-- errors of reading a bundle other than faults of the input and of references
abbrev pub one_writes : WriteCauses
one_writes = writes_memory_or writes_memory

abbrev pub bundle_writes : WriteCauses
bundle_writes = writes_either (writes_long_or one_writes)
    (writes_either (writes_long_or one_writes) (writes_long_or one_writes))

abbrev pub bundle_reads : ReadCauses
bundle_reads = reads_either (reads_memory_or reads_lending)
    (reads_either (reads_memory_or reads_never) (reads_memory_or reads_lending))

-- ---- nodes

-- what a node says by its case: its type's number, its shape, its meaning, and its references, which are those of its
-- one meaning
pub record Case (shape_of : ℕ → Option Shape) : Type 1 where
  pub number : ℕ
  pub shape : Shape
  pub has_shape : shape_of number ≡ Some shape
  pub means : Meaning ArcRef → Type 0
  pub has_meaning : SomeMeaning means
  pub refs : List ArcRef
  pub refers : (m : Meaning ArcRef) → means m → SameReferences refs (references_in m)

abbrev pub node_case : {T : Type 0} (shape_of : ℕ → Option Shape) (number : ℕ) (s : Shape) → shape_of number ≡ Some s
    → (M : Meanings T) → AreSingle M → T → Case shape_of
node_case shapes t s is M single x = record {
  number = t;
  shape = s;
  has_shape = is;
  means = M.of x;
  has_meaning = some M x;
  refs = references_in (M.meaning x);
  refers = λ m h. rw (single x m h) (λ test. refl);
}

abbrev pub shape_of : ℕ → Option Shape
shape_of zero = Some (optional (reference 1))
shape_of (suc zero) = Some (optional (reference 3))
shape_of (suc (suc zero)) = Some bundle_shape
shape_of (suc (suc (suc n))) = None

abbrev pub case_of : LinkedNode → Case shape_of
case_of (nodes.Link c) = node_case shape_of 0 (optional (reference 1)) refl (chain_means 1)
    (chain_single 1) (arc_value c)
case_of (nodes.ArcLink c) = node_case shape_of 1 (optional (reference 3)) refl (chain_means 3) (chain_single 3)
    (arc_value c)
case_of (nodes.Bundle b) = node_case shape_of 2 bundle_shape refl bundle_means bundle_single (arc_value b)

-- all errors of writing a type's values, and the errors of reading them other than faults of the input and of
-- references
abbrev pub writes : ℕ → WriteCauses
writes (suc (suc t)) = bundle_writes
writes _ = one_writes

abbrev pub reads : ℕ → ReadCauses
reads (suc (suc t)) = reads_memory_or bundle_reads
reads _ = reads_memory_or reads_never

-- ---- the value that a node holds

abbrev pub HoldsIn : {T : Type 0} → Meanings T → ℕ → LinkedNode → Option T → Type 0
HoldsIn M t n = Holds M.of t (case_of n).number (case_of n).means

abbrev pub link_in : LinkedNode → Option (Chain 1)
link_in (nodes.Link x) = Some (arc_value x)
link_in _ = None

pub holds_link : (n : LinkedNode) → HoldsIn (chain_means 1) 0 n (link_in n)
holds_link (nodes.Link x) = holds-value (arc_value x) refl (λ m h. h) (λ m h. h)
holds_link _ = holds-none (λ e. omega (arith, e))

abbrev pub arc_link_in : LinkedNode → Option (Chain 3)
arc_link_in (nodes.ArcLink x) = Some (arc_value x)
arc_link_in _ = None

pub holds_arc_link : (n : LinkedNode) → HoldsIn (chain_means 3) 1 n (arc_link_in n)
holds_arc_link (nodes.ArcLink x) = holds-value (arc_value x) refl (λ m h. h) (λ m h. h)
holds_arc_link _ = holds-none (λ e. omega (arith, e))

abbrev pub bundle_in : LinkedNode → Option Bundle
bundle_in (nodes.Bundle x) = Some (arc_value x)
bundle_in _ = None

pub holds_bundle : (n : LinkedNode) → HoldsIn bundle_means 2 n (bundle_in n)
holds_bundle (nodes.Bundle x) = holds-value (arc_value x) refl (λ m h. h) (λ m h. h)
holds_bundle _ = holds-none (λ e. omega (arith, e))

-- ---- what is held beside references: the values of the nodes of a bundle's shared references and pins

abbrev many-beside : {T : Type 0} → Beside LinkedNode T → Beside LinkedNode (Vec T)
many-beside B v = lists_beside B v.items

abbrev pub fields_beside : {shared pin : ℕ} → Beside LinkedNode
    (Vec (HoldingArc (Chain 3) shared) × (Vec (PagableArc (Chain 1)) × Vec (HoldingArc (Chain 1) pin)))
fields_beside = pairs_beside (many-beside (holding_beside 1 false arc_link_in))
    (pairs_beside (many-beside (λ x r y. Unit {0})) (many-beside (holding_beside 0 true link_in)))

abbrev pub bundle_beside : Beside LinkedNode Bundle
bundle_beside b = fields_beside (b.shared, (b.loose, b.pinned))

abbrev pub node_beside : LinkedNode → ArcRef → LinkedNode → Type 0
node_beside (nodes.Bundle b) = bundle_beside (arc_value b)
node_beside _ = λ r y. Unit {0}
