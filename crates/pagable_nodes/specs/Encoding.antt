-- The encoding and the meaning of a type's values, made of those of its fields.
use Rattle.pagable_traits.specs.{
  Building.reads_pattern,
  JsonData.of_value,
  Meanings.{AreSingle, Meanings, exactly, lists, lists_single, options, options_single, pairs, pairs_single, results},
  Meanings.seen_by,
  OwnCauses.{ReadCauses, WriteCauses, reads_either, reads_memory, reads_memory_or, reads_never, writes_either},
  OwnCauses.{writes_json, writes_long_or, writes_memory, writes_memory_or, writes_never},
  ReadBack.{IsReadableThroughout, basic_is_read, over_is_read, two_is_read},
  References.{holding_kind, holding_means, loose_kind, loose_means, plain_means, reads_lending, reference_has_one_form},
  References.reference_is_read,
  Refers.{ListsInOrder, both_in_order, duration_in_order, flag_in_order, letter_in_order, list_in_order},
  Refers.{nothing_in_order, optional_in_order, outcome_in_order, pattern_in_order, reference_in_order},
  Refers.{signed_in_order, text_in_order, unsigned_in_order},
  declared.{arc.HoldingArc.HoldingArc, impls.texts.PathText.PathText, pagable_arc.PagableArc.PagableArc},
  declared.raw_ref.RawRef.RawRef,
}
use Rattle.pagable_traits.specs.Refers.{json_in_order}
use Rattle.pagable_value_spec.specs.{
  CarriedTypes.of_span,
  Composite.result_single,
  OneForm.{HasOneFormThroughout, basic_has_one_form, over_has_one_form, two_has_one_form},
  Shape.Shape,
}
use Rattle.serde_json.specs.declared.value.Value.{Value}
use Rattle.std.specs.{
  Box.boxed_str_bytes,
  Global.{Box, Vec},
  Int.Width,
  Prelude.{Bool, List, Option, Result, String, refl, ℕ, ℤ},
  String.string_bytes,
  declared.{alloc.Global.Global, boxed.BoxedStr.BoxedStr, time.Duration.Duration},
}
use Rattle.pagable_value_spec.specs.Meaning as meanings
use Rattle.pagable_value_spec.specs.Shape as shapes

-- What the impls of a type say of its values: their shape, their one meaning each, all errors of writing them, and the
-- errors of reading them other than faults of the input and of references; and, in every environment: each form lists
-- the references in order, no meaning has two forms, and forms are read back.
pub record Encoding (T : Type 0) : Type 1 where
  pub shape : Shape
  pub means : Meanings T
  pub single : AreSingle means
  pub writes : WriteCauses
  pub reads : ReadCauses
  pub in_order : (parts : ℕ → Shape) → ListsInOrder parts shape
  pub one_form : (parts : ℕ → Shape) → HasOneFormThroughout parts shape
  pub is_read : (parts : ℕ → Shape) → IsReadableThroughout parts shape

-- a struct, seen as the tuple of its fields
abbrev pub fields : {X Y : Type 0} → (X → Y) → Encoding Y → Encoding X
fields view a = record {
  shape = a.shape;
  means = seen_by view a.means;
  single = λ x. a.single (view x);
  writes = a.writes;
  reads = a.reads;
  in_order = a.in_order;
  one_form = a.one_form;
  is_read = a.is_read;
}

-- the unit, which is written as no byte
abbrev pub empty : Encoding Unit
empty = record {
  shape = shapes.nothing;
  means = exactly (λ x. meanings.none);
  single = λ x m is. is;
  writes = writes_never;
  reads = reads_never;
  in_order = λ parts. nothing_in_order parts;
  one_form = λ parts. basic_has_one_form tt;
  is_read = λ parts. basic_is_read tt;
}

-- a number without a sign, of this width: `number w64` of u64
abbrev pub number : Width → Encoding ℕ
number w = record {
  shape = shapes.unsigned w;
  means = exactly meanings.number;
  single = λ n m is. is;
  writes = writes_memory;
  reads = reads_never;
  in_order = λ parts. unsigned_in_order parts w;
  one_form = λ parts. basic_has_one_form tt;
  is_read = λ parts. basic_is_read tt;
}

-- a number with a sign
abbrev pub integer : Width → Encoding ℤ
integer w = record {
  shape = shapes.signed w;
  means = exactly meanings.integer;
  single = λ n m is. is;
  writes = writes_memory;
  reads = reads_never;
  in_order = λ parts. signed_in_order parts w;
  one_form = λ parts. basic_has_one_form tt;
  is_read = λ parts. basic_is_read tt;
}

abbrev pub flag : Encoding Bool
flag = record {
  shape = shapes.flag;
  means = exactly meanings.flag;
  single = λ b m is. is;
  writes = writes_memory;
  reads = reads_never;
  in_order = λ parts. flag_in_order parts;
  one_form = λ parts. basic_has_one_form tt;
  is_read = λ parts. basic_is_read tt;
}

-- the bytes of a text
abbrev text_bytes : Encoding (List ℕ)
text_bytes = record {
  shape = shapes.text;
  means = exactly meanings.text;
  single = λ t m is. is;
  writes = writes_long_or writes_memory;
  reads = reads_memory;
  in_order = λ parts. text_in_order parts;
  one_form = λ parts. basic_has_one_form tt;
  is_read = λ parts. basic_is_read tt;
}

-- a `String`
abbrev pub text : Encoding (String Global)
text = fields (λ s. string_bytes s) text_bytes

-- a `Box<str>`, which is `BoxedStr` here; below: a `PathText`
abbrev pub boxed_text : Encoding (BoxedStr Global)
boxed_text = fields (λ s. boxed_str_bytes s) text_bytes

abbrev pub path : Encoding PathText
path = fields (λ p. string_bytes p.text) text_bytes

-- a `char`
abbrev pub letter : Encoding ℕ
letter = record {
  shape = shapes.letter;
  means = exactly meanings.number;
  single = λ n m is. is;
  writes = writes_memory;
  reads = reads_never;
  in_order = λ parts. letter_in_order parts;
  one_form = λ parts. basic_has_one_form tt;
  is_read = λ parts. basic_is_read tt;
}

abbrev pub duration : Encoding Duration
duration = record {
  shape = shapes.duration;
  means = exactly of_span;
  single = λ d m is. is;
  writes = writes_memory;
  reads = reads_never;
  in_order = λ parts. duration_in_order parts;
  one_form = λ parts. basic_has_one_form tt;
  is_read = λ parts. basic_is_read tt;
}

-- a `SavedRegex`, which contracts see as the bytes of its text
abbrev pub pattern : Encoding (List ℕ)
pattern = record {
  shape = shapes.pattern;
  means = exactly meanings.pattern;
  single = λ t m is. is;
  writes = writes_long_or writes_memory;
  reads = reads_pattern;
  in_order = λ parts. pattern_in_order parts;
  one_form = λ parts. basic_has_one_form tt;
  is_read = λ parts. basic_is_read tt;
}

-- a `serde_json::Value`
abbrev pub json : Encoding Value
json = record {
  shape = shapes.json;
  means = exactly of_value;
  single = λ v m is. is;
  writes = writes_json;
  reads = reads_memory;
  in_order = λ parts. json_in_order parts;
  one_form = λ parts. basic_has_one_form tt;
  is_read = λ parts. basic_is_read tt;
}

-- a reference of the kind with this number: `RawRef<KIND>`
abbrev pub one : (kind : ℕ) → Encoding (RawRef kind)
one kind = record {
  shape = shapes.reference kind;
  means = exactly (plain_means kind);
  single = λ r m is. is;
  writes = writes_memory;
  reads = reads_never;
  in_order = λ parts. reference_in_order parts kind;
  one_form = λ parts. reference_has_one_form parts kind;
  is_read = λ parts. reference_is_read parts kind;
}

-- a loose reference to a value of the type number t: `PagableArc<T>`
abbrev pub loose : {T : Type 0} → ℕ → Encoding (PagableArc T)
loose t = record {
  shape = shapes.reference (loose_kind t);
  means = exactly (loose_means t);
  single = λ r m is. is;
  writes = writes_memory;
  reads = reads_never;
  in_order = λ parts. reference_in_order parts (loose_kind t);
  one_form = λ parts. reference_has_one_form parts (loose_kind t);
  is_read = λ parts. reference_is_read parts (loose_kind t);
}

-- a reference that holds its value, of the type number t: `Arc<T>` (false), `PinnedPagableArc<T>` (true)
abbrev pub holding : {T : Type 0} {sort : ℕ} → ℕ → Bool → Encoding (HoldingArc T sort)
holding t pins = record {
  shape = shapes.reference (holding_kind t pins);
  means = exactly (holding_means t pins);
  single = λ r m is. is;
  writes = writes_memory;
  reads = reads_lending;
  in_order = λ parts. reference_in_order parts (holding_kind t pins);
  one_form = λ parts. reference_has_one_form parts (holding_kind t pins);
  is_read = λ parts. reference_is_read parts (holding_kind t pins);
}

abbrev pub optional : {T : Type 0} → Encoding T → Encoding (Option T)
optional a = record {
  shape = shapes.optional a.shape;
  means = options a.means;
  single = options_single a.means a.single;
  writes = writes_memory_or a.writes;
  reads = a.reads;
  in_order = λ parts. optional_in_order parts a.shape (a.in_order parts);
  one_form = λ parts. over_has_one_form refl (a.one_form parts);
  is_read = λ parts. over_is_read refl (a.is_read parts);
}

-- the items of a list of any kind; below: a `Vec`
abbrev pub many_items : {T : Type 0} → Encoding T → Encoding (List T)
many_items a = record {
  shape = shapes.list a.shape;
  means = lists a.means;
  single = λ xs. lists_single a.means a.single xs;
  writes = writes_long_or (writes_memory_or a.writes);
  reads = reads_memory_or a.reads;
  in_order = λ parts. list_in_order parts a.shape (a.in_order parts);
  one_form = λ parts. over_has_one_form refl (a.one_form parts);
  is_read = λ parts. over_is_read refl (a.is_read parts);
}

abbrev pub many : {T : Type 0} → Encoding T → Encoding (Vec T)
many a = fields (λ v. v.items) (many_items a)

-- a pair
abbrev pub two : {A B : Type 0} → Encoding A → Encoding B → Encoding (A × B)
two a b = record {
  shape = shapes.both a.shape b.shape;
  means = pairs a.means b.means;
  single = pairs_single a.means b.means a.single b.single;
  writes = writes_either a.writes b.writes;
  reads = reads_either a.reads b.reads;
  in_order = λ parts. both_in_order parts a.shape b.shape (a.in_order parts) (b.in_order parts);
  one_form = λ parts. two_has_one_form (refl, refl) (a.one_form parts) (b.one_form parts);
  is_read = λ parts. two_is_read (refl, refl) (a.is_read parts) (b.is_read parts);
}

-- tuples of more parts, each as the first part and the tuple of the others
abbrev pub three : {A B C : Type 0} → Encoding A → Encoding B → Encoding C → Encoding (A × B × C)
three a b c = fields (λ p. (p.0, (p.1, p.2))) (two a (two b c))

abbrev pub four : {A B C D : Type 0} → Encoding A → Encoding B → Encoding C → Encoding D → Encoding (A × B × C × D)
four a b c d = fields (λ p. (p.0, (p.1, (p.2, p.3)))) (two a (two b (two c d)))

abbrev pub five : {A B C D F : Type 0} → Encoding A → Encoding B → Encoding C → Encoding D → Encoding F
    → Encoding (A × B × C × D × F)
five a b c d f = fields (λ p. (p.0, (p.1, (p.2, (p.3, p.4))))) (two a (two b (two c (two d f))))

-- a `Result`: the success or the failure
abbrev pub outcome : {T X : Type 0} → Encoding T → Encoding X → Encoding (Result T X)
outcome a b = record {
  shape = shapes.outcome a.shape b.shape;
  means = results a.means b.means;
  single = result_single a.means.of b.means.of a.means.meaning b.means.meaning a.single b.single;
  writes = writes_memory_or (writes_either a.writes b.writes);
  reads = reads_either a.reads b.reads;
  in_order = λ parts. outcome_in_order parts a.shape b.shape (a.in_order parts) (b.in_order parts);
  one_form = λ parts. two_has_one_form (refl, refl) (a.one_form parts) (b.one_form parts);
  is_read = λ parts. two_is_read (refl, refl) (a.is_read parts) (b.is_read parts);
}

-- a `Box`, which is written as its value; reading one allocates
abbrev pub boxed : {T : Type 0} → Encoding T → Encoding (Box T)
boxed a = record (fields (λ b. b.value) a) { reads = reads_memory_or a.reads }
