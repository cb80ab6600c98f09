-- The encodings of lists of other kinds, arrays, sets and maps. A hash map has none, since it may be written in any order.
use Rattle.indexmap.specs.{IndexMap.IndexMap, IndexSet.IndexSet}
use Rattle.pagable_nodes.specs.{
  Encoding.{Encoding, fields, many_items, two},
}
use Rattle.pagable_traits.specs.{
  Meanings.{lists, lists_single, pairs, pairs_single, seen_by},
  OwnCauses.{reads_either, reads_memory_or, writes_either, writes_long_or, writes_memory_or},
  ReadBack.{over_is_read, two_is_read},
  Refers.{array_in_order, placed_map_in_order, placed_set_in_order, sorted_map_in_order, sorted_set_in_order},
  declared.impls.holders.Thin.Thin,
}
use Rattle.pagable_value_spec.specs.{Keys.KeyOrder, OneForm.{over_has_one_form, two_has_one_form}}
use Rattle.smallvec.specs.SmallVec.{SmallVec}
use Rattle.std.specs.{
  BTreeMap.BTreeMap,
  BTreeSet.BTreeSet,
  Box.boxed_slice_items,
  Prelude.{List, refl, ℕ},
  declared.{alloc.Global.Global, boxed.BoxedSlice.BoxedSlice},
}
use Rattle.pagable_value_spec.specs.Shape as shapes

-- a `SmallVec<T, N>`, a `BoxedSlice`, and a `Thin`: a header and a list
abbrev pub small_vec : {T : Type 0} → Encoding T → Encoding (SmallVec T)
small_vec a = fields (λ v. v.items) (many_items a)

abbrev pub boxed_slice : {T : Type 0} → Encoding T → Encoding (BoxedSlice T Global)
boxed_slice a = fields (λ v. boxed_slice_items v) (many_items a)

abbrev pub thin : {H T : Type 0} → Encoding H → Encoding T → Encoding (Thin H T)
thin header item = fields (λ t. (t.header, t.items.items)) (two header (many_items item))

-- an array of so many items: `[T; N]`; reading one allocates
abbrev pub array : {T : Type 0} → ℕ → Encoding T → Encoding (List T)
array count a = record {
  shape = shapes.array count a.shape;
  means = lists a.means;
  single = λ xs. lists_single a.means a.single xs;
  writes = a.writes;
  reads = reads_memory_or a.reads;
  in_order = λ parts. array_in_order parts count a.shape (a.in_order parts);
  one_form = λ parts. over_has_one_form refl (a.one_form parts);
  is_read = λ parts. over_is_read refl (a.is_read parts);
}

-- a `BTreeSet` whose items have this order: `text_order` of `String`s, and more in `pagable_value_spec.specs.Keys`
abbrev pub sorted_set : {T : Type 0} → KeyOrder → Encoding T → Encoding (BTreeSet T)
sorted_set order a = record {
  shape = shapes.sorted_set order a.shape;
  means = seen_by (λ s. s.keys) (lists a.means);
  single = λ s. lists_single a.means a.single s.keys;
  writes = writes_long_or (writes_memory_or a.writes);
  reads = reads_memory_or a.reads;
  in_order = λ parts. sorted_set_in_order parts order a.shape (a.in_order parts);
  one_form = λ parts. over_has_one_form refl (a.one_form parts);
  is_read = λ parts. over_is_read refl (a.is_read parts);
}

-- an `IndexSet`
abbrev pub placed_set : {T S : Type 0} → Encoding T → Encoding (IndexSet T S)
placed_set a = record {
  shape = shapes.placed_set a.shape;
  means = seen_by (λ s. s.keys) (lists a.means);
  single = λ s. lists_single a.means a.single s.keys;
  writes = writes_long_or (writes_memory_or a.writes);
  reads = reads_memory_or a.reads;
  in_order = λ parts. placed_set_in_order parts a.shape (a.in_order parts);
  one_form = λ parts. over_has_one_form refl (a.one_form parts);
  is_read = λ parts. over_is_read refl (a.is_read parts);
}

-- a `BTreeMap` whose keys have this order
abbrev pub sorted_map : {K V : Type 0} → KeyOrder → Encoding K → Encoding V → Encoding (BTreeMap K V)
sorted_map order a b = record {
  shape = shapes.sorted_map order a.shape b.shape;
  means = seen_by (λ m. m.entries) (lists (pairs a.means b.means));
  single = λ m. lists_single (pairs a.means b.means) (pairs_single a.means b.means a.single b.single) m.entries;
  writes = writes_long_or (writes_memory_or (writes_either a.writes b.writes));
  reads = reads_memory_or (reads_either a.reads b.reads);
  in_order = λ parts. sorted_map_in_order parts order a.shape b.shape (a.in_order parts) (b.in_order parts);
  one_form = λ parts. two_has_one_form (refl, refl) (a.one_form parts) (b.one_form parts);
  is_read = λ parts. two_is_read (refl, refl) (a.is_read parts) (b.is_read parts);
}

-- an `IndexMap`
abbrev pub placed_map : {K V S : Type 0} → Encoding K → Encoding V → Encoding (IndexMap K V S)
placed_map a b = record {
  shape = shapes.placed_map a.shape b.shape;
  means = seen_by (λ m. m.entries) (lists (pairs a.means b.means));
  single = λ m. lists_single (pairs a.means b.means) (pairs_single a.means b.means a.single b.single) m.entries;
  writes = writes_long_or (writes_memory_or (writes_either a.writes b.writes));
  reads = reads_memory_or (reads_either a.reads b.reads);
  in_order = λ parts. placed_map_in_order parts a.shape b.shape (a.in_order parts) (b.in_order parts);
  one_form = λ parts. two_has_one_form (refl, refl) (a.one_form parts) (b.one_form parts);
  is_read = λ parts. two_is_read (refl, refl) (a.is_read parts) (b.is_read parts);
}
