-- The names that most proofs here cite, passed on from one place. Declares nothing.
pub use Rattle.pagable_codec.proofs.{
  Reading.moves_trans,
  Writing.{grows_bytes, grows_refl, grows_trans, memory_refuses, refused_memory, then, writes_bytes, writes_is, writes_nothing},
}
pub use Rattle.pagable_traits.specs.{
  Clauses.{Piece, Reads, Wrote, bytes, context_in, item_forms, nested_in},
  JsonData.{of_data, of_key, of_value},
  KeyLaws.IsKey,
  Meanings.{AreSingle, Meanings, Means, pairs, some},
  Walks.{RefusedAmong, RefusedCounted, WritesEach},
}
pub use Rattle.pagable_value_spec.specs.{
  BasicValues.{bool_at, bool_form, char_at, length_at, length_form, longest, text_at, text_form},
  CarriedTypes.of_entries,
  Collected.Collected,
  Composite.{MeanAll, MeansList, MeansOption, MeansPair, MeansResult, items_have_meanings, mean-more, mean-none, means-err, means-none, means-ok, means-some},
  Composite.pair_has_meaning,
  Cursor.{Answer, Gave, GivesSome, Is, MovesOn, SomeMeaning, handles_at},
  Form.{Entries, Forms, both-form, err-form, flag-form, list-form, more-entries, more-forms, no-forms, ok-form, signed-form, some-form, sorted-map-form},
  Form.text-form,
  Keys.{Differ, Entry, KeyOrder, ordered, put_sorted, same_key, text_order},
  Lengths.long_or_memory,
  Meaning.{Meaning, absent, entry, failure, integer, none, number, pair, present, sequence, success, variant},
  Numbers.{Read, signed_at, unsigned_at},
  Outcomes.{Extends, IsOutOfMemory, MatchesReading, json_causes, long_or, memory_or, no_own_causes},
  ReadSteps.◌>>=◌,
  Reading.{Context, Gets, Rest, array_case, bytes_of, counted, deepest, object_case, seen},
  Shape.{Shape, both, flag, json, list, optional, outcome, signed, sorted_map, text},
  Writing.{FormAt, FormsAt, Grows, Nesting, NoForm, NoFormOfSome, NoForms, NoFormsOfSome, Out, Refused, RefusedAll, WritesSome, WritesSomeAll, added},
  Writing.{kind_of_arc, nesting},
  declared.{error.Error.Error, numbers.ArcRef.ArcRef},
}
pub use Rattle.serde_json.specs.{Find.as_i64, View.{number_view, view}, declared.value.Value.Value}
pub use Rattle.std.proofs.{
  Common.{Bool, Err, Global, IsPermutation, List, None, Ok, Option, Result, Some, String, Vec, ap, append_assoc, arith, false, get_or, inl, inr, is_some},
  Common.{length, map, refl, rules, subst, suc, sym, take, true, zero, ℕ, [], ◌*◌, ◌++◌, ◌+◌, ◌-◌, ◌<◌, ◌^◌, ◌∙◌, ◌∷◌, ◌≡◌, ◌≤◌},
  lemmas.{Int.to_z-of_z, List.{append-nil, length-map}, Result.err_from_is_err_and},
}
pub use Rattle.std.specs.{
  BTreeMap.insert_entry,
  Borrow.Bor,
  Cmp.IsTotalOrder,
  Int.{w32, w64},
  List.AllByRecursion,
  Map.{keys_of, lookup, set_value},
  Ordering.{is_eq, match_ordering, ordering_reverse},
  Prelude.{IfErr, OnOk, pos, ℤ, ◌⊎◌},
  Result.IsErrAnd,
  String.{string_bytes, string_cmp},
  declared.cmp.Ordering.Ordering,
}
unfoldable pub use Rattle.{pagable_value_spec.specs.{Collected.PutInTurn, Keys.{AllAfter, Apart, put_all}, Reading.{items, read, read_with}}, std.specs.List.{IsDistinct, Sorted.IsStrictlySortedBy}}
