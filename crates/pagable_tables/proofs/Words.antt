-- The names that most proofs here cite, passed on from one place; and what most of them prove by.
use Rattle.std.proofs.lemmas.Bool.Decides.{nat_tests}
pub use Rattle.indexmap.specs.IndexMap.{IndexMap, get}
pub use Rattle.pagable_pager_spec.specs.{
  Basics.{Among, Blob, SameAt, changed, if_there, is_loose_kind, is_pinned_kind, is_shared_kind, one, or_else, times, type_of, updated},
  Calls.{ClearCall, CloneCall, CloseCall, InsertPagedOutCall, LoosenCall, PinCall, RecallCall, ReserveCall, ScheduleCall, SetKeyCall, TakeCall, UnpinCall},
  Calls.{insert_fault, is_handle_here, is_listed, is_usable, moved, next_node, offer_fault, pin_fault, recall_fault, row_of, shut, with_cached, with_handle},
  Calls.{with_key, with_known, with_mode, with_node},
  Cascade.{AreNewEntries, Falls, FallsAnyhow, IsClosed, IsLeast, IsListRefusal, IsWithin, MustList, TellsListing, fallen, held_outside, is_keyed, is_outside},
  Cascade.{left_rows, loses_value, nobody, only_handle, pins_outside},
  Events.with_worker,
  Kinds.{any_mode, fits_mode, has_key, held, is_at, is_handle, is_in_memory, is_loose, is_owned_by, is_owner, is_pin, is_pinned, is_pinning, is_share},
  Kinds.{is_shared, is_unpinned, mode_of, owner_value, owner_worker, pins, sharing},
  LoadCalls.{Adopts, BeginCall, BeginKeyCall, DropCall, EndCall, HandOverCall, Installs, LazyCall, LoadCloses, MayEnd, adopt_fault, adopted, cell_fault},
  LoadCalls.{end_fault, first_key, hand_over_fault, is_owned_in, lazy_fault, node_fault, numbers_of, root_fault, with_load, with_pin, without_load},
  Pager.{HandlesAreWhole, IsEntryWhole, IsHandleBefore, IsRootWhole, IsWhole, MayOwnLoad},
  Refusals.{AreHandlesFull, Owns, OwnsLoad, Refused, closed_fault, earlier, handle_fault, load_fault, rank, reference_fault, refused_if, spent, where_so},
  Workers.{is_workers, is_workers_load, without_worker},
  World.{Alike, Cell, Core, HasRoom, Last, OpenLoad, Places, Root, SameCache, greatest, is_here, of_cell, of_key, row_at, type_at, usable},
  declared.{handle_row.{HandleRow.HandleRow, Owner.Owner}, mode.Mode.Mode, pinning.{Beginning.Beginning, Pinning.Pinning}},
}
pub use Rattle.pagable_tables.specs.{
  CascadeInvariant.{Chain, Fits, IsSoundInCascade, Right, entries_of, entry, is_bare, is_right, is_value_owner, named, often, owns, owns_nothing, valued},
  CascadeProgress.{Begins, IsApart, ReleasedSoFar, is_plain_pin, result_of_listing, with_tables},
  CascadeSteps.{AddsWantedEntry, CantList, CellsStay, FallsBy, GetsKey, HasFallen, HasPlaces, ReleasesWithoutCascade, RemovesOrUnpins, Steps, ValueStays},
  CascadeSteps.{counts_after_release, finished_counts, is_fallen_by, is_last_pin_without_key, is_node, keyed, unpinned},
  Core.{ArePlaced, AreRangesWider, InReach, InsertsNode, LoadsAre, MakesHandle, MayOwnHandle, OnlyRoom, OwnLaterHandles, Suits, contains_row, core_alone},
  Core.{core_of, left_load, load_in, named_at, passes_in, root_in},
  EndingLoads.{IsReady, adopt_check_fault, has_value_once_loaded},
  HandleTable.{AreSound, Becomes, IsBefore, IsNext, alive, is_live_place, live, rows_of},
  Indexes.{cached_at, is_same, load_at, reach_at, worker_at},
  Nodes.{cell_in, counts_at, falls_in, has_value, holds_in, key_in, next_in, pins_in, refs_at},
  NumberTable.row_by,
  ValuesKept.{AreKept, DropsValues},
  declared.{cascade.RefCounts.RefCounts, handle_table.Handles.Handles, load_end.Ending.Ending, load_table.LoadRow.LoadRow},
  declared.{nodes.{Counts.Counts, NodeRow.NodeRow}, number_table.NumberTable.NumberTable, place.Place.Place, release.ReleaseSet.ReleaseSet},
  declared.tables.{HandleRange.HandleRange, Tables.Tables},
}
pub use Rattle.pagable_value_spec.specs.declared.{
  data_key.OptionalDataKey.OptionalDataKey,
  error.Error.Error,
  numbers.{ArcRef.ArcRef, HandleNumber.HandleNumber, Kind.Kind, LoadNumber.LoadNumber, NodeNumber.NodeNumber},
}
pub use Rattle.std.proofs.{
  Common.{Bool, Err, List, None, Ok, Option, Some, add-one, ap, arith, drop, drop-cons, false, filter, get_or, if◌then◌else◌, inl, inr, length, map, nat_eq},
  Common.{not, refl, rules, set, slice_get, subst, suc, sum_by, sym, take, take_all, true, vec_capacity, zero, ℕ, [], ◌&&◌, ◌*◌, ◌++◌, ◌+◌, ◌-◌, ◌/◌, ◌<◌},
  Common.{◌==◌, ◌||◌, ◌∙◌, ◌∷◌, ◌≡◌, ◌≤◌, ◌⊎◌},
  Math.{Bool.and-true, Seq.take-suc},
  lemmas.{Bool.{and_parts, cases_Bool, cases_eq}, Grind.get_or-set_at},
  lemmas.List.{Elements.{All-filter, All-push, All-set, filter-append, filter_from_retain}, Kept.AllPairs-filter, Quantifiers.all_pairs_push},
  lemmas.List.{Sums.{get_or-le-sum_by, sum_by-append, sum_by-cons, sum_by-le-sum_by, sum_by-remove, sum_by-set, sum_by_push}, append-nil, append_assoc},
  lemmas.List.{at_drop_all, at_drop_more, drop_all, get_or-map, get_or-set_other, get_or_default, length-append, length-map, length-set, map-append},
  lemmas.Option.{get_or_from_slice_get, slice_get-get_or, slice_get_read, slice_get_within},
}
pub use Rattle.std.specs.{List.AllPairs, Option.option_map, Prelude.{IfSome, IsSome, Result, is_some, nat_lt, ◌≢◌}}
unfoldable pub use Rattle.{pagable_tables.specs.Core.seen, pagable_pager_spec.specs.{Calls.is_named_by, Kinds.find_row, Basics.is_in, Refusals.{named_fault, references_fault}}}

-- arithmetic, and what tests of numbers tell
pub ruleset basics = (arith, nat_tests)
