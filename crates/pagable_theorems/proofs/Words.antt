-- The names that most proofs here use, re-exported from one place; and what nearly all of them prove by.
use Rattle.std.proofs.lemmas.Bool.Decides.{nat_tests}
pub use Rattle.pagable_pager_spec.specs.{
  Basics.{Among, ArcRef, Blob, Error, HandleNumber, Identity, Kind, LoadNumber, NodeNumber, OptionalDataKey, ReadsTree, Tree, Types, WorkerNumber, above},
  Basics.{if_there, is_eager, one, times, tree, type_of, updated},
  Calls.{CloneCall, PinCall, moved, next_node, with_handle},
  Events.{Happens, WorkerSteps},
  Kinds.{any_mode, held, identity_of, is_handle, is_owned_by, is_owner, is_pinning, mode_of, owner_value, owner_worker, pins},
  LoadCalls.{GetsKnown, adopted, first_key},
  Loads.{ReadsRoot, next_in, root_frame},
  Order.step_of,
  Pager.{HandlesAreWhole, IsIdle, IsMachineWhole, IsPagerWhole, MachineState, PagerStandsFor, PagerState, ReadingFits, ValueStands, world_of},
  Refusals.IsReference,
  Runs.{AreMoments, HoldsSettled, IsWellAsked, KeepsOpen, Moment},
  Workers.{IsPublished, WalkDoes, WorkDoes, WorkerState, answer_after, give},
  World.{Alike, Core, Frame, IsLawful, Last, OpenLoad, Reading, Seen, Shelf, Slot, Task, Todo, Values, Walking, World, Written, key_at, no_result, of_cell},
  World.{of_entry, of_item, row_at, to_fail, to_finish, to_item, to_load, to_pin, to_release, to_set, to_start, to_write},
  declared.calls.{Call.Call, Reply.Reply},
  declared.events.{Action.Action, Claim.Claim, Event.Event, EventReply.EventReply, LoadAnswer.LoadAnswer, WorkerAnswer.WorkerAnswer, WorkerReply.WorkerReply},
  declared.{handle_row.{HandleRow.HandleRow, Owner.Owner}, mode.Mode.Mode, pinning.Beginning.Beginning},
}
pub use Rattle.pagable_theorems.specs.{FormLaws.rest, TreeSteps.{Change, FollowsTo, ReadingFeels, WorkFits, bears_known, integer-leads, nothing_felt}}
pub use Rattle.pagable_value_spec.specs.{
  Canonical.{IsReadableType, Throughout},
  Form.{Entries, Form, Forms, reference-form, run-form},
  Keys.Entry,
  Meaning.{Meaning, followed, none, pair, reference, variant},
  Merkle.blob_of,
  Shape.Shape,
}
pub use Rattle.std.proofs.{
  Common.{Bool, Err, List, None, Ok, Option, Result, Some, ap, append_assoc, arith, cond, false, if◌then◌else◌, inl, inr, le_trans, length, map, not, refl},
  Common.{rules, subst, suc, sym, true, zero, ℕ, ℤ, [], ◌&&◌, ◌*◌, ◌++◌, ◌+◌, ◌<◌, ◌==◌, ◌||◌, ◌∙◌, ◌∷◌, ◌≡◌, ◌≤◌, ◌⊎◌},
  lemmas.{Bool.{and_parts, cases_Bool, cases_lt, false_from_ne_true}, List.{Sums.sum_by-cons, append-nil, length-append}},
  lemmas.Option.slice_get_within,
}
pub use Rattle.std.specs.Prelude.{drop, filter, is_some, max, nat_eq, slice_get}
unfoldable pub use Rattle.pagable_pager_spec.specs.{Kinds.find_row, Pager.FramesFit, Basics.is_in, Refusals.references_fault, Runs.state_after}
unfoldable pub use Rattle.{pagable_value_spec.specs.{Canonical.{IsReadable, LiesIn}, Keys.{code, put_all}, Meaning.rename, Reading.read, References.references_in}, pagable_pager_spec.specs.Calls.is_named_by}

-- arithmetic, and what tests of numbers tell
pub ruleset basics = (arith, nat_tests)
