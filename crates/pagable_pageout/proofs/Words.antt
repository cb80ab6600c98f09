-- The names that most proofs here use, re-exported from one place; and what nearly all of them prove by.
pub use Rattle.pagable_codec.specs.declared.{env.Env.Ghosts as Environments, hash.KeyHash.Ghosts as Hashes, nodes.NodeSet.Ghosts as Nodes}
pub use Rattle.pagable_load.proofs.LoadSteps.{acts_all, acts_map, tells_all, tells_map}
pub use Rattle.pagable_load.specs.AccessView.{values_at}
pub use Rattle.pagable_pageout.specs.{
  PageOuts.answer_of,
  Slots.{is_same, keys_of, open_worker, shelf_in, slot_of, written_of},
  Table.{claim_result, shelf_of},
  Tasks.{EachIsAwaited, EndsWithItem, EntryGetsResult, NeedsNoPager, back_of, todo_of, todos, waiting_todo, waits_as, work_left},
  Turns.{EndsIfAnswered, FollowsStore, HasWalked, PerformsStep, PerformsTask, RunsToAnswer, plain, todos_after},
  declared.tasks.{ClaimedNode.ClaimedNode, PageOutError.PageOutError, StepResult.StepResult, Task.Task, Turn.Turn, WaitingValue.WaitingValue},
}
pub use Rattle.pagable_pager_spec.specs.{
  Access.MakesCall,
  Basics.{ArcRef, Error, HandleNumber, if_there, longest_path},
  Events.no_shelf,
  Kinds.identity_of,
  Pager.{IsPagerWhole, PagerState},
  Workers.{advance, with_changed_slot, with_outcome},
  World.{SameShelf, Shelf, Todo, Values, Written, published, to_fail, to_finish, to_item, to_publish, to_release, to_start, was_refused},
  declared.{events.{Action.Action, Claim.Claim, WorkerAnswer.WorkerAnswer}, handle_row.Owner.Owner},
}
pub use Rattle.pagable_theorems.proofs.Trees.{same_some}
pub use Rattle.std.proofs.{
  Common.{Bool, Err, List, None, Ok, Option, Result, Some, ap, arith, false, if◌then◌else◌, inl, inr, length, nat_eq, refl, slice_get, subst, sym, true, ℕ, []},
  Common.{◌*◌, ◌+◌, ◌<◌, ◌∙◌, ◌∷◌, ◌≡◌, ◌≤◌},
  lemmas.{Bool.Decides.nat_tests, Grind.common_steps, List.length-map, Option.none-some},
}
pub use Rattle.std.specs.{
  Arc.arc_value,
  Map.lookup,
  Option.option_map,
  declared.cmp.{Ord.Ghosts as Orders, PartialEq.Ghosts as Equalities, PartialOrd.Ghosts as PartialOrders},
}
pub use mathlib.Core.Logic.{∥∥₁_map}

-- arithmetic, and what tests of numbers tell; and the usual lemmas with these
pub ruleset tests = (arith, nat_tests)

pub ruleset basics = (tests, common_steps)
