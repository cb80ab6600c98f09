-- What values in memory hold beside their references: the values of the references' nodes, after any step.
use Rattle.pagable_pager_spec.specs.{
  Access.ReadRun,
  Pager.{HoldsItsNodes, HoldsItsValues, HoldsPinned, IsPagerWhole, Moves, PagerState},
  Refusals.references_fault,
  Runs.BringsHeld,
  World.{Seen, Values},
  declared.handle_row.Owner.Owner,
}
use Rattle.pagable_theorems.specs.CallerLaws.{Operation, Operations, calls, goes-on, is-done}
use Rattle.std.specs.Prelude.{None, Ok, ℕ, [], ◌≡◌}

-- The law, for any step: if the step brings only values into memory that hold their nodes' values, and each value in
-- memory did before, each does afterwards.
abbrev pub StepsKeepHeldValues : {N : Type 0} → (E : Type 0) → Values N → Type 0
StepsKeepHeldValues {N} E v = (s s' : PagerState N E) → IsPagerWhole v s' → Moves (λ n x. HoldsItsNodes v s x) s s'
    → HoldsItsValues v s → HoldsItsValues v s'

-- A value that holds what the handles of its references pin holds its nodes' values, if its references have no fault.
abbrev pub PinnedValuesAreHeld : {N : Type 0} → (E : Type 0) → Values N → Type 0
PinnedValuesAreHeld {N} E v = (s : PagerState N E) (owner : Owner) (x : N) → IsPagerWhole v s
    → references_fault s.core owner [] (v.references x) ≡ None → HoldsPinned v s x → HoldsItsNodes v s x

-- asked of calls only: the values that a pin, a read or a page-out brings were read by a load
abbrev pub OperationBringsHeld : {N E B W : Type 0} {m : Seen N B W} {s s' : PagerState N E} → Operation m s s' → Type 0
OperationBringsHeld {m = m} (calls call reply s s' c) = BringsHeld m.values s call s'
OperationBringsHeld operation = Unit {0}

unfoldable pub CallersBringHeld : {N E B W : Type 0} {m : Seen N B W} {s s' : PagerState N E} → Operations m s s'
    → Type 0
CallersBringHeld (is-done s) = Unit {0}
CallersBringHeld (goes-on s mid s' one more) = OperationBringsHeld one × CallersBringHeld more

-- The law, for any operations: each value in memory holds its nodes' values, if each did at first and each that a
-- caller brings does.
abbrev pub HeldByCallersLaw : {N B W : Type 0} → (E : Type 0) → Seen N B W → Type 0
HeldByCallersLaw {N} {B} {W} E m = (s s' : PagerState N E) (operations : Operations m s s') → IsPagerWhole m.values s
    → CallersBringHeld operations → HoldsItsValues m.values s → HoldsItsValues m.values s'

-- The law of a read of a key: the value that it returns holds what the handles of its references pin.
abbrev pub ReadHoldsLaw : {N : Type 0} → (E : Type 0) → Values N → Type 0
ReadHoldsLaw {N} E v = (s s' : PagerState N E) (key t : ℕ) (x : N) → ReadRun v s key t (Ok x) s' → HoldsPinned v s' x
