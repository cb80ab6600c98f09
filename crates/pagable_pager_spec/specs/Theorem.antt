-- The theorem on one page: for every hash, every registry of distinct tags and every list of steps of callers, loads
-- and workers, each pin that succeeds gives the tree its handle was made with, each count is the number of handles that
-- pin, a cell holds its value exactly while it is pinned or keyless, and each page-out that succeeds claims every node
-- at most once, by each kind of reference, and answers a canonical value's Merkle key.
-- The law `headline` of `pagable_theorems` proves it, `Machine::run` of `pagable` has it as its contract, and the law
-- `two_levels_meet_the_headline` shows that its premises can be met.
-- What no parameter says: the storage is honest, that is, it never took a wrong answer of what lies below it as true.
-- `Machine::run` makes steps of the definitions as long as it is; they say what an honest storage does (`StoreCall`,
-- `FetchCall`, Calls).
use Rattle.pagable_pager_spec.specs.{
  Basics.{Event, EventReply, Tree},
  Kinds.held,
  Pager.{HoldsItsValues, IsIdle, IsMachineWhole, MachineState, PagerStandsFor, PagerState, StandsFor},
  Rightness.{IsRight, StepsAreWithin, WorkIsRight},
  Runs.{AreMoments, HasRun, HoldsSettled, Moment, MomentsBringHeld, TreesAlong, events_of, replies_of, state_after},
  World.{IsLawful, Seen, Values},
}
use Rattle.std.specs.Prelude.{List, ℕ, ◌++◌, ◌<◌, ◌≡◌}

-- What holds of a chain of moments, each an event, its reply and the machine after it.
pub record Headline {N E B W : Type 0} (m : Seen N B W) (start : MachineState N E)
    (moments : List (Moment N E B W)) : Type 0 where
  -- Each event is a step of the world (`Step`, Events) and leaves the machine whole. This is the premise again: each
  -- call owes it, and `MeetsHeadline` below says so. Read next: `EventDoes` (Runs).
  pub chain : AreMoments m start moments
  -- Workers step in order and within a bound, claim only what is met and unclaimed, fail only if they met an error or a
  -- failed claim, and own nothing once they have a result; open loads have steps left. Read next: Rightness.
  pub work : WorkIsRight m (state_after start moments) (events_of moments) (replies_of moments)
  -- A caller's load of n references ends within 2n + 2 steps. Read next: `IsWithinBound` (Order).
  pub loads : StepsAreWithin m.values start moments
  -- And by trees: if the machine stands for these trees (`StandsFor`, Pager), the value types are lawful (`IsLawful`,
  -- World) and no value is written to later (`HoldsSettled`, Runs), then each event is right, if it and all before it
  -- are asked well (`IsPremised`, Runs): each pin gives its tree, each page-out leaves all that it met stored and
  -- answers its key. Read next: `IsRight` (Rightness).
  pub trees : (trees : ℕ → Tree) → StandsFor m.values start trees → IsLawful m.values
      → HoldsSettled m.values start.pager
      → TreesAlong m (IsRight m.values) start trees moments
  -- And by values, as `get` of an `Arc` in a value shows them: if each value in memory holds, beside its references, the
  -- values of their nodes (`HoldsItsValues`, Pager), and each that a caller's call brings does (`MomentsBringHeld`,
  -- Runs), then each does at the end. No call checks what a caller brings.
  pub holds : MomentsBringHeld m.values start moments → HoldsItsValues m.values start.pager
      → HoldsItsValues m.values (state_after start moments).pager

-- The law: `Headline` holds of every chain (`AreMoments`) that begins at a whole machine (`IsMachineWhole`) on which
-- nobody works (`IsIdle`).
abbrev pub HeadlineLaw : {N B W : Type 0} → (E : Type 0) → Seen N B W → Type 0
HeadlineLaw {N} {B} {W} E m = (start : MachineState N E) (moments : List (Moment N E B W))
    → IsMachineWhole m.values start → IsIdle start → AreMoments m start moments → Headline m start moments

-- The law that `trees` is no choice: a live node has one tree in all assignments for which the pager stands, if each
-- value in memory has at most one meaning.
abbrev pub OneTreeLaw : {N : Type 0} → (E : Type 0) → Values N → Type 0
OneTreeLaw {N} E v = (s : PagerState N E) (trees others : ℕ → Tree) (n : ℕ) → HoldsSettled v s
    → PagerStandsFor v s trees → PagerStandsFor v s others → 0 < held n s.core.rows → others n ≡ trees n

-- What `Machine::run` of `pagable` promises of a list of events (clause `run`), if the storage is honest after the last.
-- Runs join (law `runs_join`): so of lists that run one after another, such as lists of one event, it holds up to the
-- last one after which the storage is honest.
pub record MeetsHeadline {N E B W : Type 0} (m : Seen N B W) (old : MachineState N E) (happened : List (Event N B W))
    (replied : List (EventReply N B W)) (new : MachineState N E) : Type 0 where
  -- These events, with these replies, lead from the old machine to the new one, and the machine is whole after each: so
  -- the count of a node is the number of its handles that pin (`counted` of `IsPagerWhole`, Pager), and a node has its
  -- value in memory exactly if it is live, and pinned or without a key (`valued`).
  pub run : HasRun m old happened replied new
  -- The headline holds of them, after any chain from an idle machine to the old one.
  pub right : (start : MachineState N E) (before : List (Moment N E B W)) → IsMachineWhole m.values start
      → IsIdle start → AreMoments m start before → state_after start before ≡ old
      → Headline m start (before ++ run.moments)
