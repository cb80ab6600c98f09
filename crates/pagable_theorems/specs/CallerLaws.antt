-- The law of callers: along any calls of a pager and whole operations on it each node keeps a tree, and each pin, read
-- and page-out gives what the headline says.
use Rattle.pagable_pager_spec.specs.{
  Access.{AccessState, IsValueOf, ItemRun, ListRun, LoadAsksWell, PinRun, ReadRun, load-fails, load-pins, load-reads},
  Access.reading-fails,
  Basics.{Error, HandleNumber, Tree},
  Events.{CallStep, no_shelf},
  Pager.{CallBrings, IsPagerWhole, Moves, PagerStandsFor, PagerState, SameTrees, ValueStands},
  Rightness.{GivesTree, ReadIsRight},
  Runs.{AsksWell, HoldsSettled, KeepsOpen},
  World.{IsLawful, SameShelf, Seen, Values, of_item},
  declared.{calls.{Call.Call, Reply.Reply}, events.{Event.Event, WorkerAnswer.WorkerAnswer}, handle_row.Owner.Owner},
  declared.pinning.Pinning.Pinning,
}
use Rattle.pagable_theorems.specs.PageOutLaws.{EachIsPagedOut, ItemAsksWell, LeavesPagedOut, ListAsksWell, NobodyWorks}
use Rattle.pagable_theorems.specs.TreeSteps.{KeepsStored, RowsGo}
use Rattle.std.specs.Prelude.{Err, Ok, Result, ℕ, ◌≡◌, ◌≤◌}

-- a call of the pager: its step, and the value that it brings into memory
pub record IsCall {N E B W : Type 0} (m : Seen N B W) (s : PagerState N E) (call : Call N B) (reply : Reply N B)
    (s' : PagerState N E) : Type 0 where
  pub step : CallStep m s.core Owner.Caller call reply s'.core
  pub moves : Moves (CallBrings s.core call) s s'
  pub whole : IsPagerWhole m.values s'

-- each node keeps its tree, each handle its node, what was stored is stored, and nobody works
pub record NodesStay {N E : Type 0} (v : Values N) (s : PagerState N E) (trees : ℕ → Tree) (s' : PagerState N E)
    : Type 0 where
  pub trees' : ℕ → Tree
  pub same : SameTrees s.core.last.node trees trees'
  pub stands : PagerStandsFor v s' trees'
  pub nobody : NobodyWorks s'.core
  pub nodes : s.core.last.node ≤ s'.core.last.node
  pub handles : s.core.last.handle ≤ s'.core.last.handle
  pub rows : RowsGo s.core.last.handle s.core.rows s'.core.rows
  pub stored : KeepsStored s.core.stored s'.core.stored

-- An operation that brings no value into memory, and after which nodes have stayed so, whatever trees the pager stood
-- for: if nobody worked, and no value in memory was written later.
pub record KeepsNodes {N E : Type 0} (v : Values N) (s s' : PagerState N E) : Type 0 where
  pub moves : Moves (λ n x. ⊥) s s'
  pub whole : IsPagerWhole v s'
  pub stay : NobodyWorks s.core → HoldsSettled v s → (trees : ℕ → Tree) → PagerStandsFor v s trees
      → NodesStay v s trees s'

-- one call of the pager; or a pin; or a read; or a page-out of an item on a new table, or of the list's first i entries;
-- or any other operation that brings no value into memory and keeps trees, as a page-out of what changed
pub data Operation {N E B W : Type 0} (m : Seen N B W) : PagerState N E → PagerState N E → Type 0 where
  calls : (call : Call N B) (reply : Reply N B) (s s' : PagerState N E) → IsCall m s call reply s' → Operation m s s'
  pins : (h : HandleNumber) (r : Result HandleNumber Error) (s s' : PagerState N E) → PinRun m.values s h r s'
      → Operation m s s'
  reads-key : (key t : ℕ) (r : Result N Error) (s s' : PagerState N E) → ReadRun m.values s key t r s'
      → Operation m s s'
  pages-item : (item : W) (answer : WorkerAnswer) (s s' : AccessState N E) → SameShelf no_shelf s.shelf
      → ItemRun m s (m.written_of item) answer s'
      → Operation m s.pager s'.pager
  pages-list : (i : ℕ) (answer : Result (Unit {0}) WorkerAnswer) (s s' : PagerState N E) → ListRun m i s answer s'
      → Operation m s s'
  keeps-nodes : (s s' : PagerState N E) → KeepsNodes m.values s s' → Operation m s s'

-- operations, one after the other
pub data Operations {N E B W : Type 0} (m : Seen N B W) : PagerState N E → PagerState N E → Type 0 where
  is-done : (s : PagerState N E) → Operations m s s
  goes-on : (s mid s' : PagerState N E) → Operation m s mid → Operations m mid s' → Operations m s s'

abbrev pub PinAsksWell : {N E : Type 0} {v : Values N} {s s' : PagerState N E} {h : HandleNumber}
    {r : Result HandleNumber Error} → PinRun v s h r s' → Type 0
PinAsksWell (load-pins k reading mid s' starts run) = LoadAsksWell run
PinAsksWell (load-fails e reading mid s' starts run) = LoadAsksWell run
PinAsksWell run = Unit {0}

abbrev pub ReadAsksWell : {N E : Type 0} {v : Values N} {s s' : PagerState N E} {key t : ℕ} {r : Result N Error}
    → ReadRun v s key t r s' → Type 0
ReadAsksWell (load-reads x l mid s' starts run) = LoadAsksWell run
ReadAsksWell (reading-fails e l mid s' starts run) = LoadAsksWell run
ReadAsksWell run = Unit {0}

-- what the headline asks of an operation, for the trees before it
abbrev pub OperationAsksWell : {N E B W : Type 0} {m : Seen N B W} {s s' : PagerState N E} → (ℕ → Tree)
    → Operation m s s' → Type 0
OperationAsksWell {N} {E} {B} {W} {m = m} trees (calls call reply s s' c) =
    KeepsOpen {N = N} {B = B} {W = W} (Event.Call call) × AsksWell m.values s trees call reply
    × HoldsSettled m.values s'
OperationAsksWell trees (pins h r s s' run) = PinAsksWell run
OperationAsksWell trees (reads-key key t r s s' run) = ReadAsksWell run
OperationAsksWell trees (pages-item item answer s s' new run) = ItemAsksWell run
OperationAsksWell trees (pages-list i answer s s' run) = ListAsksWell run
OperationAsksWell trees (keeps-nodes s s' keeps) = Unit {0}

-- what a pin as one operation gives; below: a read of a key
abbrev pub PinIsRight : {N E : Type 0} → Values N → PagerState N E → (ℕ → Tree) → Result HandleNumber Error → Type 0
PinIsRight v s trees (Ok k) = GivesTree v s trees k
PinIsRight v s trees (Err e) = Unit {0}

abbrev pub ReadingIsRight : {N E : Type 0} → Values N → PagerState N E → ℕ → Result N Error → Type 0
ReadingIsRight v s key (Ok x) = ReadIsRight v s key x
ReadingIsRight v s key (Err e) = Unit {0}

abbrev pub CallIsRight : {N E B : Type 0} → Values N → PagerState N E → (ℕ → Tree) → Call N B → Reply N B → Type 0
CallIsRight v s trees (Call.Pin h) (Reply.Pin (Ok (Pinning.Pinned k))) = GivesTree v s trees k
CallIsRight v s trees (Call.LoadEnd l x) (Reply.LoadEnded (Ok k)) = GivesTree v s trees k
CallIsRight v s trees call reply = Unit {0}

-- what an operation gives, for the trees before and after it
abbrev pub OperationIsRight : {N E B W : Type 0} {m : Seen N B W} {s s' : PagerState N E} → (trees trees' : ℕ → Tree)
    → Operation m s s' → Type 0
OperationIsRight {m = m} trees trees' (calls call reply s s' c) = CallIsRight m.values s' trees' call reply
OperationIsRight {m = m} trees trees' (pins h r s s' run) = PinIsRight m.values s' trees' r
OperationIsRight {m = m} trees trees' (reads-key key t r s s' run) = ReadingIsRight m.values s' key r
OperationIsRight {m = m} trees trees' (pages-item item answer s s' new run) =
    (key : ℕ) → answer ≡ WorkerAnswer.Key key → LeavesPagedOut m.values s'.pager s'.shelf trees'
    (of_item (m.written_of item)) key
OperationIsRight trees trees' (pages-list i answer s s' run) = EachIsPagedOut run trees
OperationIsRight trees trees' (keeps-nodes s s' keeps) = Unit {0}

-- trees after each operation, which each node keeps and for which it is right, as long as all were asked well
unfoldable pub AreRight : {N E B W : Type 0} {m : Seen N B W} {s s' : PagerState N E} → (ℕ → Tree) → Operations m s s'
    → Type 0
AreRight trees (is-done s) = Unit {0}
AreRight {m = m} trees (goes-on s mid s' one more) =
    OperationAsksWell trees one
    → (trees' : ℕ → Tree) × SameTrees s.core.last.node trees trees' × PagerStandsFor m.values mid trees'
    × OperationIsRight trees trees' one × AreRight trees' more

-- what the headline asks of each operation, whatever the trees before it
unfoldable pub AskWell : {N E B W : Type 0} {m : Seen N B W} {s s' : PagerState N E} → Operations m s s' → Type 0
AskWell (is-done s) = Unit {0}
AskWell {m = m} (goes-on s mid s' one more) = ((trees : ℕ → Tree) → PagerStandsFor m.values s trees
    → OperationAsksWell trees one) × AskWell more

-- The law of pinning again: the values that two pins by the same handle give, with any operations between them, stand
-- for one tree.
abbrev pub PinnedAgainLaw : {N B W : Type 0} → (E : Type 0) → Seen N B W → Type 0
PinnedAgainLaw {N} {B} {W} E m = (s mid later s' : PagerState N E) (trees : ℕ → Tree) (h k l : HandleNumber) (x y : N)
    (first : PinRun m.values s h (Ok k) mid) (between : Operations m mid later)
    (again : PinRun m.values later h (Ok l) s')
    → IsPagerWhole m.values s → NobodyWorks s.core → IsLawful m.values → HoldsSettled m.values s
    → PagerStandsFor m.values s trees
    → PinAsksWell first → AskWell between → PinAsksWell again → IsValueOf mid k x → IsValueOf s' l y
    → (t : Tree) × ValueStands m.values mid x t × ValueStands m.values s' y t

-- The law, for any operations on a pager on which nobody else works.
abbrev pub CallerLaw : {N B W : Type 0} → (E : Type 0) → Seen N B W → Type 0
CallerLaw {N} {B} {W} E m = (s s' : PagerState N E) (trees : ℕ → Tree) (operations : Operations m s s')
    → IsPagerWhole m.values s → NobodyWorks s.core
    → IsLawful m.values
    → HoldsSettled m.values s → PagerStandsFor m.values s trees → AreRight trees operations
