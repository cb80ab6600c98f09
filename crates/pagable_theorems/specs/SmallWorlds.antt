-- Small states over any storage, which show that the definitions can be satisfied and what they exclude; and the laws
-- of releasing handles, of new pagers, of what blobs ask for, and of chains.
use Rattle.pagable_pager_spec.specs.{
  Basics.{Among, ArcRef, Blob, Error, HandleNumber, Kind, Meaning, NodeNumber, OptionalDataKey, Tree, Types, times},
  Basics.updated,
  Calls.{UnpinCall, row_of},
  Cascade.IsLeast,
  Events.no_shelf,
  Kinds.{is_owned_by, is_pinning, owner_value, pins},
  Loads.{asks, is_faulty, next_in, reads},
  Pager.{IsIdle, IsMachineWhole, IsNew, MachineState, PagerState, StandsFor},
  Runs.{AreMoments, HoldsSettled, Moment, state_after},
  Theorem.MeetsHeadline,
  WorkerClaims.{IsFilledByReading, LeavesCache},
  World.{Core, Frame, IsLawful, Places, Seen, Values, Work},
  declared.{events.{Event.Event, EventReply.EventReply}, handle_row.{HandleRow.HandleRow, Owner.Owner}, mode.Mode.Mode},
}
use Rattle.std.specs.{
  Prelude.{Bool, List, None, Ok, Option, Some, false, filter, length, ℕ, [], ◌&&◌, ◌++◌, ◌==◌, ◌||◌, ◌∷◌, ◌≡◌},
}

-- the state with nothing but a storage's contents, and this room
abbrev pub empty : (ℕ → Option Blob) → Places → Core
empty stored places = record {
  rows = [];
  cells = λ n. None;
  list = [];
  cache = λ kind key. None;
  stored = stored;
  closed = false;
  failures = 0;
  loads = λ l. None;
  workers = λ v. false;
  last = record { node = 0; handle = 0; load = 0; worker = 0 };
  places = places;
}

-- nobody works; below: a new machine over a storage and an environment
abbrev pub no_work : Work
no_work = record { shelves = λ t. no_shelf; last_table = 0; readings = λ l. None; walkings = λ v. None }

abbrev pub new_machine : {N E : Type 0} → (ℕ → Option Blob) → Places → E → MachineState N E
new_machine stored places env = record {
  pager = record {
    core = empty stored places;
    counts = λ n. 0;
    values = λ n. None;
    environment = env;
  };
  work = no_work;
}

-- the first numbers
abbrev pub first : HandleNumber
first = record { 0 = 1 }

abbrev pub first_node : NodeNumber
first_node = record { 0 = 1 }

-- The caller's cell 1 has a value that refers to the cell 2 by a loose pinned handle; both cells have keys.
abbrev pub two_rows : List HandleRow
two_rows = row_of 1 first_node Mode.LoosePinned Owner.Caller
    ∷ row_of 2 (record { 0 = 2 }) Mode.LoosePinned (Owner.Value first_node) ∷ []

-- the outer handle; below: both handles, or both cells
abbrev pub outer : ℕ → Bool
outer q = q == 1

abbrev pub both : ℕ → Bool
both q = (q == 1) || (q == 2)

-- the caller's pinned cell of the type 0, with no key and no references, and with room for two handles and one entry
abbrev pub lone : (ℕ → Option Blob) → Core
lone stored = record (empty stored (record { handles = 2; entries = 1 })) {
  rows = row_of 1 first_node Mode.LoosePinned Owner.Caller ∷ [];
  cells = updated 1 (Some (record { node_type = 0; key = OptionalDataKey.None })) (λ n. None);
  last = record { node = 1; handle = 1; load = 0; worker = 0 };
}

-- the same cell, unpinned and listed
abbrev pub lone_listed : (ℕ → Option Blob) → Core
lone_listed stored = record (lone stored) {
  rows = row_of 1 first_node Mode.LooseUnpinned Owner.Caller ∷ row_of 2 first_node Mode.LooseUnpinned Owner.List ∷ [];
  list = record { 0 = 2 } ∷ [];
  last = record { node = 1; handle = 2; load = 0; worker = 0 };
}

-- the same cell, unpinned and not listed
abbrev pub lone_unlisted : (ℕ → Option Blob) → Core
lone_unlisted stored = record (lone stored) { rows = row_of 1 first_node Mode.LooseUnpinned Owner.Caller ∷ [] }

-- no value owns a handle
abbrev pub OwnsNothing : List HandleRow → Type 0
OwnsNothing rows = (n : ℕ) → times (is_owned_by (owner_value n)) rows ≡ 0

-- The laws of releasing handles.
pub record ReleaseLaws : Type 0 where
  -- Whatever is released, and whatever entries are added to the list, there is a least set.
  pub least_set_is_there : (rows : List HandleRow) (keyed : ℕ → Bool) (entries : List HandleRow) (given : ℕ → Bool)
      → (s : ℕ → Bool) × IsLeast rows keyed entries given s
  -- Two least sets have the same live handles.
  pub least_set_is_one : (rows : List HandleRow) (keyed : ℕ → Bool) (entries : List HandleRow) (given s t : ℕ → Bool)
      (h : HandleRow)
      → IsLeast rows keyed entries given s → IsLeast rows keyed entries given t → Among rows h → s h.number.0
      ≡ t h.number.0
  -- If no value owns a handle, exactly the given handles are released.
  pub given_fall_alone : (rows : List HandleRow) (keyed : ℕ → Bool) (entries : List HandleRow) (given s : ℕ → Bool)
      (h : HandleRow)
      → OwnsNothing rows → IsLeast rows keyed entries given s → Among rows h → s h.number.0 ≡ given h.number.0
  -- The sum by which proofs count pins is the length of the filtered list of handles.
  pub pins_are_a_filter : (n : ℕ) (rows : List HandleRow) → pins n rows
      ≡ length (filter (λ h. h.node.0 == n && is_pinning h.mode) rows)
  -- If a value of two levels has keys for its cells, releasing the outer handle releases both. The outer one alone is
  -- no such set.
  pub two_levels_fall : IsLeast two_rows both [] outer both
  pub not_less : ¬ IsLeast two_rows both [] outer outer
  -- Unpinning a single cell without a key lists it. It isn't allowed not to, if there are room and numbers.
  pub lone_is_listed : (stored : ℕ → Option Blob) → UnpinCall (lone stored) Owner.Caller first (Ok tt)
      (lone_listed stored)
  pub not_unlisted : (stored : ℕ → Option Blob) → ¬ UnpinCall (lone stored) Owner.Caller first (Ok tt)
      (lone_unlisted stored)

-- A chain can be continued by another.
pub record ChainsJoin {N B W : Type 0} (E : Type 0) (m : Seen N B W) : Type 0 where
  pub joins : (s : MachineState N E) (xs ys : List (Moment N E B W)) → AreMoments m s xs
      → AreMoments m (state_after s xs) ys → AreMoments m s (xs ++ ys)
  pub ends : (s : MachineState N E) (xs ys : List (Moment N E B W)) → state_after s (xs ++ ys)
      ≡ state_after (state_after s xs) ys

-- A run that meets the headline can be continued by another.
pub record RunsJoin {N B W : Type 0} (E : Type 0) (m : Seen N B W) : Type 0 where
  pub joins : (old mid new : MachineState N E) (happened more : List (Event N B W))
      (replied rest : List (EventReply N B W)) → MeetsHeadline m old happened replied mid
      → MeetsHeadline m mid more rest new → MeetsHeadline m old (happened ++ more) (replied ++ rest) new

-- all that the headline asks of the machine at which a chain begins
pub record StartsWell {N E : Type 0} (v : Values N) (s : MachineState N E) : Type 0 where
  pub whole : IsMachineWhole v s
  pub idle : IsIdle s
  pub stands : (trees : ℕ → Tree) → StandsFor v s trees
  pub lawful : IsLawful v
  pub settled : HoldsSettled v s.pager

-- A new machine over any storage, on which nobody works, starts well if its values are lawful: it stands for any trees,
-- having no nodes. And such a machine exists.
pub record NewMachineIsWhole {N : Type 0} (E : Type 0) (v : Values N) : Type 0 where
  pub new : (stored : ℕ → Option Blob) (places : Places) (env : E)
      → IsNew (let s : MachineState N E = new_machine stored places env in s.pager)
  pub idle : (stored : ℕ → Option Blob) (places : Places) (env : E)
      → IsIdle (let s : MachineState N E = new_machine stored places env in s)
  pub starts : (s : MachineState N E) → IsNew s.pager → IsIdle s → IsLawful v → StartsWell v s

-- The cache of a new pager is empty, so it has no node twice; nor does it get one twice along chains in which no event
-- clears it, puts a caller's reference into it or closes the storage.
pub record LoadsAloneFillCache {N B W : Type 0} (E : Type 0) (m : Seen N B W) : Type 0 where
  pub new : (s : PagerState N E) → IsNew s → IsFilledByReading s.core
  pub stays : (s : MachineState N E) (moments : List (Moment N E B W)) → IsMachineWhole m.values s
      → AreMoments m s moments → ((x : Moment N E B W) → Among moments x → LeavesCache x.event)
      → IsFilledByReading s.pager.core → IsFilledByReading (state_after s moments).pager.core

-- A blob either reads to its end, or asks for one reference, or is faulty: no two of these.
pub record ReadStepIsUnique (types : Types) (frame : Frame) : Type 0 where
  pub read_or_asks : (own : Meaning ArcRef) (kind : Kind) (key : ℕ) → next_in types frame ≡ reads own
      → next_in types frame ≡ asks kind key → ⊥
  pub read_or_faulty : (own : Meaning ArcRef) (e : Error) → next_in types frame ≡ reads own → next_in types frame
      ≡ is_faulty e → ⊥
  pub asks_or_faulty : (kind : Kind) (key : ℕ) (e : Error) → next_in types frame ≡ asks kind key → next_in types frame
      ≡ is_faulty e → ⊥
