-- The plain claims that a lent table stands for; for whom each waiting worker waits; and what a claim finds.
use Rattle.indexmap.specs.IndexMap.{IndexMap, get}
use Rattle.pagable_codec.specs.{
  declared.{env.Env.Ghosts as Environments, hash.KeyHash.Ghosts as Hashes, nodes.NodeSet.Ghosts as Nodes},
}
use Rattle.pagable_core.specs.declared.context.writing.SerializedData.{SerializedData}
use Rattle.pagable_pageout.specs.declared.{
  lent_slot.{LentSlot.LentSlot, Outcome.Outcome},
  results.SlotResult.SlotResult,
}
use Rattle.pagable_pager_spec.specs.{
  Basics.{ArcRef, Error, Identity, if_there, longest_path},
  Workers.{ComesBack, ComesToEnd, IsOpenSlot, IsPublished, IsTooDeep, is_open_outcome, with_outcome, with_slot},
  Workers.with_wait,
  World.{SameShelf, Shelf, Slot, Written, failed, is_identity, no_result, published},
  declared.events.Claim.Claim,
}
use Rattle.std.specs.{
  Option.option_map,
  Prelude.{Bool, IfErr, IfOk, List, None, Option, Result, Some, false, if◌then◌else◌, map, nat_eq, suc, true, zero, ℕ},
  Prelude.{[], ◌&&◌, ◌+◌, ◌∷◌, ◌≡◌, ◌≤◌, ◌⊎◌},
  declared.cmp.{Ord.Ghosts as Orders, PartialEq.Ghosts as Equalities, PartialOrd.Ghosts as PartialOrders},
}
use Rattle.pagable_pager_spec.specs.World as world

abbrev pub is_same : ℕ × ℕ → ℕ × ℕ → Bool
is_same x y = nat_eq x.0 y.0 && nat_eq x.1 y.1

-- what was written, without its place in memory
abbrev pub written_of : SerializedData → Written
written_of d = record { bytes = d.bytes.items; references = d.arcs.items }

abbrev pub keys_of : {E EN EH EK EV : Type 0} {g : Environments E EN EH EK EV} {gh : Hashes EH} {go : Orders EK}
    {gq : Equalities EK} {gp : PartialOrders EK} {gn : Nodes EN E EN EH EK EV}
    → List (SlotResult E EN EH EK EV g gh go gq gp gn) → List ℕ
keys_of xs = map (λ r. r.key) xs

abbrev pub ids_of : {E EN EH EK EV : Type 0} {g : Environments E EN EH EK EV} {gh : Hashes EH} {go : Orders EK}
    {gq : Equalities EK} {gp : PartialOrders EK} {gn : Nodes EN E EN EH EK EV}
    → List (SlotResult E EN EH EK EV g gh go gq gp gn) → List Identity
ids_of xs = map (λ r. r.identity) xs

-- a slot whose node was written with these references
abbrev pub with_references : List ArcRef → Slot → Slot
with_references references slot = record slot { references = Some references }

-- a slot after the worker v has failed; and the slot at an identity, if there is one
abbrev pub failed_by : ℕ → Slot → Slot
failed_by v slot = if nat_eq slot.worker v then with_outcome failed slot else slot

abbrev pub after_failure : ℕ → Option Slot → Option Slot
after_failure v slot = if_there (λ (s : Slot). Some (failed_by v s)) None slot

abbrev pub claimed_by : ℕ → Slot
claimed_by v = record { worker = v; references = None; outcome = no_result }

module _ {E EN EH EK EV : Type 0} {g : Environments E EN EH EK EV} {gh : Hashes EH} {go : Orders EK}
    {gq : Equalities EK} {gp : PartialOrders EK} {gn : Nodes EN E EN EH EK EV} where
  abbrev pub outcome_of : Outcome E EN EH EK EV g gh go gq gp gn → world.Outcome
  outcome_of Outcome.Open = no_result
  outcome_of (Outcome.Published r) = published r.key r.height
  outcome_of Outcome.Failed = failed

  abbrev pub slot_of : LentSlot E EN EH EK EV g gh go gq gp gn → Slot
  slot_of s = record {
    worker = s.worker.0;
    references = option_map (λ rs. rs.items) s.references;
    outcome = outcome_of s.outcome;
  }

  -- if the slot has a result, it is that of this identity, by its numbers
  abbrev pub HoldsOnlyResultOf : Identity → LentSlot E EN EH EK EV g gh go gq gp gn → Type 0
  HoldsOnlyResultOf i s = (r : SlotResult E EN EH EK EV g gh go gq gp gn) → s.outcome ≡ Outcome.Published r
      → (r.identity.kind.0 ≡ i.kind.0) × (r.identity.node.0 ≡ i.node.0)

  module _ {S : Type 0} where
    abbrev pub slots_in : IndexMap (ℕ × ℕ) (LentSlot E EN EH EK EV g gh go gq gp gn) S → Identity → Option Slot
    slots_in slots i = option_map slot_of (get is_same slots (i.kind.0, i.node.0))

    abbrev pub HoldOnlyOwnResults : IndexMap (ℕ × ℕ) (LentSlot E EN EH EK EV g gh go gq gp gn) S → Type 0
    HoldOnlyOwnResults slots = (i : Identity) (s : LentSlot E EN EH EK EV g gh go gq gp gn)
        → get is_same slots (i.kind.0, i.node.0) ≡ Some s → HoldsOnlyResultOf i s

    abbrev pub shelf_in : {T : Type 0} → IndexMap (ℕ × ℕ) (LentSlot E EN EH EK EV g gh go gq gp gn) S
        → IndexMap ℕ Identity T → Shelf
    shelf_in slots waits = record { slots = slots_in slots; waits = λ v. get nat_eq waits v }

  -- a row after the worker has failed
  pub record FailedRow (v : ℕ) (old new : (ℕ × ℕ) × LentSlot E EN EH EK EV g gh go gq gp gn) : Type 0 where
    pub key : new.0 ≡ old.0
    pub slot : slot_of new.1 ≡ failed_by v (slot_of old.1)
    pub own : (i : Identity) → HoldsOnlyResultOf i old.1 → HoldsOnlyResultOf i new.1

  -- the first n rows are those after the worker has failed
  abbrev pub FailedTo : ℕ → ℕ → List ((ℕ × ℕ) × LentSlot E EN EH EK EV g gh go gq gp gn)
      → List ((ℕ × ℕ) × LentSlot E EN EH EK EV g gh go gq gp gn) → Type 0
  FailedTo v zero old new = new ≡ old
  FailedTo v (suc n) [] new = new ≡ []
  FailedTo v (suc n) (e ∷ es) [] = ⊥
  FailedTo v (suc n) (e ∷ es) (f ∷ fs) = FailedRow v e f × FailedTo v n es fs

-- the slots with this one at an identity
abbrev pub SlotIs : (Identity → Option Slot) → Identity → Option Slot → (Identity → Option Slot) → Type 0
SlotIs old i slot new = (j : Identity) → new j ≡ (if is_identity i j then slot else old j)

-- the worker of a slot that is open
abbrev pub open_worker : Option Slot → Option ℕ
open_worker slot = if_there (λ (s : Slot). if is_open_outcome s.outcome then Some s.worker else None) None slot

-- the slot at the identity is changed by f, if there is one
abbrev pub Changes : (Slot → Slot) → (Identity → Option Slot) → Identity → (Identity → Option Slot) → Type 0
Changes f old i new = SlotIs old i (if_there (λ (s : Slot). Some (f s)) None (old i)) new

-- whom a worker waits for
abbrev pub waits_for : Shelf → ℕ → Option ℕ
waits_for s u = if_there (λ i. open_worker (s.slots i)) None (s.waits u)

-- the chain of workers that u waits for, each for the next, ends
pub data Ends (s : Shelf) : ℕ → Type 0 where
  ends-at : (u : ℕ) → ((w : ℕ) → waits_for s u ≡ Some w → Ends s w) → Ends s u

-- no workers wait in a ring
abbrev pub EachEnds : Shelf → Type 0
EachEnds s = (u : ℕ) → ∥ Ends s u ∥₁

-- whether u is v or waits for v, directly or through others
abbrev pub TellsDeadlock : Shelf → ℕ → ℕ → Bool → Type 0
TellsDeadlock s v u true = ComesBack s v u
TellsDeadlock s v u false = ComesToEnd s v u

-- what a claim of this identity at this place on a path would find
abbrev pub WouldFind : ℕ → Shelf → Identity → ℕ → Claim → Type 0
WouldFind v s i place Claim.Claimed = (place ≤ longest_path) × (s.slots i ≡ None)
WouldFind v s i place (Claim.Known key height) = (place + height ≤ longest_path) × IsPublished s i key height
WouldFind v s i place Claim.Waiting = (place ≤ longest_path)
    × ((slot : Slot) × IsOpenSlot s i slot × ComesToEnd s v slot.worker)
WouldFind v s i place Claim.AlreadyFailed = (place ≤ longest_path)
    × ((slot : Slot) × (s.slots i ≡ Some slot) × (slot.outcome ≡ failed))

-- the table after a claim; the worker's wait is forgotten unless the claim has to wait
abbrev pub claimed_shelf : ℕ → Shelf → Identity → Claim → Shelf
claimed_shelf v s i Claim.Claimed = with_slot (with_wait s v None) i (Some (claimed_by v))
claimed_shelf v s i Claim.Waiting = with_wait s v (Some i)
claimed_shelf v s i _ = with_wait s v None

-- why a claim fails
abbrev pub RefusesClaim : ℕ → Shelf → Identity → ℕ → Error → Type 0
RefusesClaim v s i place e = ((e ≡ Error.TooDeep) × IsTooDeep s v i place) ⊎ (e ≡ Error.OutOfMemory)

-- a claim of a table: what it finds, and what it leaves
pub record MakesClaim (v : ℕ) (s : Shelf) (i : Identity) (place : ℕ) (result : Result Claim Error)
    (s' : Shelf) : Type 0 where
  pub finds : IfOk result (λ c. WouldFind v s i place c × SameShelf (claimed_shelf v s i c) s')
  pub refused : IfErr result (λ e. RefusesClaim v s i place e × SameShelf (with_wait s v None) s')
