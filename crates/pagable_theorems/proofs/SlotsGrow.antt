-- What a worker's step does to the slots of its table: each grows, and only those of the worker change.
use Rattle.pagable_pager_spec.specs.{
  Order.Follows,
  Rightness.{Meets, meets-below, meets-entry, meets-of-item},
  Workers.{advance, first_todo, is_open_outcome, next_start, with_changed_slot, with_failed, with_outcome, with_slot},
  World.{Fault, Open, Outcome, SameShelf, failed, is_identity, to_publish},
}
use Rattle.pagable_theorems.proofs.{
  Trees.same-number,
  Words.{Action, Among, ArcRef, Bool, HandleNumber, Identity, IsPublished, List, None, Option, Shelf, Slot, Some, Task, Todo, Walking, WorkerAnswer, Written},
  Words.{above, and_parts, arith, basics, cases_Bool, drop, false, give, identity_of, if_there, if◌then◌else◌, inl, inr, is_some, max, nat_eq, no_result},
  Words.{of_entry, of_item, refl, rules, subst, suc, sym, to_fail, to_finish, to_item, to_load, to_pin, to_release, to_set, to_start, to_write, true, ℕ, []},
  Words.{◌++◌, ◌<◌, ◌==◌, ◌||◌, ◌∙◌, ◌∷◌, ◌≡◌, ◌≤◌, ◌⊎◌},
}
use Rattle.std.proofs.lemmas.Bool.{or_cases, or_right}

-- the slot has the same worker, and the references that were written and the result stay
pub record SlotGrows (slot slot' : Slot) : Type 0 where
  pub worker : slot'.worker ≡ slot.worker
  pub references : (rs : List ArcRef) → slot.references ≡ Some rs → slot'.references ≡ Some rs
  pub outcome : is_open_outcome slot.outcome ≡ false → slot'.outcome ≡ slot.outcome

-- what a step of the worker does to what stands at one identity
pub data SlotChanges (v : ℕ) (a b : Option Slot) : Type 0 where
  stays : b ≡ a → SlotChanges v a b
  is-new : (slot : Slot) → a ≡ None → b ≡ Some slot → slot.worker ≡ v → SlotChanges v a b
  is-changed : (slot slot' : Slot) → a ≡ Some slot → slot.worker ≡ v → b ≡ Some slot' → SlotGrows slot slot' → SlotChanges v a b

abbrev pub Changes : ℕ → Shelf → Shelf → Type 0
Changes v shelf shelf' = (i : Identity) → SlotChanges v (shelf.slots i) (shelf'.slots i)

-- each slot is there afterwards, and grows
abbrev pub ShelfGrows : Shelf → Shelf → Type 0
ShelfGrows shelf shelf' = (i : Identity) (slot : Slot) → shelf.slots i ≡ Some slot → (slot' : Slot) × (shelf'.slots i ≡ Some slot') × SlotGrows slot slot'

pub some-same : {X : Type 0} {x y : X} {a : Option X} → a ≡ Some x → a ≡ Some y → x ≡ y
some-same is other = cc

pub some-none : {X A : Type 0} {x : X} {a : Option X} → a ≡ Some x → a ≡ None → A
some-none is other = absurd (cc)

pub grows : (v : ℕ) (shelf shelf' : Shelf) → Changes v shelf shelf' → ShelfGrows shelf shelf'
grows v shelf shelf' changes i slot there = grind (arith, some-none, some-same)

pub meets-grow : (shelf shelf' : Shelf) (task : Task) (i : Identity) → ShelfGrows shelf shelf' → Meets shelf task i → Meets shelf' task i
meets-grow shelf shelf' task i more (meets-of-item written r is among) = meets-of-item written r is among
meets-grow shelf shelf' task i more (meets-entry h j is) = meets-entry h j is
meets-grow shelf shelf' task i more (meets-below j slot references r meets there is among) =
    let a = more j slot there in
    meets-below j a.0 references r (meets-grow shelf shelf' task j more meets) a.1 (a.2.references references is) among

abbrev pub KeepsKeys : Shelf → Shelf → Type 0
KeepsKeys shelf shelf' = (i : Identity) (key height : ℕ) → IsPublished shelf i key height → IsPublished shelf' i key height

pub keys-grow : {shelf shelf' : Shelf} → ShelfGrows shelf shelf' → KeepsKeys shelf shelf'
keys-grow more i key height p = grind arith

pub same-slots : (v : ℕ) (shelf shelf' : Shelf) → ((i : Identity) → shelf'.slots i ≡ shelf.slots i) → Changes v shelf shelf'
same-slots v shelf shelf' same i = stays (same i)

pub is-self : (i : Identity) → is_identity i i ≡ true
is-self i = let a : (i.kind.0 == i.kind.0) ≡ true = grind basics in let b : (i.node.0 == i.node.0) ≡ true =
    grind basics in rw (a, b) refl

pub is-same : (i j : Identity) → is_identity i j ≡ true → j ≡ i
is-same i j is = grind (arith, and_parts, same-number)

pub record PutsSlot (slots slots' : Identity → Option Slot) (i : Identity) (slot : Slot) : Type 0 where
  pub at : slots' i ≡ Some slot
  pub elsewhere : (j : Identity) → is_identity i j ≡ false → slots' j ≡ slots j

pub puts-slot : (shelf shelf' : Shelf) (i : Identity) (slot : Slot) → SameShelf (with_slot shelf i (Some slot)) shelf'
    → PutsSlot shelf.slots shelf'.slots i slot
puts-slot shelf shelf' i slot same = grind (arith, is-self)

pub changes-slot : (shelf shelf' : Shelf) (i : Identity) (slot : Slot) (f : Slot → Slot) → shelf.slots i ≡ Some slot
    → SameShelf (with_changed_slot shelf i f) shelf'
    → PutsSlot shelf.slots shelf'.slots i (f slot)
changes-slot shelf shelf' i slot f there same = grind (arith, puts-slot)

-- what stands there afterwards is this, or stood there
pub put-cases : (slots slots' : Identity → Option Slot) (i : Identity) (new : Slot) → PutsSlot slots slots' i new → (j : Identity) (slot : Slot) → slots' j
    ≡ Some slot
    → ((j ≡ i) × (slot ≡ new)) ⊎ ((is_identity i j ≡ false) × (slots j ≡ Some slot))
put-cases slots slots' i new puts j slot there = grind (arith, is-same, some-same)

fails-own : (v : ℕ) (shelf shelf' : Shelf) (i : Identity) (o : Option Slot) → shelf.slots i ≡ o
    → shelf'.slots i ≡ if_there (λ (slot : Slot). Some (if nat_eq slot.worker v then with_outcome failed slot else slot)) None o
    → SlotChanges v (shelf.slots i) (shelf'.slots i)
fails-own v shelf shelf' i None none is = stays (is ∙ sym none)
fails-own v shelf shelf' i (Some slot) there is = elim (cases_Bool (nat_eq slot.worker v)) [
  | inl own ↦ is-changed slot (with_outcome failed slot) there (grind basics) (rw own at is) (grind arith)
  | inr own ↦ stays ((rw own at is) ∙ sym there)
]

-- What stands of each worker's to-do list and of the slots of its table after each event, without trees: the invariant of chains.

-- whether this is to be done about a claim of the identity that has no result yet
abbrev pub is_open_of : Identity → Todo → Bool
is_open_of i (to_pin r place) = is_identity i (identity_of r)
is_open_of i (to_load r place through reading) = is_identity i (identity_of r)
is_open_of i (to_write r place through) = is_identity i (identity_of r)
is_open_of i (to_finish o) = is_identity i (identity_of o.reference)
is_open_of i (to_set r through key height) = is_identity i (identity_of r)
is_open_of i (to_publish r key height) = is_identity i (identity_of r)
is_open_of i _ = false

abbrev pub is_open_in : Identity → List Todo → Bool
is_open_in i [] = false
is_open_in i (x ∷ todo) = is_open_of i x || is_open_in i todo

-- written nodes and an item wait, and nothing else
abbrev pub AllWait : List Todo → Type 0
AllWait [] = Unit {0}
AllWait (to_finish o ∷ below) = AllWait below
AllWait (to_item written keys ∷ below) = AllWait below
AllWait (x ∷ below) = ⊥

-- below what is done next they do, so that no load comes to the front when that is done
abbrev pub WaitsWell : List Todo → Type 0
WaitsWell [] = Unit {0}
WaitsWell (to_fail fault back ∷ below) = Unit {0}
WaitsWell (x ∷ below) = AllWait below

abbrev pub is_failing : List Todo → Bool
is_failing (to_fail fault back ∷ below) = true
is_failing todo = false

abbrev pub is_failed : Outcome → Bool
is_failed failed = true
is_failed _ = false

-- the worker has claimed the identity, there is no result yet, and the references that were written of it are so
pub record HasClaim (shelf : Shelf) (v : ℕ) (i : Identity) (so : Option (List ArcRef) → Type 0) : Type 0 where
  pub slot : Slot
  pub claimed : shelf.slots i ≡ Some slot
  pub own : slot.worker ≡ v
  pub no_result_yet : slot.outcome ≡ no_result
  pub written_so : so slot.references

-- the task meets it, and it is claimed so
abbrev pub IsMetClaim : Shelf → ℕ → Task → Identity → (Option (List ArcRef) → Type 0) → Type 0
IsMetClaim shelf v task i so = Meets shelf task i × HasClaim shelf v i so

-- what holds of one thing that the worker has to do, with what comes below
abbrev pub Stands : Shelf → ℕ → Task → Todo → List Todo → Type 0
Stands shelf v task (to_start r place) below = Meets shelf task (identity_of r)
Stands shelf v task (to_pin r place) below = IsMetClaim shelf v task (identity_of r) (λ w. w ≡ None)
Stands shelf v task (to_load r place through reading) below = IsMetClaim shelf v task (identity_of r) (λ w. w ≡ None)
Stands shelf v task (to_write r place through) below = IsMetClaim shelf v task (identity_of r) (λ w. w ≡ None)
Stands shelf v task (to_finish o) below = IsMetClaim shelf v task (identity_of o.reference) (λ w. w ≡ Some o.written.references)
Stands shelf v task (to_item written keys) below = (task ≡ of_item written) × (below ≡ [])
Stands shelf v task (to_set r through key height) below = IsMetClaim shelf v task (identity_of r) (λ w. is_some w ≡ true)
Stands shelf v task (to_publish r key height) below = IsMetClaim shelf v task (identity_of r) (λ w. is_some w ≡ true)
Stands shelf v task (to_release r key height) below = Meets shelf task (identity_of r) × IsPublished shelf (identity_of r) key height
Stands shelf v task (to_fail fault back) below = Unit {0}

-- of all of it; and nothing is to be done twice about one claim
abbrev pub AllStand : Shelf → ℕ → Task → List Todo → Type 0
AllStand shelf v task [] = Unit {0}
AllStand shelf v task (x ∷ below) = Stands shelf v task x below × ((i : Identity) → is_open_of i x ≡ true → is_open_in i below ≡ false)
    × AllStand shelf v task below

-- each claim of the worker's that has no result is to be worked at, unless the walk is about to fail
abbrev pub Covers : Shelf → ℕ → List Todo → Type 0
Covers shelf v todo = (i : Identity) (slot : Slot) → shelf.slots i ≡ Some slot → slot.worker ≡ v → slot.outcome ≡ no_result
    → (is_failing todo || is_open_in i todo) ≡ true

abbrev pub HasNoFailed : Shelf → ℕ → Type 0
HasNoFailed shelf v = (i : Identity) (slot : Slot) → shelf.slots i ≡ Some slot → slot.worker ≡ v → is_failed slot.outcome ≡ false

-- one worker, on its table
pub record WalkingStands (shelf : Shelf) (v : ℕ) (walking : Walking) : Type 0 where
  pub all : AllStand shelf v walking.task walking.todo
  pub covers : Covers shelf v walking.todo
  pub unfailed : walking.answer ≡ None → HasNoFailed shelf v
  pub done : (answer : WorkerAnswer) → walking.answer ≡ Some answer → walking.todo ≡ []
  pub waits : WaitsWell walking.todo

-- the worker v is one of the table t, and its task meets the identity
pub record IsMetBy (shelf : Shelf) (walkings : ℕ → Option Walking) (v t : ℕ) (i : Identity) : Type 0 where
  pub walking : Walking
  pub there : walkings v ≡ Some walking
  pub on_table : walking.table ≡ t
  pub meets : Meets shelf walking.task i

-- all tables and workers, where this is the last number that a worker was given
pub record WorkStands (shelves : ℕ → Shelf) (walkings : ℕ → Option Walking) (last : ℕ) : Type 0 where
  pub slots : (t : ℕ) (i : Identity) (slot : Slot) → (shelves t).slots i ≡ Some slot → IsMetBy (shelves t) walkings slot.worker t i
  pub workers : (v : ℕ) (walking : Walking) → walkings v ≡ Some walking → WalkingStands (shelves walking.table) v walking
  pub numbered : (v : ℕ) (walking : Walking) → walkings v ≡ Some walking → v ≤ last

-- below what is done next written nodes and an item wait again after a step
pub follows-waits : {W : Type 0} (f : W → Written) (todo : List Todo) (step : Action W) (next : List Todo) → Follows f todo step next → WaitsWell todo
    → WaitsWell next
follows-waits f x1 x2 next x4 waits = grind basics

-- A worker's step keeps what stands of its to-do list and of its table.

pub true-false : {A : Type 0} {b : Bool} → b ≡ true → b ≡ false → A
true-false is other = absurd (cc)

module _ (u : ℕ) (task : Task) (shelf shelf' : Shelf) (more : ShelfGrows shelf shelf') where
  -- where each claim that it is about is kept
  pub all-stay : (todo : List Todo) → ((i : Identity) → is_open_in i todo ≡ true → (slot : Slot) → shelf.slots i ≡ Some slot → slot.worker ≡ u → shelf'.slots i
      ≡ Some slot)
      → AllStand shelf u task todo → AllStand shelf' u task todo
  all-stay [] keeps all = tt
  all-stay (x ∷ below) keeps (stands, apart, rest) = (
    (grind (basics, meets-grow, is-self, keys-grow)),
    apart,
    all-stay below (λ i is. keeps i (or_right (is_open_of i x) (is_open_in i below) is)) rest,
  )

pub among-drop : (k : ℕ) (rs : List ArcRef) (r : ArcRef) → Among (drop k rs) r → Among rs r
among-drop (suc k) (x ∷ rs) r among = let a = among-drop k rs r among in (suc a.0, a.1)
among-drop x0 x1 r among = grind basics

module _ (v : ℕ) (task : Task) where
  module _ (shelf : Shelf) (i : Identity) where
    -- what is open has a slot
    pub open-slot : (todo : List Todo) → AllStand shelf v task todo → is_open_in i todo ≡ true → (slot : Slot) × (shelf.slots i ≡ Some slot)
    open-slot [] all is = absurd (cc)
    open-slot (x ∷ below) (stands, apart, rest) is = elim (or_cases (is_open_of i x) (is_open_in i below) is)
        [ inl a ↦ (grind (basics, is-same)) | inr b ↦ open-slot below rest b ]

  -- each claim without a result is worked at
  abbrev pub CoversBy : Shelf → List Todo → Type 0
  CoversBy shelf todo = (i : Identity) (slot : Slot) → shelf.slots i ≡ Some slot → slot.worker ≡ v → slot.outcome ≡ no_result → is_open_in i todo ≡ true

  -- table and list after a step
  pub record Goes (shelf : Shelf) (answer : Option WorkerAnswer) (shelf' : Shelf) (todo : List Todo) : Type 0 where
    pub changes : Changes v shelf shelf'
    pub all : AllStand shelf' v task todo
    pub covers : Covers shelf' v todo
    pub unfailed : answer ≡ None → HasNoFailed shelf v → HasNoFailed shelf' v
    pub done : (a : WorkerAnswer) → answer ≡ Some a → todo ≡ []
    pub met : (i : Identity) (slot : Slot) → shelf.slots i ≡ None → shelf'.slots i ≡ Some slot → Meets shelf' task i

  module _ (shelf shelf' : Shelf) (same : (i : Identity) → shelf'.slots i ≡ shelf.slots i) where
    pub plain : (answer : Option WorkerAnswer) (todo : List Todo) → ((a : WorkerAnswer) → answer ≡ Some a → todo ≡ []) → AllStand shelf v task todo
        → CoversBy shelf todo
        → Goes shelf answer shelf' todo
    plain answer todo done all covers = grind (basics, same-slots, all-stay, grows, or_right, is_failing, is_open_in, some-none)

    pub fails : (fault : Fault) (back : Option HandleNumber) → Goes shelf None shelf' (to_fail fault back ∷ [])
    fails fault back = grind (basics, same-slots, some-none)

    -- what stands at the front becomes something else about the same claim
    pub swaps : (x y : Todo) (below : List Todo) → AllStand shelf v task (x ∷ below) → CoversBy shelf (x ∷ below)
        → ((i : Identity) → is_open_of i y ≡ is_open_of i x)
        → (Stands shelf v task x below → Stands shelf v task y below) → Goes shelf None shelf' (y ∷ below)
    swaps x y below (stands, apart, rest) covers about goes = plain None (y ∷ below) (λ a is. absurd (cc)) (goes stands, grind basics, rest)
        (grind basics)

  module _ (shelf : Shelf) where
    started : (place : ℕ) (rs : List ArcRef) (todo : List Todo) → ((r : ArcRef) → Among rs r → Meets shelf task (identity_of r)) → AllStand shelf v task todo
        → AllStand shelf v task (next_start place rs ++ todo)
    started place x1 todo meets all = grind basics

    pub started-open : (i : Identity) (place : ℕ) (rs : List ArcRef) (todo : List Todo) → is_open_in i (next_start place rs ++ todo) ≡ is_open_in i todo
    started-open i place x2 todo = grind basics

    pub settles : (o : Open) (below : List Todo) → AllStand shelf v task (to_finish o ∷ below) → AllStand shelf v task (advance (to_finish o ∷ below))
    settles o below x2 = search (rules, started, meets-below, among-drop)

    item-settles : (written : Written) (keys : List ℕ) (below : List Todo) → AllStand shelf v task (to_item written keys ∷ below)
        → AllStand shelf v task (advance (to_item written keys ∷ below))
    item-settles written keys below x3 = search (rules, started, meets-of-item, among-drop)

    pub gives : (r : ArcRef) (key height : ℕ) (todo : List Todo) → AllStand shelf v task todo → AllStand shelf v task (give r key height todo)
    gives r key height (to_finish o ∷ below) all = settles (record o { keys = o.keys ++ key ∷ []; height = max o.height (above r.kind.0 height) }) below all
    gives r key height (to_item written keys ∷ below) all = item-settles written (keys ++ key ∷ []) below all
    gives r key height x3 all = grind basics

    pub given-open : (i : Identity) (r : ArcRef) (key height : ℕ) (todo : List Todo) → is_open_in i (give r key height todo) ≡ is_open_in i todo
    given-open i r key height x4 = grind (basics, above, started-open)

-- Each kind of a worker's step: what it does to its list and to the slots.

module _ (v : ℕ) (task : Task) (shelf shelf' : Shelf) where
  -- an own slot changes, or comes, that hasn't failed and that the task meets
  pub own-goes : (i : Identity) (new : Slot) (todo : List Todo) → PutsSlot shelf.slots shelf'.slots i new → SlotChanges v (shelf.slots i) (Some new)
      → Meets shelf task i
      → is_failed new.outcome ≡ false → (Changes v shelf shelf' → Meets shelf' task i → AllStand shelf' v task todo) → Covers shelf' v todo
      → Goes v task shelf None shelf' todo
  own-goes i new todo puts at meets good all covers =
      let changes : Changes v shelf shelf' = λ j. elim (cases_Bool (is_identity i j))
      [ inl e ↦ rw (is-same i j e, puts.at) at | inr e ↦ stays (puts.elsewhere j e) ] in
      let now = meets-grow shelf shelf' task i (grows v shelf shelf' changes) meets in
      grind (basics, put-cases, some-none, all changes now)

  pub failed-goes : (answer : WorkerAnswer) → SameShelf (with_failed shelf v) shelf' → Goes v task shelf (Some answer) shelf' []
  failed-goes answer same = let changes : Changes v shelf shelf' = λ i. fails-own v shelf shelf' i _ refl (same.slots i) in
      grind (basics, some-none, some-same, same.slots)

-- What stands of all workers and tables goes on to stand, by what an event does to them.

-- one worker, where what it claimed stays as it was
walking-stays : (v : ℕ) (w : Walking) (shelf shelf' : Shelf) → ShelfGrows shelf shelf'
    → ((i : Identity) (slot : Slot) → shelf.slots i ≡ Some slot → slot.worker ≡ v → shelf'.slots i ≡ Some slot)
    → ((i : Identity) (slot : Slot) → shelf'.slots i ≡ Some slot → slot.worker ≡ v → shelf.slots i ≡ Some slot) → WalkingStands shelf v w
    → WalkingStands shelf' v w
walking-stays v w shelf shelf' more stay were stands = grind (arith, all-stay)

pub record KeepsTask (walkings' : ℕ → Option Walking) (u : ℕ) (w : Walking) : Type 0 where
  pub now : Walking
  pub there : walkings' u ≡ Some now
  pub table : now.table ≡ w.table
  pub task : now.task ≡ w.task

-- what an event does to tables and workers: it touches one worker, and claims of its own
pub record Turned (v : ℕ) (shelves shelves' : ℕ → Shelf) (walkings walkings' : ℕ → Option Walking) : Type 0 where
  pub changes : (t : ℕ) → Changes v (shelves t) (shelves' t)
  pub others : (u : ℕ) → nat_eq u v ≡ false → walkings' u ≡ walkings u
  pub own : (w : Walking) → walkings v ≡ Some w → KeepsTask walkings' v w
  pub met : (t : ℕ) (i : Identity) (slot : Slot) → (shelves t).slots i ≡ None → (shelves' t).slots i ≡ Some slot → IsMetBy (shelves' t) walkings' v t i
  pub stands : (w : Walking) → walkings' v ≡ Some w → WalkingStands (shelves' w.table) v w

module _ (v : ℕ) (shelves shelves' : ℕ → Shelf) (walkings walkings' : ℕ → Option Walking) (turned : Turned v shelves shelves' walkings walkings') where
  pub keeps-task : (u : ℕ) (w : Walking) → walkings u ≡ Some w → KeepsTask walkings' u w
  keeps-task u w there = grind (arith, same-number)

  met-stays : (t : ℕ) (i : Identity) (u n : ℕ) → n ≡ u → IsMetBy (shelves t) walkings u t i → IsMetBy (shelves' t) walkings' n t i
  met-stays t i u n same met = grind (basics, keeps-task, meets-grow, grows, keeps-task u met.walking met.there)

  pub work-stands : (last last' : ℕ) → last ≤ last' → v ≤ last' → WorkStands shelves walkings last → WorkStands shelves' walkings' last'
  work-stands last last' few small work =
      let each : (u : ℕ) (w : Walking) → walkings' u ≡ Some w → WalkingStands (shelves' w.table) u w = λ u w there.
      let c = turned.changes w.table in
      let more = grows v (shelves w.table) (shelves' w.table) c in
      grind (
        basics,
        cases_Bool (nat_eq u v),
        same-number,
        walking-stays u w (shelves w.table) (shelves' w.table) more,
        c,
        some-none,
        some-same,
        turned.others u,
        work.workers u w,
      ) in
      grind (basics, each, met-stays, some-same, cases_Bool, nat_eq, same-number)

pub first-stands : (shelf : Shelf) (v : ℕ) (task : Task) → AllStand shelf v task (first_todo task)
first-stands shelf v (of_item written) = item-settles v (of_item written) shelf written [] [] ((refl, refl), (λ i is. absurd (cc)), tt)
first-stands shelf v (of_entry h i) = (meets-entry h i refl, (λ j is. absurd (cc)), tt)

abbrev pub SameSlots : (ℕ → Shelf) → (ℕ → Shelf) → Type 0
SameSlots shelves shelves' = (t : ℕ) (i : Identity) → (shelves' t).slots i ≡ (shelves t).slots i

module _ (shelves shelves' : ℕ → Shelf) (walkings walkings' : ℕ → Option Walking) (last : ℕ) (work : WorkStands shelves walkings last)
    (same : SameSlots shelves shelves') where
  -- nothing is done to workers, and no claim is made
  pub is-quiet : ((u : ℕ) → walkings' u ≡ walkings u) → Turned 0 shelves shelves' walkings walkings'
  is-quiet stay =
      let changes : (t : ℕ) → Changes 0 (shelves t) (shelves' t) = λ t. same-slots 0 (shelves t) (shelves' t) (same t) in
      let stands : (w : Walking) → walkings' 0 ≡ Some w → WalkingStands (shelves' w.table) 0 w = λ w there.
      walking-stays 0 w (shelves w.table) (shelves' w.table) (grows 0 (shelves w.table) (shelves' w.table) (changes w.table))
      (λ i slot is own. same w.table i ∙ is) (λ i slot is own. sym (same w.table i) ∙ is) (work.workers 0 w (sym (stay 0) ∙ there)) in
      grind (basics, some-none, changes, stands, stay)

  pub is-started : (v : ℕ) (new : Walking) → last < v → new.todo ≡ first_todo new.task → new.answer ≡ None → walkings' v ≡ Some new
      → ((u : ℕ) → nat_eq u v ≡ false → walkings' u ≡ walkings u) → Turned v shelves shelves' walkings walkings'
  is-started v new above first none at others =
      -- a worker that has no number yet has claimed nothing
      let unclaimed : (i : Identity) (slot : Slot) → (shelves' new.table).slots i ≡ Some slot → slot.worker ≡ v → ⊥ =
      λ i slot there own. let s = work.slots new.table i slot (sym (same new.table i) ∙ there) in
      omega (arith, above, own, work.numbered slot.worker s.walking s.there) in
      let changes : (t : ℕ) → Changes v (shelves t) (shelves' t) = λ t. same-slots v (shelves t) (shelves' t) (same t) in
      let stands : (w : Walking) → walkings' v ≡ Some w → WalkingStands (shelves' w.table) v w =
      λ w there. subst (λ x. WalkingStands (shelves' x.table) v x) (some-same at there)
      (let all = first-stands (shelves' new.table) v new.task in grind (basics, all, unclaimed, some-none)) in
      grind (basics, some-none, changes, stands, work.numbered v)

pub is-stepped : (v : ℕ) (shelves shelves' : ℕ → Shelf) (walkings walkings' : ℕ → Option Walking) (w now : Walking) → walkings v ≡ Some w → walkings' v
    ≡ Some now → now.table ≡ w.table
    → now.task ≡ w.task → ((u : ℕ) → nat_eq u v ≡ false → walkings' u ≡ walkings u)
    → ((t : ℕ) → nat_eq t w.table ≡ false → (i : Identity) → (shelves' t).slots i ≡ (shelves t).slots i)
    → HasNoFailed (shelves w.table) v → WaitsWell now.todo → Goes v w.task (shelves w.table) now.answer (shelves' w.table) now.todo
    → Turned v shelves shelves' walkings walkings'
is-stepped v shelves shelves' walkings walkings' w now at at_now same_table same_task others elsewhere clean waits goes =
    let changes : (t : ℕ) → Changes v (shelves t) (shelves' t) = λ t.
    elim (cases_Bool (nat_eq t w.table)) [
      | inl e ↦ rw (same-number t w.table e) goes.changes
      | inr e ↦ same-slots v (shelves t) (shelves' t) (elsewhere t e)
    ] in
    grind (basics, same-number, some-none, some-same, changes)
