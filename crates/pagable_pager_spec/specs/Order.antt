-- The order of a worker's steps: an automaton over the worker's list of what it has to do, independent of pager and
-- table. And how many steps workers and loads make at most.
use Rattle.pagable_pager_spec.specs.{
  Basics.{Action, ArcRef, Blob, Claim, Error, Event, EventReply, HandleNumber, Identity, Kind, LoadReply, Meaning},
  Basics.{PinStep, Types, is_eager, longest_path, times, type_of},
  Kinds.identity_of,
  Loads.{Next, asks, gone_on, is_faulty, next_of, reads},
  Workers.{failing, failing_by, first_todo, fresh, give, give_known, open_node},
  World.{Frame, Task, Todo, Walking, Written, is_identity, of_entry, of_item, to_fail, to_finish, to_item, to_load},
  World.{to_pin, to_publish, to_release, to_set, to_start, to_write, was_failed},
}
use Rattle.std.specs.{
  Prelude.{Bool, Err, IsSome, List, None, Ok, Option, Some, false, if◌then◌else◌, length, map, max, sum_by, true, ℕ},
  Prelude.{[], ◌&&◌, ◌*◌, ◌++◌, ◌+◌, ◌<◌, ◌==◌, ◌∷◌, ◌≡◌, ◌≤◌, ◌⊎◌},
}

-- the action of the worker v that this reply reports
abbrev pub step_of : {N B W : Type 0} → ℕ → Event N B W → EventReply N B W → List (Action W)
step_of v (Event.WorkerStep u) (EventReply.WorkerMoved (Ok reply)) = if u.0 == v then reply.action ∷ [] else []
step_of v event reply = []

unfoldable pub steps_of : {N B W : Type 0} → ℕ → List (Event N B W) → List (EventReply N B W) → List (Action W)
steps_of v (event ∷ more) (reply ∷ rest) = step_of v event reply ++ steps_of v more rest
steps_of v [] rest = []
steps_of v (event ∷ more) [] = []

-- the action may happen if the worker's list is the first, and turns it into the second
abbrev pub Follows : {W : Type 0} → (W → Written) → List Todo → Action W → List Todo → Type 0
Follows f (to_start r place ∷ below) (Action.Claim i (Ok Claim.Claimed)) next =
    (i ≡ identity_of r) × (next ≡ to_pin r place ∷ below)
Follows f (to_start r place ∷ below) (Action.Claim i (Ok (Claim.Known key height))) next =
    (i ≡ identity_of r) × (next ≡ give_known r key height below)
Follows f (to_start r place ∷ below) (Action.Claim i (Ok Claim.Waiting)) next =
    (i ≡ identity_of r) × (next ≡ to_start r place ∷ below)
Follows f (to_start r place ∷ below) (Action.Claim i (Ok Claim.AlreadyFailed)) next =
    (i ≡ identity_of r) × (next ≡ failing was_failed (to_start r place ∷ below))
Follows f (to_start r place ∷ below) (Action.Claim i (Err e)) next =
    (i ≡ identity_of r) × (next ≡ failing_by e (to_start r place ∷ below))
Follows f (to_pin r place ∷ below) (Action.Pin i (Ok (PinStep.Pinned k))) next =
    (i ≡ identity_of r) × ((through : HandleNumber) × (next ≡ to_write r place through ∷ below))
Follows f (to_pin r place ∷ below) (Action.Pin i (Ok (PinStep.LoadBegun l))) next =
    (i ≡ identity_of r) × ((through : HandleNumber) × (next ≡ to_load r place through (fresh l (type_of r.kind.0))
    ∷ below))
Follows f (to_pin r place ∷ below) (Action.Pin i (Err e)) next =
    (i ≡ identity_of r) × (next ≡ failing_by e (to_pin r place ∷ below))
Follows f (to_load r place through reading ∷ below) (Action.Pin i (Ok PinStep.LoadStepMade)) next =
    (i ≡ identity_of r) × ((frames : List Frame) × (next ≡ to_load r place through (gone_on reading frames) ∷ below))
Follows f (to_load r place through reading ∷ below) (Action.Pin i (Ok (PinStep.Pinned k))) next =
    (i ≡ identity_of r) × (next ≡ to_write r place through ∷ below)
Follows f (to_load r place through reading ∷ below) (Action.Pin i (Err e)) next =
    (i ≡ identity_of r) × (next ≡ failing_by e (to_load r place through reading ∷ below))
Follows f (to_write r place through ∷ below) (Action.Write i (Ok out)) next =
    (i ≡ identity_of r) × (next ≡ open_node r place through (f out) below)
Follows f (to_write r place through ∷ below) (Action.Write i (Err e)) next =
    (i ≡ identity_of r) × (next ≡ failing_by e (to_write r place through ∷ below))
Follows f (to_finish o ∷ below) (Action.Store (Some i) (Ok key)) next =
    (i ≡ identity_of o.reference) × (next ≡ to_set o.reference o.through key o.height ∷ below)
Follows f (to_finish o ∷ below) (Action.Store (Some i) (Err e)) next =
    (i ≡ identity_of o.reference) × (next ≡ failing_by e (to_finish o ∷ below))
Follows f (to_item written keys ∷ below) (Action.Store None (Ok key)) next = next ≡ []
Follows f (to_item written keys ∷ below) (Action.Store None (Err e)) next =
    next ≡ failing_by e (to_item written keys ∷ below)
Follows f (to_set r through key height ∷ below) (Action.SetKey i (Ok u)) next =
    (i ≡ identity_of r) × (next ≡ to_publish r key height ∷ below)
Follows f (to_set r through key height ∷ below) (Action.SetKey i (Err e)) next =
    (i ≡ identity_of r) × (next ≡ failing_by e (to_set r through key height ∷ below))
Follows f (to_publish r key height ∷ below) (Action.Publish i k h) next =
    (i ≡ identity_of r) × (k ≡ key) × (h ≡ height) × (next ≡ to_release r key height ∷ below)
Follows f (to_release r key height ∷ below) (Action.Release i) next =
    (i ≡ identity_of r) × (next ≡ give r key height below)
Follows f (to_fail fault back ∷ below) Action.Fail next = next ≡ []
Follows f todo step next = ⊥

abbrev pub Leads : {W : Type 0} → (W → Written) → List Todo → List (Action W) → List Todo → Type 0
Leads f todo [] last = last ≡ todo
Leads f todo (step ∷ steps) last = (mid : List Todo) × Follows f todo step mid × Leads f mid steps last

-- the actions are in order if they lead from the task's first list to some list
pub record InOrder {W : Type 0} (f : W → Written) (task : Task) (steps : List (Action W)) : Type 0 where
  pub left : List Todo
  pub leads : Leads f (first_todo task) steps left

abbrev pub is_claim_of : {W : Type 0} → Identity → Action W → Bool
is_claim_of i (Action.Claim j (Ok Claim.Claimed)) = is_identity i j
is_claim_of i step = false

-- Whether the action is of this stage after a claim of the identity: 0 a load begins, 1 the node is pinned, 2 written,
-- 3 stored, 4 its key is set, 5 published, 6 released.
abbrev pub is_later_of : {W : Type 0} → ℕ → Identity → Action W → Bool
is_later_of stage i (Action.Pin j (Ok (PinStep.LoadBegun l))) = stage == 0 && is_identity i j
is_later_of stage i (Action.Pin j (Ok (PinStep.Pinned k))) = stage == 1 && is_identity i j
is_later_of stage i (Action.Write j r) = stage == 2 && is_identity i j
is_later_of stage i (Action.Store (Some j) r) = stage == 3 && is_identity i j
is_later_of stage i (Action.SetKey j r) = stage == 4 && is_identity i j
is_later_of stage i (Action.Publish j key height) = stage == 5 && is_identity i j
is_later_of stage i (Action.Release j) = stage == 6 && is_identity i j
is_later_of stage i step = false

-- each identity is claimed at most once, and then passes through each stage at most once
pub record OnceEach {W : Type 0} (steps : List (Action W)) : Type 0 where
  pub claim : (i : Identity) → times (is_claim_of i) steps ≤ 1
  pub later : (stage : ℕ) (i : Identity) → times (is_later_of stage i) steps ≤ 1

-- the action failed with this error
abbrev pub MetError : {W : Type 0} → Action W → Error → Type 0
MetError (Action.Claim i (Err e)) f = e ≡ f
MetError (Action.Pin i (Err e)) f = e ≡ f
MetError (Action.Write i (Err e)) f = e ≡ f
MetError (Action.Store i (Err e)) f = e ≡ f
MetError (Action.SetKey i (Err e)) f = e ≡ f
MetError step f = ⊥

abbrev pub is_claim : {W : Type 0} → Action W → Bool
is_claim (Action.Claim i (Ok Claim.Claimed)) = true
is_claim step = false

abbrev pub references_written : {W : Type 0} → (W → Written) → Action W → ℕ
references_written f (Action.Write i (Ok out)) = length (f out).references
references_written f step = 0

-- how many references the task itself has
abbrev pub own_references : Task → ℕ
own_references (of_item written) = length written.references
own_references (of_entry h i) = 0

-- a worker counts at most 8 steps for each claim, one for each reference of its item or that it wrote, and 4
abbrev pub IsBounded : {W : Type 0} → (W → Written) → Walking → List (Action W) → Type 0
IsBounded f walking steps = walking.steps ≤ 8 * times is_claim steps +
    (own_references walking.task + sum_by (references_written f) steps) + 4

-- Some references of these kinds: what a blob needs next depends only on the kinds of the references that were got.
abbrev pub some_of : List ℕ → List ArcRef
some_of kinds = map (λ kind. record { kind = record { 0 = kind }; node = record { 0 = 0 }; handle = record { 0 = 0 } })
    kinds

-- what a blob needs next if references of these kinds were got
abbrev pub after_kinds : Types → ℕ → Blob → List ℕ → Next
after_kinds types t blob kinds = next_of types t blob (some_of kinds)

mutual
  -- Reading the key as a value of the type t takes `many` references, counted on all paths (a node that is reached
  -- twice counts twice), and its longest path has `longest`. The references of a repeated map key's dropped value count
  -- too, though the tree doesn't have them.
  pub data Unfolds (types : Types) (store : ℕ → Option Blob) : ℕ → ℕ → ℕ → ℕ → Type 0 where
    unfolds : (t key many longest : ℕ) (blob : Blob) → store key ≡ Some blob
        → UnfoldsFrom types store t blob [] many longest → Unfolds types store t key many longest

  -- what is still to be taken of a blob if references of these kinds were got: nothing; one more reference and all that
  -- it leads to; or one that is taken without being read
  pub data UnfoldsFrom (types : Types) (store : ℕ → Option Blob) : ℕ → Blob → List ℕ → ℕ → ℕ → Type 0 where
    ends-here : (t : ℕ) (blob : Blob) (kinds : List ℕ) (own : Meaning ArcRef) → after_kinds types t blob kinds
        ≡ reads own → UnfoldsFrom types store t blob kinds 0 0
    takes-next : (t child below rest deep longest : ℕ) (blob : Blob) (kinds : List ℕ) (kind : Kind)
        → after_kinds types t blob kinds ≡ asks kind child → is_eager kind.0 ≡ true
        → Unfolds types store (type_of kind.0) child below deep
        → UnfoldsFrom types store t blob (kinds ++ kind.0 ∷ []) rest longest
        → UnfoldsFrom types store t blob kinds (1 + below + rest) (max (1 + deep) longest)
    leaves-next : (t child rest longest : ℕ) (blob : Blob) (kinds : List ℕ) (kind : Kind)
        → after_kinds types t blob kinds ≡ asks kind child → is_eager kind.0 ≡ false
        → UnfoldsFrom types store t blob (kinds ++ kind.0 ∷ []) rest longest
        → UnfoldsFrom types store t blob kinds (1 + rest) longest

-- A path of n references leads from reading the key `key` as type t to reading the key `last` as last_type: reading the
-- first key needs a reference, after all before it were got; that reference's key is the next key; and so on.
pub data LeadsDown (types : Types) (store : ℕ → Option Blob) : ℕ → ℕ → ℕ → ℕ → ℕ → Type 0 where
  is-there : (t key : ℕ) → LeadsDown types store t key 0 t key
  goes-down : (t key child n longer last_type last : ℕ) (blob : Blob) (kinds : List ℕ) (kind : Kind) → longer ≡ n + 1
      → store key ≡ Some blob → after_kinds types t blob kinds ≡ asks kind child → is_eager kind.0 ≡ true
      → LeadsDown types store (type_of kind.0) child n last_type last
      → LeadsDown types store t key longer last_type last

-- reading the key reaches a blob that is too deep on its path, or one that enters a level too many
pub record ReadsTooDeep (types : Types) (store : ℕ → Option Blob) (t key : ℕ) : Type 0 where
  pub n : ℕ
  pub last_type : ℕ
  pub last : ℕ
  pub blob : Blob
  pub down : LeadsDown types store t key n last_type last
  pub is : store last ≡ Some blob
  pub deep : (longest_path < n) ⊎ ((kinds : List ℕ) × (after_kinds types last_type blob kinds
      ≡ is_faulty Error.TooDeep))

-- a load of n references makes at most 2n + 2 steps; the step with that number ends it
abbrev pub IsWithinBound : {N : Type 0} → Types → (ℕ → Option Blob) → ℕ → ℕ → LoadReply N → Type 0
IsWithinBound types store t key reply = (many longest : ℕ) → Unfolds types store t key many longest
    → (reply.steps ≤ 2 * many + 2) × (reply.steps ≡ 2 * many + 2 → IsSome reply.ended)
