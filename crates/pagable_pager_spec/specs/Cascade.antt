-- The release of handles with all that follows from it: values that are dropped release the handles that they own, and
-- cells that lose their last pin are listed. All calls and steps release in this one way: the least closed set that
-- contains the given handles.
use Rattle.pagable_pager_spec.specs.{
  Basics.{Error, HandleNumber, HandleRow, Mode, Owner, times},
  Kinds.{has_key, held, is_at, is_owned_by, is_pin, owner_value, pins, sharing},
  World.{Alike, Core, greatest, key_at},
}
use Rattle.std.specs.{
  Prelude.{Bool, IfErr, IfOk, List, None, Result, false, filter, if◌then◌else◌, length, map, nat_eq, nat_lt, not, true},
  Prelude.{ℕ, [], ◌&&◌, ◌++◌, ◌+◌, ◌<◌, ◌==◌, ◌∷◌, ◌≡◌, ◌≤◌, ◌⊎◌},
}

abbrev pub is_outside : (ℕ → Bool) → HandleRow → Bool
is_outside s h = not (s h.number.0)

-- how many handles outside the set s the node has; below: how many of these pin it, and how many its value owns outside
-- s
abbrev pub held_outside : List HandleRow → (ℕ → Bool) → ℕ → ℕ
held_outside rows s n = times (λ h. is_at n h && is_outside s h) rows

abbrev pub pins_outside : List HandleRow → (ℕ → Bool) → ℕ → ℕ
pins_outside rows s n = times (λ h. is_pin n h && is_outside s h) rows

abbrev pub owned_outside : List HandleRow → (ℕ → Bool) → ℕ → ℕ
owned_outside rows s n = times (λ h. is_owned_by (owner_value n) h && is_outside s h) rows

-- Whether the node's value is dropped if the handles of the set s are released and these entries are added to the list:
-- a node with a key loses its value with its last pin; a shared node or a cell without a key loses it with its last
-- handle, unless one of the new entries is a handle of it.
abbrev pub loses_value : List HandleRow → (ℕ → Bool) → List HandleRow → (ℕ → Bool) → ℕ → Bool
loses_value rows keyed entries s n = if keyed n then nat_eq (pins_outside rows s n) 0 else nat_eq (held n entries) 0
    && nat_eq (held_outside rows s n) 0

-- nothing more follows: if a value is dropped, all handles that it owns are in the set
abbrev pub IsClosed : List HandleRow → (ℕ → Bool) → List HandleRow → (ℕ → Bool) → Type 0
IsClosed rows keyed entries s = (n : ℕ) → loses_value rows keyed entries s n ≡ true → owned_outside rows s n ≡ 0

-- each live handle in s is in t
abbrev pub IsWithin : List HandleRow → (ℕ → Bool) → (ℕ → Bool) → Type 0
IsWithin rows s t = times (λ h. s h.number.0 && not (t h.number.0)) rows ≡ 0

-- s is the least closed set that contains the given handles
pub record IsLeast (rows : List HandleRow) (keyed : ℕ → Bool) (entries : List HandleRow)
    (given s : ℕ → Bool) : Type 0 where
  pub holds : IsWithin rows given s
  pub closed : IsClosed rows keyed entries s
  pub least : (t : ℕ → Bool) → IsWithin rows given t → IsClosed rows keyed entries t → IsWithin rows s t

-- new list entries: the list's unpinned handles, numbered on from the last one given out
abbrev pub AreNewEntries : ℕ → List HandleRow → Type 0
AreNewEntries last [] = Unit {0}
AreNewEntries last (h ∷ hs) = (h.number.0 ≡ last + 1) × (h.mode ≡ Mode.LooseUnpinned) × (h.owner ≡ Owner.List)
    × AreNewEntries (last + 1) hs

abbrev pub is_keyed : Core → ℕ → Bool
is_keyed w n = has_key (key_at w n)

-- A cell without a key has lost its last pin, so it must be listed if the storage is open. `before` is the state that
-- the call found.
pub record MustList (before w w' : Core) (n : ℕ) : Type 0 where
  pub pinned : 0 < pins n before.rows
  pub unpinned : pins n w'.rows ≡ 0
  pub unkeyed : is_keyed w n ≡ false
  pub unshared : sharing n before.rows ≡ 0
  pub stands_open : w.closed ≡ false

-- there was no room for one more row, or none for one more entry
abbrev pub IsPlaceWanting : Core → Core → Type 0
IsPlaceWanting w w' = (w.places.handles ≤ length w.rows) ⊎ (w.places.entries ≤ length w'.list)

-- the error for an entry that couldn't be added: NumbersSpent, or OutOfMemory if a number was left at first
abbrev pub IsListRefusal : Core → Core → Error → Type 0
IsListRefusal w w' Error.NumbersSpent = greatest ≤ w'.last.handle
IsListRefusal w w' Error.OutOfMemory = IsPlaceWanting w w' × (w.last.handle < greatest)
IsListRefusal w w' _ = ⊥

-- what the result says about the listing: Ok means that every cell that must be listed is; an error means that some
-- cell isn't
pub record TellsListing (before w : Core) (entries : List HandleRow) (r : Result (Unit {0}) Error)
    (w' : Core) : Type 0 where
  pub all : IfOk r (λ u. (n : ℕ) → MustList before w w' n → held n entries ≡ 1)
  pub not_all : IfErr r (λ e. (n : ℕ) × MustList before w w' n × (held n entries ≡ 0) × IsListRefusal w w' e)

abbrev pub left_rows : (ℕ → Bool) → List HandleRow → List HandleRow
left_rows gone rows = filter (λ h. not (gone h.number.0)) rows

-- The state after the release: the rows that are left and the new entries; the cells that still have a handle; and the
-- list, with its released entries removed and the new ones at its end.
abbrev pub fallen : Core → (ℕ → Bool) → List HandleRow → Core
fallen w gone entries = record w {
  rows = left_rows gone w.rows ++ entries;
  cells = λ n. if nat_lt 0 (held n (left_rows gone w.rows ++ entries)) then w.cells n else None;
  list = filter (λ q. not (gone q.0)) w.list ++ map (λ h. h.number) entries;
  last = record w.last { handle = w.last.handle + length entries };
}

-- The given handles, and the least closed set that contains them, are released from the state w, which is the state
-- after the call's direct effect.
pub record Falls (before w : Core) (given : ℕ → Bool) (r : Result (Unit {0}) Error) (w' : Core) : Type 0 where
  pub gone : ℕ → Bool
  pub entries : List HandleRow
  pub set : IsLeast w.rows (is_keyed w) entries given gone
  -- each new entry is of a cell that must be listed, one for each; if such a cell has none, no number was left, or no
  -- room
  pub new : AreNewEntries w.last.handle entries
  pub only : (n : ℕ) → 0 < held n entries → MustList before w w' n × (held n entries ≡ 1)
  pub each : (n : ℕ) → MustList before w w' n → (held n entries ≡ 1) ⊎ (greatest ≤ w'.last.handle) ⊎ IsPlaceWanting w w'
  pub tells : TellsListing before w entries r w'
  pub within : w.last.handle + length entries ≤ greatest
  pub leaves : Alike (fallen w gone entries) w'

-- released, whatever the listing's result was
pub record FallsAnyhow (before w : Core) (given : ℕ → Bool) (w' : Core) : Type 0 where
  pub told : Result (Unit {0}) Error
  pub falls : Falls before w given told w'

abbrev pub nobody : ℕ → Bool
nobody q = false

abbrev pub only_handle : HandleNumber → ℕ → Bool
only_handle h q = q == h.0
