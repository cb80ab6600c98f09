-- Why a call fails, as a function of the state. If several causes hold, the call returns the first in this order:
-- nothing has the number; it belongs to another; its mode doesn't fit; its type doesn't fit; no number is left; memory
-- runs out.
use Rattle.pagable_pager_spec.specs.{
  Basics.{ArcRef, Error, HandleNumber, HandleRow, LoadNumber, Mode, Owner, if_there, is_in, or_else, type_of},
  Kinds.{fits_mode, is_owner},
  World.{Alike, Core, OpenLoad, greatest, row_at, type_at},
}
use Rattle.std.specs.{
  Prelude.{Bool, List, None, Option, Some, false, if◌then◌else◌, length, nat_le, nat_lt, not, true, ℕ, [], ◌==◌, ◌||◌},
  Prelude.{◌∷◌, ◌≡◌, ◌≤◌, ◌⊎◌},
}

-- the place of each error in this order
abbrev pub rank : Error → ℕ
rank Error.NoSuchHandle = 0
rank Error.NotYours = 1
rank Error.WrongMode = 2
rank Error.WrongKind = 3
rank Error.NumbersSpent = 4
rank _ = 5

-- of two possible causes the one that is earlier in the order
abbrev pub earlier : Option Error → Option Error → Option Error
earlier None b = b
earlier (Some e) None = Some e
earlier (Some e) (Some f) = if nat_lt (rank f) (rank e) then Some f else Some e

abbrev pub where_so : Bool → Option Error → Option Error
where_so true e = e
where_so false e = None

abbrev pub refused_if : Bool → Error → Option Error
refused_if b e = if b then Some e else None

-- no number is left after the last one
abbrev pub spent : ℕ → Option Error
spent last = refused_if (nat_le greatest last) Error.NumbersSpent

-- why no worker begins: no number is left for it, or memory runs out
abbrev pub WorkerFault : Core → Error → Type 0
WorkerFault w e = (spent w.last.worker ≡ Some e) ⊎ ((spent w.last.worker ≡ None) × (e ≡ Error.OutOfMemory))

-- there is no room for one more row
abbrev pub AreHandlesFull : Core → Type 0
AreHandlesFull w = w.places.handles ≤ length w.rows

-- `me` owns the handle, and its mode passes the test
pub record Owns (w : Core) (me : Owner) (h : HandleNumber) (fits : Mode → Bool) (row : HandleRow) : Type 0 where
  pub live : row_at w h ≡ Some row
  pub own : row.owner ≡ me
  pub as_asked : fits row.mode ≡ true

-- why a handle can't be queried
abbrev pub live_fault : Option HandleRow → Option Error
live_fault row = if_there (λ (h : HandleRow). None) (Some Error.NoSuchHandle) row

-- why `me` can't use the handle
abbrev pub handle_fault : Core → Owner → HandleNumber → (Mode → Bool) → Option Error
handle_fault w me h fits =
    if_there (λ (row : HandleRow). if not (is_owner me row.owner) then Some Error.NotYours else refused_if
    (not (fits row.mode)) Error.WrongMode) (Some Error.NoSuchHandle) (row_at w h)

abbrev pub is_type : ℕ → Option ℕ → Bool
is_type t found = if_there (λ u. u == t) false found

-- The reference names a live handle of this owner and the handle's node, and mode and type fit its kind.
pub record IsReference (w : Core) (owner : Owner) (r : ArcRef) : Type 0 where
  pub row : HandleRow
  pub live : row_at w r.handle ≡ Some row
  pub at : row.node ≡ r.node
  pub owned : row.owner ≡ owner
  pub fits : fits_mode r.kind.0 row.mode ≡ true
  pub typed : type_at w r.node.0 ≡ Some (type_of r.kind.0)

-- why a reference has a fault, if its handle has this row; `first` is a cause to be checked before mode and type
abbrev pub row_fault : Core → ArcRef → Option Error → HandleRow → Option Error
row_fault w r first row = if not (row.node.0 == r.node.0) then Some Error.NoSuchHandle else
    or_else first (if not (fits_mode r.kind.0 row.mode) then Some Error.WrongMode else refused_if
    (not (is_type (type_of r.kind.0) (type_at w r.node.0))) Error.WrongKind)

-- why one reference of a given value has a fault; `seen` are the handles that its earlier references name
abbrev pub reference_fault : Core → Owner → List ℕ → ArcRef → Option Error
reference_fault w owner seen r = if_there (λ (row : HandleRow). row_fault w r
    (refused_if (not (is_owner owner row.owner) || is_in seen r.handle.0) Error.NotYours) row) (Some Error.NoSuchHandle)
    (row_at w r.handle)

-- the cause of the first reference that has one
unfoldable pub references_fault : Core → Owner → List ℕ → List ArcRef → Option Error
references_fault w owner seen [] = None
references_fault w owner seen (r ∷ rs) = or_else (reference_fault w owner seen r)
    (references_fault w owner (r.handle.0 ∷ seen) rs)

-- why the named handles can't all be handed over: one isn't live, has another owner, or is named twice
unfoldable pub named_fault : Core → Owner → List ℕ → List HandleNumber → Option Error
named_fault w owner seen [] = None
named_fault w owner seen (h ∷ hs) =
    earlier (if_there (λ (row : HandleRow). refused_if (not (is_owner owner row.owner) || is_in seen h.0)
    Error.NotYours) (Some Error.NoSuchHandle) (row_at w h)) (named_fault w owner (h.0 ∷ seen) hs)

-- the load is open, and `me` began it
pub record OwnsLoad (w : Core) (me : Owner) (l : LoadNumber) (load : OpenLoad) : Type 0 where
  pub stands_open : w.loads l.0 ≡ Some load
  pub own : load.owner ≡ me

-- why `me` can't use the load
abbrev pub load_fault : Core → Owner → LoadNumber → Option Error
load_fault w me l = if_there (λ (load : OpenLoad). refused_if (not (is_owner me load.owner)) Error.NotYours)
    (Some Error.NoSuchHandle) (w.loads l.0)

-- no load with this number is open
abbrev pub closed_fault : Core → LoadNumber → Option Error
closed_fault w l = if_there (λ (load : OpenLoad). None) (Some Error.NoSuchHandle) (w.loads l.0)

-- The call fails with its cause; or with OutOfMemory, if `full` says that memory was needed, and none of the causes
-- `before` that are checked earlier holds. Nothing changes.
pub record Refused (cause before : Option Error) (full : Type 0) (w : Core) (e : Error) (w' : Core) : Type 0 where
  pub why : (cause ≡ Some e) ⊎ ((e ≡ Error.OutOfMemory) × (before ≡ None) × full)
  pub stays : Alike w w'
