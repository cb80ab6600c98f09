-- The calls on handles, nodes, the cache and the storage: what each does to the pager's core, and why it fails.
-- `me` is the caller's part: the one who makes the call and owns what it returns.
use Rattle.pagable_pager_spec.specs.{
  Basics.{ArcRef, Blob, Error, HandleNumber, HandleRow, Kind, Mode, NodeNumber, OptionalDataKey, Owner, Pinning},
  Basics.{changed, if_there, times, type_of, updated},
  Cascade.{Falls, FallsAnyhow, nobody, only_handle},
  Kinds.{any_mode, fits_mode, is_handle, is_loose, is_pinned, is_unpinned, mode_of, owner_value, pins},
  Refusals.{AreHandlesFull, Owns, Refused, earlier, handle_fault, is_type, live_fault, references_fault, refused_if},
  Refusals.{spent, where_so},
  World.{Alike, Cell, Core, greatest, is_here, key_at, row_at, type_at, usable},
}
use Rattle.pagable_value_spec.specs.Stored.{Adds, IsMemoryOrFailure, RefusesFetch, RefusesStore}
use Rattle.std.specs.{
  List.remove,
  Prelude.{Bool, Err, IfErr, IfOk, List, None, Ok, Option, Result, Some, false, if◌then◌else◌, is_some, length, min},
  Prelude.{nat_lt, not, slice_get, true, ℕ, [], ◌&&◌, ◌++◌, ◌+◌, ◌-◌, ◌<◌, ◌==◌, ◌||◌, ◌∷◌, ◌≡◌, ◌≤◌, ◌⊎◌},
}

abbrev pub row_of : ℕ → NodeNumber → Mode → Owner → HandleRow
row_of q node mode owner = record { number = record { 0 = q }; node = node; mode = mode; owner = owner }

-- one more handle, under the next number
abbrev pub with_handle : Core → NodeNumber → Mode → Owner → Core
with_handle w node mode owner = record w {
  rows = w.rows ++ row_of (w.last.handle + 1) node mode owner ∷ [];
  last = record w.last { handle = w.last.handle + 1 };
}

abbrev pub with_mode : Core → HandleNumber → Mode → Core
with_mode w h mode = record w { rows = changed (is_handle h.0) (λ row. record row { mode = mode }) w.rows }

-- the rows after the handles of the set s have moved to another owner
abbrev pub moved : (ℕ → Bool) → Owner → List HandleRow → List HandleRow
moved s owner rows = changed (λ row. s row.number.0) (λ row. record row { owner = owner }) rows

abbrev pub with_key : Core → NodeNumber → ℕ → Core
with_key w n key = record w {
  cells = updated n.0 (if_there
      (λ (cell : Cell). Some (record cell { key = OptionalDataKey.Some key })) None (w.cells n.0)) w.cells;
}

-- whether the handle is one of a value's references
unfoldable pub is_named_by : List ArcRef → ℕ → Bool
is_named_by [] q = false
is_named_by (r ∷ rs) q = (r.handle.0 == q) || is_named_by rs q

abbrev pub next_node : Core → NodeNumber
next_node w = record { 0 = w.last.node + 1 }

-- A new node for a value with these references. The value becomes the owner of their handles. A cell may have its key
-- from the first.
abbrev pub with_node : Core → ℕ → OptionalDataKey → List ArcRef → Core
with_node w node_type key references = record w {
  rows = moved (is_named_by references) (owner_value (w.last.node + 1)) w.rows;
  cells = updated (w.last.node + 1) (Some (record { node_type = node_type; key = key })) w.cells;
  last = record w.last { node = w.last.node + 1 };
}

-- the returned handle has the next number, and a number was left
pub record IsNext (k : HandleNumber) (w : Core) : Type 0 where
  pub above : k.0 ≡ w.last.handle + 1
  pub is_left : w.last.handle < greatest

-- why a new node with a handle can't be made
abbrev pub insert_fault : Core → Option Error
insert_fault w = earlier (spent w.last.node) (spent w.last.handle)

-- A call that inserts the value x, with one handle. On an error the caller has x back. The call may run out of memory
-- even before it looks at the references.
pub record InsertCall {N : Type 0} (w : Core) (me : Owner) (x : N) (node_type : ℕ) (references : List ArcRef)
    (mode : Mode) (r : Result HandleNumber (Error × N)) (w' : Core) : Type 0 where
  pub made : IfOk r (λ k. (references_fault w me [] references ≡ None) × (w.last.node < greatest) × IsNext k w
      × Alike (with_handle (with_node w node_type OptionalDataKey.None references) (next_node w) mode me) w')
  pub refused : IfErr r (λ e. (e.1 ≡ x) × Refused (earlier (references_fault w me [] references) (insert_fault w)) None
      (Unit {0}) w e.0 w')

-- a call that makes a cell with a key and no value, and one unpinned handle
pub record InsertPagedOutCall (w : Core) (me : Owner) (node_type key : ℕ) (r : Result HandleNumber Error)
    (w' : Core) : Type 0 where
  pub made : IfOk r (λ k. (w.last.node < greatest) × IsNext k w
      × Alike (with_handle (with_node w node_type (OptionalDataKey.Some key) []) (next_node w) Mode.LooseUnpinned me)
      w')
  pub refused : IfErr r (λ e. Refused (insert_fault w) None (Unit {0}) w e w')

-- why a clone fails before anything is allocated
abbrev pub clone_fault : Core → HandleNumber → Option Error
clone_fault w h = earlier (live_fault (row_at w h)) (spent w.last.handle)

-- A call that clones any live handle. It can't fail while a number and room for a row are left.
pub record CloneCall (w : Core) (me : Owner) (h : HandleNumber) (r : Result HandleNumber Error)
    (w' : Core) : Type 0 where
  pub made : IfOk r (λ k. (row : HandleRow) × (row_at w h ≡ Some row) × IsNext k w
      × Alike (with_handle w row.node row.mode me) w')
  pub refused : IfErr r (λ e. Refused (clone_fault w h) (clone_fault w h) (AreHandlesFull w) w e w')

-- whether the handle is live and its node has its value in memory
abbrev pub is_handle_here : Core → HandleNumber → Bool
is_handle_here w h = if_there (λ (row : HandleRow). is_here w row.node.0) false (row_at w h)

-- The loose handle becomes pinned, and a new Pinned handle is made. Or the value has to be loaded first, from this key,
-- and nothing changes.
abbrev pub Pins : Core → Owner → HandleNumber → HandleRow → Pinning → Core → Type 0
Pins w me h row (Pinning.Pinned k) w' = (is_here w row.node.0 ≡ true) × IsNext k w
    × Alike (with_handle (with_mode w h Mode.LoosePinned) row.node Mode.Pinned me) w'
Pins w me h row (Pinning.NeedsLoad key) w' = (is_here w row.node.0 ≡ false)
    × (key_at w row.node.0 ≡ OptionalDataKey.Some key) × Alike w w'

abbrev pub pin_fault : Core → Owner → HandleNumber → Option Error
pin_fault w me h = earlier (handle_fault w me h is_loose) (where_so (is_handle_here w h) (spent w.last.handle))

-- a call that pins by a loose handle; for a value in memory it can't fail while a number and room for a row are left
pub record PinCall (w : Core) (me : Owner) (h : HandleNumber) (r : Result Pinning Error) (w' : Core) : Type 0 where
  pub pins : IfOk r (λ p. (row : HandleRow) × Owns w me h is_loose row × Pins w me h row p w')
  pub refused : IfErr r (λ e. Refused (pin_fault w me h) (pin_fault w me h)
      ((is_handle_here w h ≡ true) × AreHandlesFull w) w e w')

-- a call that turns a Pinned handle into a loose pinned one with the same number
pub record LoosenCall (w : Core) (me : Owner) (h : HandleNumber) (r : Result HandleNumber Error)
    (w' : Core) : Type 0 where
  pub turned : IfOk r (λ k. (row : HandleRow) × Owns w me h is_pinned row × (k ≡ h)
      × Alike (with_mode w h Mode.LoosePinned) w')
  pub refused : IfErr r (λ e. (handle_fault w me h is_pinned ≡ Some e) × Alike w w')

-- A call on the caller's handle or load fails with this cause, and nothing changes.
pub record IsRefused (cause : Option Error) (w : Core) (r : Result (Unit {0}) Error) (w' : Core) : Type 0 where
  pub e : Error
  pub why : cause ≡ Some e
  pub told : r ≡ Err e
  pub stays : Alike w w'

-- The handle is unpinned, which may drop its node's value; or it was unpinned already.
pub record UnpinCall (w : Core) (me : Owner) (h : HandleNumber) (r : Result (Unit {0}) Error) (w' : Core) : Type 0 where
  pub does : IsRefused (handle_fault w me h is_loose) w r w' ⊎ ((row : HandleRow) × Owns w me h is_loose row
      × (((row.mode ≡ Mode.LooseUnpinned) × (r ≡ Ok tt) × Alike w w')
      ⊎ ((row.mode ≡ Mode.LoosePinned) × Falls w (with_mode w h Mode.LooseUnpinned) nobody r w')))

pub record ReleaseCall (w : Core) (me : Owner) (h : HandleNumber) (r : Result (Unit {0}) Error)
    (w' : Core) : Type 0 where
  pub does : IsRefused (handle_fault w me h any_mode) w r w'
      ⊎ ((row : HandleRow) × Owns w me h any_mode row × Falls w w (only_handle h) r w')

-- The cell of a loose handle gets a key; its value is dropped if nothing pins it. By a handle of another mode nothing
-- happens.
pub record SetKeyCall (w : Core) (me : Owner) (h : HandleNumber) (key : ℕ) (r : Result (Unit {0}) Error)
    (w' : Core) : Type 0 where
  pub does : IsRefused (handle_fault w me h any_mode) w r w' ⊎ ((row : HandleRow) × Owns w me h any_mode row
      × (((is_loose row.mode ≡ false) × (r ≡ Ok tt) × Alike w w')
      ⊎ ((is_loose row.mode ≡ true) × Falls w (with_key w row.node key) nobody r w')))

-- a query fails only if there is no such handle
pub record Looks {X : Type 0} (w : Core) (h : HandleNumber) (holds : X → HandleRow → Type 0)
    (r : Result X Error) : Type 0 where
  pub found : IfOk r (λ x. (row : HandleRow) × (row_at w h ≡ Some row) × holds x row)
  pub refused : IfErr r (λ e. live_fault (row_at w h) ≡ Some e)

-- queries: how many handles pin the node; its key; whether its value has to be loaded first; which node it is
abbrev pub CountCall : Core → HandleNumber → Result ℕ Error → Type 0
CountCall w h r = Looks w h (λ n row. n ≡ pins row.node.0 w.rows) r

abbrev pub KeyCall : Core → HandleNumber → Result OptionalDataKey Error → Type 0
KeyCall w h r = Looks w h (λ key row. key ≡ key_at w row.node.0) r

abbrev pub IsPagedOutCall : Core → HandleNumber → Result Bool Error → Type 0
IsPagedOutCall w h r = Looks w h (λ b row. b ≡ not (is_here w row.node.0)) r

abbrev pub NodeCall : Core → HandleNumber → Result NodeNumber Error → Type 0
NodeCall w h r = Looks w h (λ n row. n ≡ row.node) r

-- the type of a live node, or None if the node is gone
abbrev pub TypeCall : Core → NodeNumber → Option ℕ → Type 0
TypeCall w n found = found ≡ type_at w n.0

-- A loose unpinned handle is put at the list's end; if the storage is closed, the handle is released. The call may run
-- out of memory only if the storage is open and the list has no room.
pub record ScheduleCall (w : Core) (me : Owner) (h : HandleNumber) (r : Result (Unit {0}) Error)
    (w' : Core) : Type 0 where
  pub moves : IfOk r (λ u. (row : HandleRow) × Owns w me h is_unpinned row
      × (((w.closed ≡ false) × Alike (record w {
        rows = moved (only_handle h) Owner.List w.rows;
        list = w.list ++ h ∷ [];
      }) w') ⊎ ((w.closed ≡ true) × FallsAnyhow w w (only_handle h) w')))
  pub refused : IfErr r (λ e. Refused (handle_fault w me h is_unpinned) (handle_fault w me h is_unpinned)
      ((w.closed ≡ false) × (w.places.entries ≤ length w.list)) w e w')

-- the list entry at this place moves to the caller, or there is none
abbrev pub TakeCall : Core → Owner → ℕ → Option HandleNumber → Core → Type 0
TakeCall w me i (Some h) w' = (slice_get w.list i ≡ Some h)
    × Alike (record w { rows = moved (only_handle h) me w.rows; list = remove w.list i }) w'
TakeCall w me i None w' = (length w.list ≤ i) × Alike w w'

-- how many handles and how many list entries can still be added without an allocation: the smaller number
abbrev pub room_of : Core → ℕ
room_of w = min (w.places.handles - length w.rows) (w.places.entries - length w.list)

-- room is reserved: at least for n more handles and entries, or the call fails
pub record ReserveCall (w : Core) (n : ℕ) (r : Result (Unit {0}) Error) (w' : Core) : Type 0 where
  pub stays : Alike w w'
  pub enough : IfOk r (λ u. n ≤ room_of w')
  pub wanting : IfErr r (λ e. (e ≡ Error.OutOfMemory) × (room_of w' < n))

abbrev pub is_usable : Core → Kind → ℕ → Bool
is_usable w kind key = is_some (usable w kind.0 key)

-- a new handle of the node n, which the cache gave, in the kind's mode
abbrev pub with_known : Core → Kind → ℕ → Owner → Core
with_known w kind n owner = with_handle w (record { 0 = n }) (mode_of kind.0) owner

-- a new handle of the node that the cache gives; or None if it gives none
abbrev pub Recalls : Core → Owner → Kind → ℕ → Option HandleNumber → Core → Type 0
Recalls w me kind key (Some k) w' = (n : ℕ) × (usable w kind.0 key ≡ Some n) × IsNext k w
    × Alike (with_known w kind n me) w'
Recalls w me kind key None w' = (usable w kind.0 key ≡ None) × Alike w w'

abbrev pub recall_fault : Core → Kind → ℕ → Option Error
recall_fault w kind key = where_so (is_usable w kind key) (spent w.last.handle)

pub record RecallCall (w : Core) (me : Owner) (kind : Kind) (key : ℕ) (r : Result (Option HandleNumber) Error)
    (w' : Core) : Type 0 where
  pub answers : IfOk r (λ found. Recalls w me kind key found w')
  pub refused : IfErr r (λ e. Refused (recall_fault w kind key) (recall_fault w kind key)
      ((is_usable w kind key ≡ true) × AreHandlesFull w) w e w')

-- the cache has this node under the kind and key from now on
abbrev pub with_cached : Core → Kind → ℕ → NodeNumber → Core
with_cached w kind key n = record w { cache = λ k q. if k == kind.0 && q == key then Some n.0 else w.cache k q }

abbrev pub with_cached_if_open : Core → Kind → ℕ → NodeNumber → Core
with_cached_if_open w kind key n = if w.closed then w else with_cached w kind key n

abbrev pub offer_fault : Core → Owner → Kind → ℕ → HandleNumber → Option Error
offer_fault w me kind key h =
    earlier (handle_fault w me h (fits_mode kind.0)) (earlier
    (refused_if (not (is_type (type_of kind.0) (if_there (λ (row : HandleRow). type_at w row.node.0) None
    (row_at w h)))) Error.WrongKind) (where_so (not w.closed && is_usable w kind key) (spent w.last.handle)))

-- The node of the handle is cached, and the handle stays with its owner. If the cache gives a node already, a new
-- handle of that node is made, and then the offered handle is released. If the storage is closed, the offered handle
-- itself is returned.
abbrev pub Offers : Core → Owner → Kind → ℕ → HandleNumber → HandleRow → Option HandleNumber → Core → Type 0
Offers w me kind key h row None w' = (w.closed ≡ false) × (usable w kind.0 key ≡ None)
    × Alike (with_cached w kind key row.node) w'
Offers w me kind key h row (Some k) w' =
    ((w.closed ≡ true) × (k ≡ h) × Alike w w') ⊎ ((w.closed ≡ false)
    × ((n : ℕ) × (usable w kind.0 key ≡ Some n) × IsNext k w
    × FallsAnyhow w (with_known w kind n me) (only_handle h) w'))

pub record OfferCall (w : Core) (me : Owner) (kind : Kind) (key : ℕ) (h : HandleNumber)
    (r : Result (Option HandleNumber) Error) (w' : Core) : Type 0 where
  pub answers : IfOk r (λ found. (row : HandleRow) × Owns w me h (fits_mode kind.0) row
      × (type_at w row.node.0 ≡ Some (type_of kind.0)) × Offers w me kind key h row found w')
  pub refused : IfErr r (λ e. Refused (offer_fault w me kind key h) (offer_fault w me kind key h)
      ((w.closed ≡ false) × ((usable w kind.0 key ≡ None) ⊎ AreHandlesFull w)) w e w')

pub record ClearCall (w : Core) (r : Result (Unit {0}) Error) (w' : Core) : Type 0 where
  pub told : r ≡ Ok tt
  pub leaves : Alike (record w { cache = λ kind key. None }) w'

-- the storage was called, and its count of failures may have risen
pub record Asked (w w' : Core) : Type 0 where
  pub fails : w.failures ≤ w'.failures
  pub leaves : Alike (record w { failures = w'.failures }) w'

pub record FetchCall (w : Core) (key : ℕ) (r : Result Blob Error) (w' : Core) : Type 0 where
  pub asked : Asked w w'
  pub found : IfOk r (λ blob. w.stored key ≡ Some blob)
  pub refused : IfErr r (λ e. RefusesFetch key (w.stored key) w.failures w'.failures e)

-- the blob is stored under its key from now on; before, nothing or the same blob was
pub record Stores (w : Core) (key : ℕ) (blob : Blob) (w' : Core) : Type 0 where
  pub stands_open : w.closed ≡ false
  pub adds : Adds key blob w.stored w'.stored
  pub fails : w.failures ≤ w'.failures
  pub leaves : Alike (record w { stored = w'.stored; failures = w'.failures }) w'

pub record StoreCall (digest : Blob → ℕ) (w : Core) (blob : Blob) (r : Result ℕ Error) (w' : Core) : Type 0 where
  pub stores : IfOk r (λ key. (key ≡ digest blob) × Stores w key blob w')
  pub refused : IfErr r (λ e. Asked w w' × RefusesStore blob (w.stored (digest blob)) w.closed w.failures w'.failures e)

-- the storage is asked to write what it has held back
pub record FlushCall (w : Core) (r : Result (Unit {0}) Error) (w' : Core) : Type 0 where
  pub asked : Asked w w'
  pub refused : IfErr r (λ e. IsMemoryOrFailure w.failures w'.failures e)

abbrev pub is_listed : Core → ℕ → Bool
is_listed w q = nat_lt 0 (times (λ (h : HandleNumber). h.0 == q) w.list)

-- the pager with nothing stored, cached or listed, and with the storage closed
abbrev pub shut : Core → ℕ → Core
shut w failures = record w {
  stored = λ key. None;
  cache = λ kind key. None;
  list = [];
  closed = true;
  failures = failures;
}

-- the storage is closed, and all list entries are released; the storage may have failed meanwhile
pub record CloseCall (w : Core) (r : Result (Unit {0}) Error) (w' : Core) : Type 0 where
  pub told : r ≡ Ok tt
  pub fails : w.failures ≤ w'.failures
  pub falls : FallsAnyhow w (shut w w'.failures) (is_listed w) w'
