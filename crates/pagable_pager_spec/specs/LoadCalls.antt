-- The calls on loads: a load reads one value from the store. They begin it, fetch and make nodes for it, and end it.
use Rattle.pagable_pager_spec.specs.{
  Basics.{ArcRef, Beginning, Blob, Error, FetchTarget, HandleNumber, HandleRow, Kind, LoadNumber, Mode, NodeNumber},
  Basics.{OptionalDataKey, Owner, if_there, is_in, is_loose_kind, is_pinned_kind, type_of, updated},
  Calls.{FetchCall, IsNext, IsRefused, insert_fault, is_handle_here, is_named_by, is_usable, moved, next_node},
  Calls.{with_cached_if_open, with_handle, with_known, with_mode, with_node},
  Cascade.{Falls, FallsAnyhow},
  Kinds.{any_mode, find_row, is_loose, is_owned_by, mode_of, owner_value},
  Refusals.{AreHandlesFull, Owns, OwnsLoad, Refused, closed_fault, earlier, handle_fault, load_fault, named_fault},
  Refusals.{references_fault, refused_if, spent, where_so},
  World.{Alike, Core, OpenLoad, Root, greatest, is_here, key_at, of_cell, of_key, type_at, usable},
}
use Rattle.std.specs.{
  Prelude.{Bool, Err, IfErr, IfOk, List, None, Ok, Option, Result, Some, false, if◌then◌else◌, map, not, true, ℕ, []},
  Prelude.{◌&&◌, ◌+◌, ◌<◌, ◌==◌, ◌≡◌, ◌⊎◌},
}

-- one more load, under the next number
abbrev pub with_load : Core → ℕ → Root → Owner → Core
with_load w key root me = record w {
  loads = updated (w.last.load + 1)
      (Some (record { owner = me; key = key; root = root })) w.loads;
  last = record w.last { load = w.last.load + 1 };
}

-- the returned load has the next number, and a number was left
pub record IsNextLoad (l : LoadNumber) (w : Core) : Type 0 where
  pub above : l.0 ≡ w.last.load + 1
  pub is_left : w.last.load < greatest

-- A load of a loose handle's cell begins and owns an unpinned clone of the handle; or the value is in memory, and
-- nothing changes.
abbrev pub Begins : Core → Owner → HandleNumber → HandleRow → Beginning → Core → Type 0
Begins w me h row Beginning.InMemory w' = (is_here w row.node.0 ≡ true) × Alike w w'
Begins w me h row (Beginning.Load l key) w' = (is_here w row.node.0 ≡ false)
    × (key_at w row.node.0 ≡ OptionalDataKey.Some key)
    × IsNextLoad l w
    × (w.last.handle < greatest)
    × ((t : ℕ) × (type_at w row.node.0 ≡ Some t) × Alike
    (with_load (with_handle w row.node Mode.LooseUnpinned (Owner.Load l)) key (of_cell row.node t h) me) w')

abbrev pub begin_fault : Core → Owner → HandleNumber → Option Error
begin_fault w me h = earlier (handle_fault w me h is_loose)
    (where_so (not (is_handle_here w h)) (earlier (spent w.last.load) (spent w.last.handle)))

pub record BeginCall (w : Core) (me : Owner) (h : HandleNumber) (r : Result Beginning Error) (w' : Core) : Type 0 where
  pub begins : IfOk r (λ b. (row : HandleRow) × Owns w me h is_loose row × Begins w me h row b w')
  pub refused : IfErr r (λ e. Refused (begin_fault w me h) (begin_fault w me h) (is_handle_here w h ≡ false) w e w')

abbrev pub BeginsKey : Core → Owner → ℕ → Beginning → Core → Type 0
BeginsKey w me key Beginning.InMemory w' = ⊥
BeginsKey w me key (Beginning.Load l k) w' = (k ≡ key) × IsNextLoad l w × Alike (with_load w key of_key me) w'

pub record BeginKeyCall (w : Core) (me : Owner) (key : ℕ) (r : Result Beginning Error) (w' : Core) : Type 0 where
  pub begins : IfOk r (λ b. BeginsKey w me key b w')
  pub refused : IfErr r (λ e. Refused (spent w.last.load) (spent w.last.load) (Unit {0}) w e w')

-- what a load's fetch returns: a handle of a node that the cache has, or a blob
pub data Given : Type 0 where
  from_cache : HandleNumber → Given
  from_store : Blob → Given

-- the load gets a new handle of the node that the cache has for the kind and key
pub record GetsKnown (w : Core) (l : LoadNumber) (kind : Kind) (key : ℕ) (k : HandleNumber) (w' : Core) : Type 0 where
  pub n : ℕ
  pub known : usable w kind.0 key ≡ Some n
  pub next : IsNext k w
  pub leaves : Alike (with_known w kind n (Owner.Load l)) w'

abbrev pub Asks : Core → LoadNumber → OpenLoad → FetchTarget → Given → Core → Type 0
Asks w l load FetchTarget.Root (from_store blob) w' = FetchCall w load.key (Ok blob) w'
Asks w l load FetchTarget.Root (from_cache k) w' = ⊥
Asks w l load (FetchTarget.Nested kind key) (from_cache k) w' = GetsKnown w l kind key k w'
Asks w l load (FetchTarget.Nested kind key) (from_store blob) w' =
    (usable w kind.0 key ≡ None) × FetchCall w key (Ok blob) w'

-- the storage, which was asked, returns an error
abbrev pub AsksInVain : Core → OpenLoad → FetchTarget → Error → Core → Type 0
AsksInVain w load FetchTarget.Root e w' = FetchCall w load.key (Err e) w'
AsksInVain w load (FetchTarget.Nested kind key) e w' = (usable w kind.0 key ≡ None) × FetchCall w key (Err e) w'

-- whether the cache has the node, so that a handle is to be made
abbrev pub is_known : Core → FetchTarget → Bool
is_known w FetchTarget.Root = false
is_known w (FetchTarget.Nested kind key) = is_usable w kind key

abbrev pub ask_fault : Core → Owner → LoadNumber → FetchTarget → Option Error
ask_fault w me l want = earlier (load_fault w me l) (where_so (is_known w want) (spent w.last.handle))

-- A load fetches the blob of its own key; or, for a reference, a handle of the node that the cache has, or else the
-- blob.
pub record LoadFetchCall (w : Core) (me : Owner) (l : LoadNumber) (want : FetchTarget) (r : Result Given Error)
    (w' : Core) : Type 0 where
  pub gives : IfOk r (λ given. (load : OpenLoad) × OwnsLoad w me l load × Asks w l load want given w')
  pub refused : IfErr r (λ e. Refused (ask_fault w me l want) (ask_fault w me l want)
      ((is_known w want ≡ true) × AreHandlesFull w) w e w'
      ⊎ ((load : OpenLoad) × OwnsLoad w me l load × AsksInVain w load want e w'))

-- the key that a new node has: a cell has the key that it was read from, a shared node none
abbrev pub first_key : ℕ → ℕ → OptionalDataKey
first_key kind key = if is_pinned_kind kind then OptionalDataKey.Some key else OptionalDataKey.None

-- a new node with a handle that the load owns; the cache has the node, if the storage is open
abbrev pub adopted : Core → LoadNumber → Kind → ℕ → OptionalDataKey → List ArcRef → Core
adopted w l kind key own_key references = with_cached_if_open
    (with_handle (with_node w (type_of kind.0) own_key references) (next_node w) (mode_of kind.0) (Owner.Load l)) kind
    key (next_node w)

-- why no handle can be made: no number left for it, or, for a new node, for the node
abbrev pub node_fault : Core → Kind → ℕ → Option Error
node_fault w kind key = if is_usable w kind key then spent w.last.handle else insert_fault w

abbrev pub adopt_fault : Core → Owner → LoadNumber → Kind → ℕ → ℕ → List ArcRef → Option Error
adopt_fault w me l kind key node_type references =
    earlier (load_fault w me l) (earlier (refused_if (is_loose_kind kind.0) Error.WrongMode)
    (earlier (refused_if (not (node_type == type_of kind.0)) Error.WrongKind)
    (earlier (references_fault w (Owner.Load l) [] references) (node_fault w kind key))))

-- A value that was read becomes a node. If the cache has a node for the kind and key, the value is dropped, and the
-- load gets a handle of that node.
pub record Adopts (w : Core) (me : Owner) (l : LoadNumber) (kind : Kind) (key node_type : ℕ) (references : List ArcRef)
    (k : HandleNumber) (w' : Core) : Type 0 where
  pub load : OpenLoad
  pub owned : OwnsLoad w me l load
  pub eager : is_loose_kind kind.0 ≡ false
  pub typed : node_type ≡ type_of kind.0
  pub good : references_fault w (Owner.Load l) [] references ≡ None
  pub next : IsNext k w
  pub makes :
      ((n : ℕ) × (usable w kind.0 key ≡ Some n) × FallsAnyhow w (with_known w kind n (Owner.Load l))
      (is_named_by references) w')
      ⊎ ((usable w kind.0 key ≡ None) × (w.last.node < greatest)
      × Alike (adopted w l kind key (first_key kind.0 key) references) w')

-- On an error the caller has x back. The call may run out of memory as soon as the load was found, whoever owns it.
pub record AdoptCall {N : Type 0} (w : Core) (me : Owner) (l : LoadNumber) (kind : Kind) (key : ℕ) (x : N)
    (node_type : ℕ) (references : List ArcRef) (r : Result HandleNumber (Error × N)) (w' : Core) : Type 0 where
  pub adopts : IfOk r (λ k. Adopts w me l kind key node_type references k w')
  pub refused : IfErr r (λ e. (e.1 ≡ x) × Refused (adopt_fault w me l kind key node_type references) (closed_fault w l)
      (Unit {0}) w e.0 w')

abbrev pub lazy_fault : Core → Owner → LoadNumber → Kind → ℕ → Option Error
lazy_fault w me l kind key = earlier (load_fault w me l)
    (earlier (refused_if (not (is_loose_kind kind.0)) Error.WrongKind) (node_fault w kind key))

-- A load takes a reference through a loose handle without reading it: a handle of the cell that the cache has, or of a
-- new cell with this key and no value.
pub record LazyCall (w : Core) (me : Owner) (l : LoadNumber) (kind : Kind) (key : ℕ) (r : Result HandleNumber Error)
    (w' : Core) : Type 0 where
  pub makes : IfOk r (λ k. (load : OpenLoad) × OwnsLoad w me l load × (is_loose_kind kind.0 ≡ true)
      × (GetsKnown w l kind key k w' ⊎ ((usable w kind.0 key ≡ None) × (w.last.node < greatest) × IsNext k w
      × Alike (adopted w l kind key (OptionalDataKey.Some key) []) w')))
  pub refused : IfErr r (λ e. Refused (lazy_fault w me l kind key) (lazy_fault w me l kind key)
      ((usable w kind.0 key ≡ None) ⊎ AreHandlesFull w) w e w')

abbrev pub is_owned_in : Core → Owner → ℕ → Bool
is_owned_in w owner q = if_there (is_owned_by owner) false (find_row q w.rows)

abbrev pub without_load : Core → LoadNumber → Core
without_load w l = record w { loads = updated l.0 None w.loads }

-- the load is closed, and what it still owns is released
abbrev pub LoadCloses : Core → LoadNumber → Result (Unit {0}) Error → Core → Type 0
LoadCloses w l r w' = Falls w (without_load w l) (is_owned_in w (Owner.Load l)) r w'

-- what the end of a load checks of load and value, before the caller's handle
pub record MayEnd (w : Core) (me : Owner) (l : LoadNumber) (node : NodeNumber) (h : HandleNumber) (node_type : ℕ)
    (references : List ArcRef) : Type 0 where
  pub load : OpenLoad
  pub owned : OwnsLoad w me l load
  pub of_node : load.root ≡ of_cell node node_type h
  pub good : references_fault w (Owner.Load l) [] references ≡ None

-- the caller's handle is pinned, and a new Pinned handle is made
abbrev pub with_pin : Core → HandleNumber → NodeNumber → Owner → Core
with_pin w h node me = with_handle (with_mode w h Mode.LoosePinned) node Mode.Pinned me

-- The loose handle is pinned, a new Pinned handle is made, and the load is closed. If the cell has no value, it gets
-- the value, which then owns its references; otherwise the value is dropped. Either way what the load still owns is
-- released.
pub record Installs (w : Core) (me : Owner) (l : LoadNumber) (node : NodeNumber) (h k : HandleNumber)
    (references : List ArcRef) (w' : Core) : Type 0 where
  pub row : HandleRow
  pub owned : Owns w me h is_loose row
  pub at : row.node ≡ node
  pub next : IsNext k w
  pub falls :
      ((is_here w node.0 ≡ false)
      × FallsAnyhow w (with_pin (record (without_load w l)
      { rows = moved (is_named_by references) (owner_value node.0) w.rows }) h node me)
      (λ q. is_owned_in w (Owner.Load l) q && not (is_named_by references q)) w')
      ⊎ ((is_here w node.0 ≡ true) × FallsAnyhow w (with_pin (without_load w l) h node me)
      (is_owned_in w (Owner.Load l)) w')

-- why the root can't be ended: the load is of a key; the value isn't of the cell's type; or no number is left for the
-- pin (asked only if the caller still owns the handle)
abbrev pub root_fault : Core → Owner → ℕ → Root → Option Error
root_fault w me node_type (of_cell node t h) = earlier (refused_if (not (node_type == t)) Error.WrongKind)
    (where_so (is_owned_in w me h.0) (spent w.last.handle))
root_fault w me node_type of_key = Some Error.WrongMode

abbrev pub end_fault : Core → Owner → LoadNumber → ℕ → List ArcRef → Option Error
end_fault w me l node_type references = earlier (load_fault w me l)
    (earlier (if_there (λ (load : OpenLoad). root_fault w me node_type load.root) None (w.loads l.0))
    (references_fault w (Owner.Load l) [] references))

-- the caller's handle is gone or has another owner: the call fails, closes the load and drops the value
pub record EndsInVain (w : Core) (me : Owner) (l : LoadNumber) (node_type : ℕ) (references : List ArcRef) (e : Error)
    (w' : Core) : Type 0 where
  pub node : NodeNumber
  pub h : HandleNumber
  pub may : MayEnd w me l node h node_type references
  pub why : handle_fault w me h any_mode ≡ Some e
  pub told : Result (Unit {0}) Error
  pub closes : LoadCloses w l told w'

abbrev pub EndRefused : {N : Type 0} → Core → Owner → LoadNumber → N → ℕ → List ArcRef → Error → Option N → Core
    → Type 0
EndRefused w me l x node_type references e (Some y) w' =
    (y ≡ x) × Refused (end_fault w me l node_type references) (closed_fault w l) (Unit {0}) w e w'
EndRefused w me l x node_type references e None w' = EndsInVain w me l node_type references e w'

-- A load of a cell ends with a pin; or the call fails, and the load stays open exactly if the caller has x back.
pub record EndCall {N : Type 0} (w : Core) (me : Owner) (l : LoadNumber) (x : N) (node_type : ℕ)
    (references : List ArcRef) (r : Result HandleNumber (Error × Option N)) (w' : Core) : Type 0 where
  pub installs : IfOk r (λ k. (node : NodeNumber) × (h : HandleNumber) × MayEnd w me l node h node_type references
      × Installs w me l node h k references w')
  pub refused : IfErr r (λ e. EndRefused w me l x node_type references e.0 e.1 w')

abbrev pub numbers_of : List HandleNumber → List ℕ
numbers_of hs = map (λ (h : HandleNumber). h.0) hs

abbrev pub cell_fault : Root → Option Error
cell_fault (of_cell node t h) = Some Error.WrongMode
cell_fault of_key = None

abbrev pub hand_over_fault : Core → Owner → LoadNumber → List HandleNumber → Option Error
hand_over_fault w me l hs = earlier (load_fault w me l)
    (earlier (if_there (λ (load : OpenLoad). cell_fault load.root) None (w.loads l.0))
    (named_fault w (Owner.Load l) [] hs))

-- a load of a key hands the named handles to the caller, releases the rest and is closed
pub record HandOverCall (w : Core) (me : Owner) (l : LoadNumber) (hs : List HandleNumber) (r : Result (Unit {0}) Error)
    (w' : Core) : Type 0 where
  pub hands : IfOk r (λ u. (hand_over_fault w me l hs ≡ None)
      × FallsAnyhow w (record (without_load w l) { rows = moved (is_in (numbers_of hs)) me w.rows })
      (λ q. is_owned_in w (Owner.Load l) q && not (is_in (numbers_of hs) q)) w')
  pub refused : IfErr r (λ e. (hand_over_fault w me l hs ≡ Some e) × Alike w w')

pub record DropCall (w : Core) (me : Owner) (l : LoadNumber) (r : Result (Unit {0}) Error) (w' : Core) : Type 0 where
  pub does : IsRefused (load_fault w me l) w r w' ⊎ ((load : OpenLoad) × OwnsLoad w me l load × LoadCloses w l r w')
