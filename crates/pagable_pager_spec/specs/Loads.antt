-- A load's steps: each fetches a blob, takes a cell without reading it, or makes a node; the last one pins, returns a
-- value, or fails. The innermost of the load's blobs decides what the next step is.
use Rattle.pagable_pager_spec.specs.{
  Basics.{ArcRef, Blob, Error, FetchTarget, HandleNumber, HandleRow, Kind, LoadAnswer, Meaning, Owner, Types, is_eager},
  Basics.{longest_path, type_of},
  LoadCalls.{AdoptCall, EndCall, HandOverCall, LazyCall, LoadCloses, LoadFetchCall, from_cache, from_store},
  World.{Alike, Core, Frame, OpenLoad, Reading, Root, Values, of_cell, of_key, one_more, row_at},
}
use Rattle.pagable_value_spec.specs.{Cursor.{Answer, handles_at}, Reading.{Rest, read_typed}}
use Rattle.std.specs.{
  Prelude.{Err, List, None, Ok, Option, Result, Some, if◌then◌else◌, length, map, slice_get, ℕ, [], ◌++◌, ◌+◌, ◌<◌},
  Prelude.{◌==◌, ◌∷◌, ◌≡◌, ◌≤◌, ◌⊎◌},
}

-- The look-up of a reference while a blob is read: a reference that the load has got is returned, if it has the right
-- kind. For one that it hasn't got yet the look-up fails with Storage(kind), an error that no reader may add of its
-- own: so it tells the load which kind to fetch next.
abbrev pub answer_of : Option ArcRef → ℕ → Result ArcRef Error
answer_of None kind = Err (Error.Storage kind)
answer_of (Some r) kind = if r.kind.0 == kind then Ok r else Err Error.WrongKind

-- the look-ups for a blob's keys, from this place on
unfoldable pub answers_from : List ArcRef → ℕ → List ℕ → List Answer
answers_from got place [] = []
answers_from got place (key ∷ keys) = (λ kind. answer_of (slice_get got place) kind) ∷ answers_from got (place + 1) keys

-- what the blob reads as, as a value of the type t, if the load has got these references
abbrev pub read_with : Types → ℕ → Blob → List ArcRef → Result (Meaning ArcRef × Rest Answer) Error
read_with types t blob got = read_typed (handles_at 0 types.parts) (types.nodes t)
    (record { bytes = blob.bytes; refs = answers_from got 0 blob.keys })

pub data Next : Type 0 where
  -- the blob can be read to its end, and means this
  reads : Meaning ArcRef → Next
  -- reading needs a reference of this kind, whose key is this
  asks : Kind → ℕ → Next
  -- reading the blob fails
  is_faulty : Error → Next

-- what follows if reading needs a reference: it is asked for, or no key is left
abbrev pub asks_for : ℕ → Option ℕ → Next
asks_for kind None = is_faulty Error.NoMoreKeys
asks_for kind (Some key) = asks (record { 0 = kind }) key

abbrev pub next_by : Option ℕ → Result (Meaning ArcRef × Rest Answer) Error → Next
next_by key (Ok (own, rest)) = reads own
next_by key (Err (Error.Storage kind)) = asks_for kind key
next_by key (Err e) = is_faulty e

abbrev pub next_of : Types → ℕ → Blob → List ArcRef → Next
next_of types t blob got = next_by (slice_get blob.keys (length got)) (read_with types t blob got)

-- what the load's innermost blob needs next
abbrev pub next_in : Types → Frame → Next
next_in types frame = next_of types frame.node_type frame.blob frame.got

-- x is what the blob reads as: of the blob's type, and with that meaning
pub record IsDecoded {N : Type 0} (v : Values N) (frame : Frame) (x : N) : Type 0 where
  pub own : Meaning ArcRef
  pub read : next_in v.types frame ≡ reads own
  pub typed : v.node_type x ≡ frame.node_type
  pub means : v.means x own

pub data Need : Type 0 where
  -- the blob of the load's own key
  needs_root : Need
  -- a reference of this kind and key: one that is loaded with the value, or a loose one, which isn't
  needs_nested needs_lazy : Kind → ℕ → Need
  -- a node for the value of the innermost blob
  to_adopt : Need
  -- nothing more: the root's value can be read
  to_end : Need
  -- nothing: reading the innermost blob fails
  is_broken : Error → Need

abbrev pub need_at : List Frame → Next → Need
need_at below (asks kind key) = if is_eager kind.0 then needs_nested kind key else needs_lazy kind key
need_at [] (reads own) = to_end
need_at (frame ∷ frames) (reads own) = to_adopt
need_at below (is_faulty e) = is_broken e

abbrev pub need_of : Types → List Frame → Need
need_of types [] = needs_root
need_of types (top ∷ below) = need_at below (next_in types top)

-- the frame of the root's blob; no node is made of it, so its kind has no meaning
abbrev pub root_frame : ℕ → ℕ → Blob → Frame
root_frame key t blob = record { kind = record { 0 = 3 }; key = key; node_type = t; blob = blob; got = [] }

abbrev pub nested_frame : Kind → ℕ → Blob → Frame
nested_frame kind key blob = record { kind = kind; key = key; node_type = type_of kind.0; blob = blob; got = [] }

-- the innermost frame has got one more reference: the handle of this row
abbrev pub with_got : Kind → HandleRow → List Frame → List Frame
with_got kind row [] = []
with_got kind row (frame ∷ frames) = record frame {
  got = frame.got
      ++ record { kind = kind; node = row.node; handle = row.number } ∷ [];
} ∷ frames

-- the load has fetched its root's blob
pub record GetsRoot (w : Core) (me : Owner) (reading : Reading) (frames : List Frame) (w' : Core) : Type 0 where
  pub load : OpenLoad
  pub blob : Blob
  pub first : reading.frames ≡ []
  pub open_load : w.loads reading.load.0 ≡ Some load
  pub asked : LoadFetchCall w me reading.load FetchTarget.Root (Ok (from_store blob)) w'
  pub goes : frames ≡ root_frame load.key reading.node_type blob ∷ []

-- the load needed a reference, and has got its handle by this call
pub record GetsHandle (types : Types) (reading : Reading) (needed : Kind → ℕ → Need)
    (call : Kind → ℕ → HandleNumber → Type 0) (frames : List Frame) (w' : Core) : Type 0 where
  pub kind : Kind
  pub key : ℕ
  pub k : HandleNumber
  pub row : HandleRow
  pub needs : need_of types reading.frames ≡ needed kind key
  pub asked : call kind key k
  pub made : row_at w' k ≡ Some row
  pub goes : frames ≡ with_got kind row reading.frames

-- the load has got a handle of a node that the cache has
abbrev pub GetsCached : Types → Core → Owner → Reading → List Frame → Core → Type 0
GetsCached types w me reading frames w' = GetsHandle types reading needs_nested
    (λ kind key k. LoadFetchCall w me reading.load (FetchTarget.Nested kind key) (Ok (from_cache k)) w') frames w'

-- the load has got a handle of a cell without reading it
abbrev pub GetsLazy : Types → Core → Owner → Reading → List Frame → Core → Type 0
GetsLazy types w me reading frames w' = GetsHandle types reading needs_lazy
    (λ kind key k. LazyCall w me reading.load kind key (Ok k) w') frames w'

-- the load has fetched the blob of a reference, and the path isn't too long
pub record GetsBlob (types : Types) (w : Core) (me : Owner) (reading : Reading) (frames : List Frame)
    (w' : Core) : Type 0 where
  pub kind : Kind
  pub key : ℕ
  pub blob : Blob
  pub needs : need_of types reading.frames ≡ needs_nested kind key
  pub short : length reading.frames ≤ longest_path
  pub asked : LoadFetchCall w me reading.load (FetchTarget.Nested kind key) (Ok (from_store blob)) w'
  pub goes : frames ≡ nested_frame kind key blob ∷ reading.frames

-- the innermost blob reads as x, and it isn't the root's
pub record ReadsNode {N : Type 0} (v : Values N) (reading : Reading) (x : N) : Type 0 where
  pub top : Frame
  pub below : List Frame
  pub frames : reading.frames ≡ top ∷ below
  pub needs : need_of v.types reading.frames ≡ to_adopt
  pub decoded : IsDecoded v top x

-- the value of the innermost blob has become a node
pub record MakesNode {N : Type 0} (v : Values N) (w : Core) (me : Owner) (reading : Reading) (frames : List Frame)
    (w' : Core) : Type 0 where
  pub x : N
  pub reads_node : ReadsNode v reading x
  pub k : HandleNumber
  pub row : HandleRow
  pub adopted : AdoptCall w me reading.load reads_node.top.kind reads_node.top.key x (v.node_type x) (v.references x)
      (Ok k) w'
  pub made : row_at w' k ≡ Some row
  pub goes : frames ≡ with_got reads_node.top.kind row reads_node.below

abbrev pub GoesOn : {N : Type 0} → Values N → Core → Owner → Reading → List Frame → Core → Type 0
GoesOn v w me reading frames w' =
    GetsRoot w me reading frames w' ⊎ GetsCached v.types w me reading frames w'
    ⊎ GetsBlob v.types w me reading frames w' ⊎ GetsLazy v.types w me reading frames w'
    ⊎ MakesNode v w me reading frames w'

-- the root's blob reads as x
pub record ReadsRoot {N : Type 0} (v : Values N) (reading : Reading) (x : N) : Type 0 where
  pub root : Frame
  pub frames : reading.frames ≡ root ∷ []
  pub decoded : IsDecoded v root x

abbrev pub IsOfCell : Root → Type 0
IsOfCell (of_cell node t h) = Unit {0}
IsOfCell of_key = ⊥

abbrev pub IsOfKey : Root → Type 0
IsOfKey (of_cell node t h) = ⊥
IsOfKey of_key = Unit {0}

-- the load is open, and P holds of its root
pub record LoadIs (w : Core) (reading : Reading) (P : Root → Type 0) : Type 0 where
  pub load : OpenLoad
  pub open_load : w.loads reading.load.0 ≡ Some load
  pub sort : P load.root

-- a load of a cell ends and pins the cell
pub record EndsPinned {N : Type 0} (v : Values N) (w : Core) (me : Owner) (reading : Reading) (k : HandleNumber)
    (w' : Core) : Type 0 where
  pub x : N
  pub reads_root : ReadsRoot v reading x
  pub of_cell_load : LoadIs w reading IsOfCell
  pub ended : EndCall w me reading.load x (v.node_type x) (v.references x) (Ok k) w'

abbrev pub handles_of : List ArcRef → List HandleNumber
handles_of references = map (λ (r : ArcRef). r.handle) references

-- a load of a key ends and hands the references of the value to the caller
pub record EndsRead {N : Type 0} (v : Values N) (w : Core) (me : Owner) (reading : Reading) (x : N)
    (w' : Core) : Type 0 where
  pub reads_root : ReadsRoot v reading x
  pub of_key_load : LoadIs w reading IsOfKey
  pub handed : HandOverCall w me reading.load (handles_of (v.references x)) (Ok tt) w'

-- the innermost blob can't be read: it has a fault, the type's reader fails with a cause of its own, or memory runs out
abbrev pub RefusesBlob : {N : Type 0} → Values N → Reading → Error → Type 0
RefusesBlob v reading e = (need_of v.types reading.frames ≡ is_broken e)
    ⊎ ((top : Frame) × (below : List Frame) × (reading.frames ≡ top ∷ below) × v.read_causes top.node_type e)
    ⊎ (e ≡ Error.OutOfMemory)

-- a fetch fails; or the path is too long, which is checked after the blob was fetched
abbrev pub RefusesNested : Types → Core → Owner → Reading → Error → Core → Type 0
RefusesNested types w me reading e w' = (kind : Kind)
    × (key : ℕ)
    × (need_of types reading.frames ≡ needs_nested kind key)
    × (LoadFetchCall w me reading.load (FetchTarget.Nested kind key) (Err e) w'
    ⊎ ((blob : Blob) × (e ≡ Error.TooDeep) × (longest_path < length reading.frames)
    × LoadFetchCall w me reading.load (FetchTarget.Nested kind key) (Ok (from_store blob)) w'))

pub record RefusesNode {N : Type 0} (v : Values N) (w : Core) (me : Owner) (reading : Reading) (e : Error)
    (w' : Core) : Type 0 where
  pub x : N
  pub reads_node : ReadsNode v reading x
  pub adopted : AdoptCall w me reading.load reads_node.top.kind reads_node.top.key x (v.node_type x) (v.references x)
      (Err (e, x)) w'

-- the call that ends the load fails and leaves it open
pub record RefusesRoot {N : Type 0} (v : Values N) (w : Core) (me : Owner) (reading : Reading) (e : Error)
    (w' : Core) : Type 0 where
  pub x : N
  pub reads_root : ReadsRoot v reading x
  pub refuses :
      (LoadIs w reading IsOfCell × EndCall w me reading.load x (v.node_type x) (v.references x) (Err (e, Some x)) w')
      ⊎ (LoadIs w reading IsOfKey × HandOverCall w me reading.load (handles_of (v.references x)) (Err e) w')

-- a step fails with this error, and the load is still open
abbrev pub Meets : {N : Type 0} → Values N → Core → Owner → Reading → Error → Core → Type 0
Meets v w me reading e w' = (RefusesBlob v reading e × Alike w w')
    ⊎ ((reading.frames ≡ []) × LoadFetchCall w me reading.load FetchTarget.Root (Err e) w')
    ⊎ RefusesNested v.types w me reading e w'
    ⊎ ((kind : Kind) × (key : ℕ) × (need_of v.types reading.frames ≡ needs_lazy kind key)
    × LazyCall w me reading.load kind key (Err e) w')
    ⊎ RefusesNode v w me reading e w'
    ⊎ RefusesRoot v w me reading e w'

-- A step failed: the load is closed, and what it owns is released.
pub record ClosesAfterFailure {N : Type 0} (v : Values N) (w : Core) (me : Owner) (reading : Reading) (e : Error)
    (w' : Core) : Type 0 where
  pub mid : Core
  pub meets : Meets v w me reading e mid
  pub told : Result (Unit {0}) Error
  pub closes : LoadCloses mid reading.load told w'

-- the call that ends the load found the caller's handle gone or another's, and closed the load
pub record EndsClosed {N : Type 0} (v : Values N) (w : Core) (me : Owner) (reading : Reading) (e : Error)
    (w' : Core) : Type 0 where
  pub x : N
  pub reads_root : ReadsRoot v reading x
  pub ended : EndCall w me reading.load x (v.node_type x) (v.references x) (Err (e, None)) w'

abbrev pub Fails : {N : Type 0} → Values N → Core → Owner → Reading → Error → Core → Type 0
Fails v w me reading e w' = ClosesAfterFailure v w me reading e w' ⊎ EndsClosed v w me reading e w'

abbrev pub LoadDoes : {N : Type 0} → Values N → Core → Owner → Reading → Option (LoadAnswer N) → List Frame → Core
    → Type 0
LoadDoes v w me reading None frames w' = GoesOn v w me reading frames w'
LoadDoes v w me reading (Some (LoadAnswer.Pinned k)) frames w' = EndsPinned v w me reading k w' × (frames ≡ [])
LoadDoes v w me reading (Some (LoadAnswer.Read x)) frames w' = EndsRead v w me reading x w' × (frames ≡ [])
LoadDoes v w me reading (Some (LoadAnswer.Refused e)) frames w' = Fails v w me reading e w' × (frames ≡ [])

-- What a load's step returns, which frames the load has afterwards, and what the step does to the pager. It changes
-- nothing else.
pub record ReadingDoes {N : Type 0} (v : Values N) (w : Core) (me : Owner) (reading : Reading)
    (answer : Option (LoadAnswer N)) (frames : List Frame) (w' : Core) : Type 0 where
  pub does : LoadDoes v w me reading answer frames w'

-- the reading after one more step
abbrev pub gone_on : Reading → List Frame → Reading
gone_on reading frames = record reading { frames = frames; steps = one_more reading.steps }
