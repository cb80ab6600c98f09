-- What decoding returns and what a load needs next, in terms of the specification; and what a blob asks for ahead.
use Rattle.pagable_load.specs.{
  Frames.reading_of,
  declared.{batch.Lookahead.Lookahead, decoding.Decoded.Decoded},
  declared.reading.{LoadOutcome.LoadOutcome, Need.Need, Reading.Reading as Own},
}
use Rattle.pagable_pager_spec.specs.{
  Basics.Types,
  Loads.{ReadsNode, ReadsRoot, RefusesBlob, asks, is_faulty, need_of, needs_lazy, needs_nested, next_of, read_with},
  Loads.reads,
  World.{Frame, Reading, Values},
}
use Rattle.pagable_value_spec.specs.{
  Blob.Blob,
  Cursor.{Answer, GivesSome},
  Height.is_eager,
  Meaning.Meaning,
  Reading.Rest,
  declared.{error.Error.Error, numbers.{ArcRef.ArcRef, Kind.Kind}},
}
use Rattle.std.specs.{
  Prelude.{Bool, IsSome, List, None, Option, Result, Some, false, if◌then◌else◌, length, map, slice_get, true},
  Prelude.{ℕ, [], ◌++◌, ◌<◌, ◌∷◌, ◌≡◌, ◌⊎◌},
  declared.{alloc.Global.Global, vec.Vec.Vec},
}

-- x is of the type t, and means what the blob reads as
pub record IsReadAs {N : Type 0} (v : Values N) (t : ℕ) (blob : Blob) (got : List ArcRef) (x : N) : Type 0 where
  pub own : Meaning ArcRef
  pub read : next_of v.types t blob got ≡ reads own
  pub typed : v.node_type x ≡ t
  pub means : v.means x own

-- Decoding returns the value, what the blob asks for next, the blob's fault, or a cause of the type's own.
abbrev pub Answers : {N : Type 0} → Values N → ℕ → Blob → List ArcRef → Decoded N → Type 0
Answers v t blob got (Decoded.Read x) = IsReadAs v t blob got x
Answers v t blob got (Decoded.Wants kind key) = next_of v.types t blob got ≡ asks kind key
Answers v t blob got (Decoded.Refused e) = (next_of v.types t blob got ≡ is_faulty e) ⊎ v.read_causes t e

-- P holds of the value, if one was read
abbrev pub IfRead : {N : Type 0} → Decoded N → (N → Type 0) → Type 0
IfRead (Decoded.Read x) P = P x
IfRead d P = Unit {0}

pub record Decodes {N : Type 0} (v : Values N) (t : ℕ) (blob : Blob) (got : List ArcRef) (d : Decoded N) : Type 0 where
  pub answers : Answers v t blob got d

-- the result is what the blob reads as with these references, or a cause of the type's own
pub record ReadsWith {N : Type 0} (v : Values N) (t : ℕ) (blob : Blob) (got : List ArcRef)
    (result : Result N Error) : Type 0 where
  pub after : Rest Answer
  pub gives : GivesSome (v.read_causes t) v.means after result (read_with v.types t blob got)

abbrev pub NeedIs : {N : Type 0} → Values N → Reading → Need N → Type 0
NeedIs v reading Need.Root = reading.frames ≡ []
NeedIs v reading (Need.Nested kind key) = need_of v.types reading.frames ≡ needs_nested kind key
NeedIs v reading (Need.Lazy kind key) = need_of v.types reading.frames ≡ needs_lazy kind key
NeedIs v reading (Need.Adopt x) = ReadsNode v reading x
NeedIs v reading (Need.End x) = ReadsRoot v reading x
NeedIs v reading (Need.Refuse e) = RefusesBlob v reading e

abbrev pub FramesFor : {N : Type 0} → Own → Need N → Type 0
FramesFor own (Need.Nested kind key) = IsSome own.top
FramesFor own (Need.Lazy kind key) = IsSome own.top
FramesFor own (Need.Adopt x) = IsSome own.top × (0 < length own.below.items)
FramesFor own need = Unit {0}

-- the need is what the load needs, and the frames for it exist
pub record Needs {N : Type 0} (v : Values N) (own : Own) (need : Need N) : Type 0 where
  pub is : NeedIs v (reading_of own) need
  pub there : FramesFor own need

-- P holds of the value that becomes a node or ends the load
abbrev pub IfValue : {N : Type 0} → Need N → (N → Type 0) → Type 0
IfValue (Need.Adopt x) P = P x
IfValue (Need.End x) P = P x
IfValue need P = Unit {0}

-- ---- what a blob asks for ahead: references of these kinds, one after the other

abbrev pub kinds_of : List ArcRef → List ℕ
kinds_of references = map (λ (r : ArcRef). r.kind.0) references

-- with these references got, the blob asks next for one of this kind, whose key is the next one
pub record AsksNext (types : Types) (t : ℕ) (blob : Blob) (got : List ArcRef) (kind : ℕ) : Type 0 where
  pub key : ℕ
  pub there : slice_get blob.keys (length got) ≡ Some key
  pub next : next_of types t blob got ≡ asks (record { 0 = kind }) key

-- The blob asks for references of these kinds, one after the other, whichever references of the kinds it gets. Those
-- that it has got are the first of them.
pub record Foresees (types : Types) (f : Frame) (kinds : List ℕ) : Type 0 where
  pub ahead : List ℕ
  pub split : kinds ≡ kinds_of f.got ++ ahead
  pub each : (got : List ArcRef) (kind : ℕ) (more : List ℕ) → kinds ≡ kinds_of got ++ kind ∷ more
      → AsksNext types f.node_type f.blob got kind

-- the row is empty, or has the kinds that the blob asks for
abbrev pub RowFitsFrame : Types → Frame → List ArcRef → Type 0
RowFitsFrame types f row = (row ≡ []) ⊎ Foresees types f (kinds_of row)

-- the row fits the innermost frame, if there is one
pub record RowFits (types : Types) (frames : List Frame) (row : List ArcRef) : Type 0 where
  pub is : (f : Frame) (fs : List Frame) → frames ≡ f ∷ fs → RowFitsFrame types f row

-- each frame's row fits it, as far as there are rows
abbrev pub EachRowFits : Types → List Frame → List (List ArcRef) → Type 0
EachRowFits types [] rows = Unit {0}
EachRowFits types (f ∷ fs) [] = Unit {0}
EachRowFits types (f ∷ fs) (row ∷ rows) = RowFitsFrame types f row × EachRowFits types fs rows

pub record RowsFit (types : Types) (frames : List Frame) (rows : List (List ArcRef)) : Type 0 where
  pub are : EachRowFits types frames rows

-- the rows of the vectors, the last vector's first, before these rows; below: all rows, the innermost's first
unfoldable pub stacked : List (List ArcRef) → List (Vec ArcRef Global) → List (List ArcRef)
stacked rows [] = rows
stacked rows (x ∷ xs) = stacked (x.items ∷ rows) xs

abbrev pub rows_of : Lookahead → List (List ArcRef)
rows_of a = a.top.items ∷ stacked [] a.below.items

-- the load needs a reference of this kind and key, to be loaded or not
pub record NeedsNext (types : Types) (frames : List Frame) (kind : Kind) (key : ℕ) : Type 0 where
  pub is : need_of types frames ≡ (if is_eager kind.0 then needs_nested kind key else needs_lazy kind key)

-- the row stays, and has this kind at this place; or it is emptied
abbrev pub KeptIfKindAt : ℕ → Kind → List ArcRef → List ArcRef → Type 0
KeptIfKindAt place kind old new = (new ≡ []) ⊎ ((new ≡ old) × ((r : ArcRef) × (slice_get old place ≡ Some r)
    × (kind.0 ≡ r.kind.0)))

-- if the blob was read, its row, the innermost, is removed, or a single empty one is left
abbrev pub InnermostRemovedIf : Bool → List (List ArcRef) → List (List ArcRef) → Type 0
InnermostRemovedIf false old new = new ≡ old
InnermostRemovedIf true old new = ((row : List ArcRef) × (old ≡ row ∷ new)) ⊎ (new ≡ [] ∷ [])

-- ---- what a load's step does to its frames, if it doesn't end the load

-- the innermost frame has got this reference in addition
pub record GotMore (old new : List Frame) (r : ArcRef) : Type 0 where
  pub f : Frame
  pub fs : List Frame
  pub was : old ≡ f ∷ fs
  pub is : new ≡ record f { got = f.got ++ r ∷ [] } ∷ fs

-- there is a new frame, which has got nothing yet
pub record CameNew (old new : List Frame) : Type 0 where
  pub f : Frame
  pub is : new ≡ f ∷ old
  pub none : f.got ≡ []

-- the innermost frame is removed, and the one below it has got a reference
pub record CameBack (old new : List Frame) : Type 0 where
  pub top : Frame
  pub below : List Frame
  pub r : ArcRef
  pub was : old ≡ top ∷ below
  pub more : GotMore below new r

abbrev pub FramesChange : Bool → List Frame → List Frame → Type 0
FramesChange true old new = CameBack old new
FramesChange false old new = CameNew old new ⊎ ((r : ArcRef) × GotMore old new r)

-- the need is for a node of the innermost blob's value
abbrev pub is_adoption : {N : Type 0} → Need N → Bool
is_adoption (Need.Adopt x) = true
is_adoption need = false

-- if the load goes on, the frames have changed as the need says
pub record FramesChangeFor {N : Type 0} (need : Need N) (outcome : Option (LoadOutcome N))
    (old new : List Frame) : Type 0 where
  pub goes : outcome ≡ None → FramesChange (is_adoption need) old new

-- if the rows fit the old frames, the new rows fit the new ones
pub record RowsStayFit (was_read : Bool) (new : List Frame) (rows rows' : List (List ArcRef)) : Type 0 where
  pub follows : (types : Types) (old : List Frame) → FramesChange was_read old new → RowsFit types old rows
      → RowsFit types new rows'
