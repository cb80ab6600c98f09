-- A page-out of nodes without a key: which nodes it opens, what it writes, stores and releases, as calls of the pager,
-- and why it fails.
use Rattle.pagable_changes.specs.declared.{keys.FoundKey.FoundKey, nodes.OpenNode.OpenNode}
use Rattle.pagable_core.specs.declared.context.writing.SerializedData.{SerializedData}
use Rattle.pagable_pager_spec.specs.{
  Access.MakesCall,
  Basics.{Among, ArcRef, Blob, Error, HandleNumber, NodeNumber, OptionalDataKey, if_there, is_loose_kind, longest_path},
  Basics.type_of,
  Calls.{CloneCall, KeyCall, LoosenCall, NodeCall, PinCall, ReleaseCall, SetKeyCall, StoreCall},
  Kinds.{HasNoKinds, loose_kind},
  Pager.{PagerState, ValueCall},
  World.{Core, HasForm, Values, Written, digest, greatest, one_more, row_at, type_at},
  declared.{handle_row.{HandleRow.HandleRow, Owner.Owner}, pinning.Pinning.Pinning},
}
use Rattle.pagable_value_spec.specs.Merkle.{blob_of}
use Rattle.std.specs.{
  Prelude.{Err, List, None, Ok, Option, Result, Some, false, if◌then◌else◌, max, slice_get, true, ℕ, [], ◌+◌},
  Prelude.{◌++◌, ◌<◌, ◌∷◌, ◌≡◌, ◌≢◌, ◌≤◌},
}

abbrev pub written_of : SerializedData → Written
written_of d = record { bytes = d.bytes.items; references = d.arcs.items }

-- what this page-out found for nodes, by node number
abbrev pub FoundKeys : Type 0
FoundKeys = ℕ → Option FoundKey

abbrev pub nothing_found : FoundKeys
nothing_found n = None

-- The key of a reference's target: for a loose reference its cell's key, for another the one that was found before.
pub data HasKey (found : FoundKeys) (w : Core) (r : ArcRef) : ℕ → Type 0 where
  cell-has-key : (key : ℕ) → is_loose_kind r.kind.0 ≡ true → NodeCall w r.handle (Ok r.node)
      → KeyCall w r.handle (Ok (OptionalDataKey.Some key))
      → HasKey found w r key
  key-was-found : (k : FoundKey) → is_loose_kind r.kind.0 ≡ false → found r.node.0 ≡ Some k → HasKey found w r k.key

-- the target has no key yet
pub data HasNoKey (found : FoundKeys) (w : Core) (r : ArcRef) : Type 0 where
  cell-has-none : is_loose_kind r.kind.0 ≡ true → NodeCall w r.handle (Ok r.node)
      → KeyCall w r.handle (Ok OptionalDataKey.None) → HasNoKey found w r
  none-was-found : is_loose_kind r.kind.0 ≡ false → found r.node.0 ≡ None → HasNoKey found w r

-- no live handle has this number, or it is of another node
pub data IsElsewhere (w : Core) (h : HandleNumber) (n : NodeNumber) : Type 0 where
  handle-is-gone : row_at w h ≡ None → IsElsewhere w h n
  handle-is-of-another : (row : HandleRow) → row_at w h ≡ Some row → row.node ≢ n → IsElsewhere w h n

-- a loose reference whose handle isn't one of its node
pub record IsLost (w : Core) (r : ArcRef) : Type 0 where
  pub loose : is_loose_kind r.kind.0 ≡ true
  pub away : IsElsewhere w r.handle r.node

-- A query of a reference's target fails only if the reference is lost.
pub record LooksInVain (w : Core) (r : ArcRef) (e : Error) : Type 0 where
  pub is : e ≡ Error.NoSuchHandle
  pub lost : IsLost w r

abbrev pub IsKeyOfTarget : FoundKeys → Core → ArcRef → Option FoundKey → Type 0
IsKeyOfTarget found w r (Some k) = HasKey found w r k.key
IsKeyOfTarget found w r None = HasNoKey found w r

-- each reference has the key at its index
pub data AllHaveKeys (found : FoundKeys) (w : Core) : List ArcRef → List ℕ → Type 0 where
  none-are-asked : AllHaveKeys found w [] []
  one-more-has : (rs : List ArcRef) (keys : List ℕ) (r : ArcRef) (key : ℕ) → AllHaveKeys found w rs keys
      → HasKey found w r key
      → AllHaveKeys found w (rs ++ r ∷ []) (keys ++ key ∷ [])

-- The length of the longest path of references that are read together, from the holder of this reference through it: 0
-- for a loose one.
abbrev pub height_through : FoundKeys → ArcRef → ℕ
height_through found r =
    if is_loose_kind r.kind.0 then 0 else if_there (λ (k : FoundKey). one_more k.height) 0 (found r.node.0)

-- the length of the longest of these paths
unfoldable pub height_over : FoundKeys → List ArcRef → ℕ
height_over found [] = 0
height_over found (r ∷ rs) = max (height_through found r) (height_over found rs)

-- the reference has a key, which is appended, and the longest path through it has this length
pub record AppendsKey (found : FoundKeys) (w : Core) (r : ArcRef) (keys keys' : List ℕ) (height : ℕ) : Type 0 where
  pub key : ℕ
  pub has : HasKey found w r key
  pub added : keys' ≡ keys ++ key ∷ []
  pub tall : height ≡ height_through found r

-- it isn't: memory runs out, the reference is lost, or its target has no key
pub data KeyFails (found : FoundKeys) (w : Core) (r : ArcRef) : Error → Type 0 where
  no-memory-for-key : KeyFails found w r Error.OutOfMemory
  target-is-lost : (e : Error) → LooksInVain w r e → KeyFails found w r e
  target-has-no-key : HasNoKey found w r → KeyFails found w r Error.TooDeep

-- the keys of these references aren't collected
pub data KeysFail (found : FoundKeys) (w : Core) (rs : List ArcRef) : Error → Type 0 where
  no-memory-for-keys : KeysFail found w rs Error.OutOfMemory
  a-key-fails : (r : ArcRef) (e : Error) → Among rs r → KeyFails found w r e → KeysFail found w rs e

-- the node lies so deep, and the paths below it are so long, that a path is too long
abbrev pub IsTooHigh : FoundKeys → OpenNode → Type 0
IsTooHigh found o = longest_path < o.depth + height_over found (written_of o.written).references

-- the blob of a node whose references all have keys: what was written of it, with these keys
pub record IsBlobOfNode (found : FoundKeys) (w : Core) (o : OpenNode) (blob : Blob) (height : ℕ) : Type 0 where
  pub keys : List ℕ
  pub have : AllHaveKeys found w (written_of o.written).references keys
  pub is : blob ≡ blob_of (written_of o.written).bytes keys
  pub tall : height ≡ height_over found (written_of o.written).references
  pub within : o.depth + height ≤ longest_path

-- The blob of a node can't be made: a path through the node is too long, the keys can't be collected, or memory runs
-- out.
pub data BlobFails (found : FoundKeys) (w : Core) (o : OpenNode) : Error → Type 0 where
  no-memory-for-blob : BlobFails found w o Error.OutOfMemory
  keys-arent-there : (e : Error) → KeysFail found w (written_of o.written).references e → BlobFails found w o e
  path-is-too-long : (keys : List ℕ) → AllHaveKeys found w (written_of o.written).references keys → IsTooHigh found o
      → BlobFails found w o Error.TooDeep

-- the node's next reference, the first that wasn't found to have a key
abbrev pub IsNext : OpenNode → ArcRef → Type 0
IsNext o r = slice_get (written_of o.written).references o.keyed ≡ Some r

-- Where a reference's target lies: a loose reference leads to a cell that is older than the node, at depth 0; another to
-- a node one level deeper, down to 128.
pub data LeadsTo (o : OpenNode) (r : ArcRef) : ℕ → Type 0 where
  to-older-cell : is_loose_kind r.kind.0 ≡ true → r.node.0 < o.reference.node.0 → LeadsTo o r 0
  to-deeper-node : (depth : ℕ) → is_loose_kind r.kind.0 ≡ false → depth ≡ o.depth + 1 → depth ≤ longest_path
      → LeadsTo o r depth

-- it may not be entered: the cell isn't older, or the node would lie too deep
pub data LeadsTooDeep (o : OpenNode) (r : ArcRef) : Type 0 where
  cell-is-not-older : is_loose_kind r.kind.0 ≡ true → o.reference.node.0 ≤ r.node.0 → LeadsTooDeep o r
  node-is-too-deep : is_loose_kind r.kind.0 ≡ false → longest_path ≤ o.depth → LeadsTooDeep o r

-- a form of the value that lists exactly its references
pub record IsFormOf {N : Type 0} (v : Values N) (x : N) (written : Written) : Type 0 where
  pub form : HasForm v x written
  pub listed : written.references ≡ v.references x

-- the state of a page-out: the nodes that wait on the path, the node at hand, what was found, and the pager
pub record Stage (N E : Type 0) : Type 0 where
  pub path : List OpenNode
  pub node : OpenNode
  pub found : FoundKeys
  pub pager : PagerState N E

abbrev pub stage : {N E : Type 0} → List OpenNode → OpenNode → FoundKeys → PagerState N E → Stage N E
stage path node found s = record { path = path; node = node; found = found; pager = s }

-- the handle as a loose reference to its cell
pub record IsReferenceToCellOf (w : Core) (h : HandleNumber) (r : ArcRef) : Type 0 where
  pub handle : r.handle ≡ h
  pub at : NodeCall w h (Ok r.node)
  pub t : ℕ
  pub typed : type_at w r.node.0 ≡ Some t
  pub kind : r.kind.0 ≡ loose_kind t

-- The handle isn't one of a cell: it isn't live, its node is gone, or its type has no kinds.
pub data IsNoCell (w : Core) (h : HandleNumber) : Error → Type 0 where
  no-such-handle : (e : Error) → NodeCall w h (Err e) → IsNoCell w h e
  node-is-gone : (n : NodeNumber) → NodeCall w h (Ok n) → type_at w n.0 ≡ None → IsNoCell w h Error.NoSuchHandle
  type-has-no-kinds : (n : NodeNumber) (t : ℕ) → NodeCall w h (Ok n) → type_at w n.0 ≡ Some t → HasNoKinds t
      → IsNoCell w h Error.WrongKind

module _ {N E : Type 0} (v : Values N) where
  -- calls of the pager; after each its invariant holds
  abbrev pub Clones : PagerState N E → HandleNumber → Result HandleNumber Error → PagerState N E → Type 0
  Clones s h r s' = MakesCall v (λ w'. CloneCall s.core Owner.Caller h r w') s s'

  abbrev pub Loosens : PagerState N E → HandleNumber → Result HandleNumber Error → PagerState N E → Type 0
  Loosens s h r s' = MakesCall v (λ w'. LoosenCall s.core Owner.Caller h r w') s s'

  abbrev pub Pins : PagerState N E → HandleNumber → Result Pinning Error → PagerState N E → Type 0
  Pins s h r s' = MakesCall v (λ w'. PinCall s.core Owner.Caller h r w') s s'

  abbrev pub Releases : PagerState N E → HandleNumber → Result (Unit {0}) Error → PagerState N E → Type 0
  Releases s h r s' = MakesCall v (λ w'. ReleaseCall s.core Owner.Caller h r w') s s'

  abbrev pub SetsKey : PagerState N E → HandleNumber → ℕ → Result (Unit {0}) Error → PagerState N E → Type 0
  SetsKey s h key r s' = MakesCall v (λ w'. SetKeyCall s.core Owner.Caller h key r w') s s'

  abbrev pub StoresBlob : PagerState N E → Blob → Result ℕ Error → PagerState N E → Type 0
  StoresBlob s blob r s' = MakesCall v (λ w'. StoreCall (digest v) s.core blob r w') s s'

  -- The two handles of an open node are released. They are one handle if the node's reference isn't loose.
  pub data ReleasesBoth (cloned pin : HandleNumber) (s : PagerState N E) : PagerState N E → Type 0 where
    both-go : (told freed : Result (Unit {0}) Error) (mid s' : PagerState N E) → Releases s pin told mid
        → Releases mid cloned freed s' → ReleasesBoth cloned pin s s'
    one-goes : (told : Result (Unit {0}) Error) (s' : PagerState N E) → pin ≡ cloned → Releases s pin told s'
        → ReleasesBoth cloned pin s s'

  -- a cell whose value is in memory is pinned by a loose handle
  pub data PinsLoosely (c : HandleNumber) (s : PagerState N E) : Result HandleNumber Error → PagerState N E
      → Type 0 where
    cell-is-pinned : (k : HandleNumber) (s' : PagerState N E) → Pins s c (Ok (Pinning.Pinned k)) s'
        → PinsLoosely c s (Ok k) s'
    cell-is-away : (key : ℕ) (s' : PagerState N E) → Pins s c (Ok (Pinning.NeedsLoad key)) s'
        → PinsLoosely c s (Err Error.WrongMode) s'
    cell-is-not-pinned : (e : Error) (s' : PagerState N E) → Pins s c (Err e) s' → PinsLoosely c s (Err e) s'

  -- The page-out pins a reference's node: it clones the handle, and for a loose reference pins the cell by the clone,
  -- which it first makes loose if it is Pinned.
  pub data PinsNode (r : ArcRef) (s : PagerState N E) : HandleNumber → HandleNumber → PagerState N E → Type 0 where
    cell-is-taken : (c k : HandleNumber) (told : Result HandleNumber Error) (mid low s' : PagerState N E)
        → is_loose_kind r.kind.0 ≡ true
        → Clones s r.handle (Ok c) mid → Loosens mid c told low → PinsLoosely c low (Ok k) s' → PinsNode r s c k s'
    node-is-taken : (c : HandleNumber) (s' : PagerState N E) → is_loose_kind r.kind.0 ≡ false
        → Clones s r.handle (Ok c) s' → PinsNode r s c c s'

  -- it fails to pin the node, and releases a clone that it made
  pub data PinNodeFails (r : ArcRef) (s : PagerState N E) : Error → PagerState N E → Type 0 where
    clone-is-refused : (e : Error) (s' : PagerState N E) → Clones s r.handle (Err e) s' → PinNodeFails r s e s'
    pin-is-refused : (c : HandleNumber) (told : Result HandleNumber Error) (freed : Result (Unit {0}) Error) (e : Error)
        (mid low late s' : PagerState N E)
        → Clones s r.handle (Ok c) mid → Loosens mid c told low → PinsLoosely c low (Err e) late
        → Releases late c freed s' → PinNodeFails r s e s'

  -- the value that a handle pins is written; it is of the reference's type
  pub record Writes (s : PagerState N E) (r : ArcRef) (pin : HandleNumber) (written : Written) : Type 0 where
    pub x : N
    pub shown : ValueCall s pin (Ok (Some x))
    pub typed : v.node_type x ≡ type_of r.kind.0
    pub form : IsFormOf v x written

  -- the value is written, and both handles are of the reference's node
  pub record WritesNode (s : PagerState N E) (r : ArcRef) (cloned pin : HandleNumber)
      (written : Written) : Type 0 where
    pub at : NodeCall s.core cloned (Ok r.node)
    pub pin_at : NodeCall s.core pin (Ok r.node)
    pub writes : Writes s r pin written

  -- The value that a handle pins isn't written: the handle isn't live or doesn't pin, the value isn't of the
  -- reference's type, or its writer fails.
  pub data WriteFails (s : PagerState N E) (r : ArcRef) (pin : HandleNumber) : Error → Type 0 where
    pin-is-not-live : (e : Error) → ValueCall s pin (Err e) → WriteFails s r pin e
    handle-does-not-pin : ValueCall s pin (Ok None) → WriteFails s r pin Error.WrongMode
    value-is-of-another-type : (x : N) → ValueCall s pin (Ok (Some x)) → v.node_type x ≢ type_of r.kind.0
        → WriteFails s r pin Error.WrongKind
    writer-fails : (x : N) (e : Error) → ValueCall s pin (Ok (Some x)) → v.write_causes (v.node_type x) e
        → WriteFails s r pin e

  -- The node isn't written: one of its two handles isn't of it, or its value isn't written.
  pub data WriteNodeFails (s : PagerState N E) (r : ArcRef) (cloned pin : HandleNumber) : Error → Type 0 where
    clone-is-elsewhere : IsElsewhere s.core cloned r.node → WriteNodeFails s r cloned pin Error.NoSuchHandle
    pin-is-elsewhere : IsElsewhere s.core pin r.node → WriteNodeFails s r cloned pin Error.NoSuchHandle
    value-is-not-written : (e : Error) → WriteFails s r pin e → WriteNodeFails s r cloned pin e

  -- the page-out opens a reference's node at this depth: it pins the node and writes it
  pub record OpensNode (r : ArcRef) (depth : ℕ) (s : PagerState N E) (o : OpenNode) (s' : PagerState N E) : Type 0 where
    pub of : o.reference ≡ r
    pub deep : o.depth ≡ depth
    pub first : o.keyed ≡ 0
    pub takes : PinsNode r s o.cloned o.pin s'
    pub writes : WritesNode s' r o.cloned o.pin (written_of o.written)

  -- it fails, and keeps nothing of the node
  pub data OpenNodeFails (r : ArcRef) (s : PagerState N E) : Error → PagerState N E → Type 0 where
    isnt-taken : (e : Error) (s' : PagerState N E) → PinNodeFails r s e s' → OpenNodeFails r s e s'
    isnt-written : (e : Error) (c k : HandleNumber) (mid s' : PagerState N E) → PinsNode r s c k mid
        → WriteNodeFails mid r c k e → ReleasesBoth c k mid s'
        → OpenNodeFails r s e s'

  -- A cell gets its key. For a node that the page-out didn't reach by a loose reference the key is found from now on.
  pub data RecordsKey (found : FoundKeys) (o : OpenNode) (k : FoundKey) (s : PagerState N E) : FoundKeys → PagerState N E
      → Type 0 where
    cell-gets-key : (found' : FoundKeys) (s' : PagerState N E) → is_loose_kind o.reference.kind.0 ≡ true
        → SetsKey s o.cloned k.key (Ok tt) s'
        → ((n : ℕ) → found' n ≡ found n) → RecordsKey found o k s found' s'
    key-is-found : (found' : FoundKeys) → is_loose_kind o.reference.kind.0 ≡ false
        → found' o.reference.node.0 ≡ Some k → ((n : ℕ) → n ≢ o.reference.node.0 → found' n ≡ found n)
        → RecordsKey found o k s found' s

  -- A node whose references all have keys, and through which no path is too long, is stored with these keys, gets its
  -- key, and its handles are released.
  pub record FinishesOpenNode (found : FoundKeys) (s : PagerState N E) (o : OpenNode) (key : ℕ) (found' : FoundKeys)
      (s' : PagerState N E) : Type 0 where
    pub keys : List ℕ
    pub have : AllHaveKeys found s.core (written_of o.written).references keys
    pub mid : PagerState N E
    pub stores : StoresBlob s (blob_of (written_of o.written).bytes keys) (Ok key) mid
    pub within : o.depth + height_over found (written_of o.written).references ≤ longest_path
    pub low : PagerState N E
    pub sets : RecordsKey found o (record { key = key; height = height_over found (written_of o.written).references })
        mid found' low
    pub lets : ReleasesBoth o.cloned o.pin low s'

  -- setting a cell's key fails
  pub record SetKeyFails (o : OpenNode) (key : ℕ) (s : PagerState N E) (e : Error) (s' : PagerState N E) : Type 0 where
    pub of_cell : is_loose_kind o.reference.kind.0 ≡ true
    pub refused : SetsKey s o.cloned key (Err e) s'

  -- leaving a node fails: before its blob is stored, or at storing it, or at setting its key
  pub data FinishFails (found : FoundKeys) (s : PagerState N E) (o : OpenNode) : Error → PagerState N E → Type 0 where
    nothing-is-stored : (e : Error) → BlobFails found s.core o e → FinishFails found s o e s
    blob-is-refused : (e : Error) (keys : List ℕ) (s' : PagerState N E)
        → AllHaveKeys found s.core (written_of o.written).references keys
        → StoresBlob s (blob_of (written_of o.written).bytes keys) (Err e) s' → FinishFails found s o e s'
    key-is-refused : (e : Error) (key : ℕ) (keys : List ℕ) (mid s' : PagerState N E)
        → AllHaveKeys found s.core (written_of o.written).references keys
        → StoresBlob s (blob_of (written_of o.written).bytes keys) (Ok key) mid → SetKeyFails o key mid e s'
        → FinishFails found s o e s'

  -- A turn: the next reference has a key and is passed; or it has none, its target is opened and this node waits; or
  -- all have keys, and the node is left for the one that waits for it.
  pub data Turn (a : Stage N E) : Stage N E → Type 0 where
    has-key : (b : Stage N E) (r : ArcRef) (key next : ℕ) → IsNext a.node r → HasKey a.found a.pager.core r key
        → next ≡ a.node.keyed + 1 → b ≡ record a { node = record a.node { keyed = next } } → Turn a b
    goes-down : (b : Stage N E) (r : ArcRef) (depth : ℕ) → IsNext a.node r → HasNoKey a.found a.pager.core r
        → LeadsTo a.node r depth → b.path ≡ a.path ++ a.node ∷ []
        → b.found ≡ a.found → OpensNode r depth a.pager b.node b.pager → Turn a b
    goes-up : (b : Stage N E) (key : ℕ) → a.path ≡ b.path ++ b.node ∷ []
        → FinishesOpenNode a.found a.pager a.node key b.found b.pager → Turn a b

  -- a turn; or the last node is left, and its key is returned
  pub data MakesTurn (a : Stage N E) : Option ℕ → Stage N E → Type 0 where
    turns-once : (b : Stage N E) → Turn a b → MakesTurn a None b
    last-is-left : (key : ℕ) (b : Stage N E) → a.path ≡ [] → FinishesOpenNode a.found a.pager a.node key b.found b.pager
        → MakesTurn a (Some key) b

  -- some turns, one after another
  pub data Turns : Stage N E → Stage N E → Type 0 where
    no-turn : (a : Stage N E) → Turns a a
    one-more-turn : (a b c : Stage N E) → Turns a b → Turn b c → Turns a c

  -- how many they are
  unfoldable pub count_of : {a b : Stage N E} → Turns a b → ℕ
  count_of (no-turn a) = 0
  count_of (one-more-turn a b c more last) = count_of more + 1

  -- a reference's target is opened and this node waits; or opening it fails
  pub record OpensChild (r : ArcRef) (path : List OpenNode) (o : OpenNode) (s : PagerState N E) (path' : List OpenNode)
      (o' : OpenNode) (s' : PagerState N E) : Type 0 where
    pub waits : path' ≡ path ++ o ∷ []
    pub depth : ℕ
    pub leads : LeadsTo o r depth
    pub enters : OpensNode r depth s o' s'

  pub data OpenChildFails (r : ArcRef) (o : OpenNode) (s : PagerState N E) : Error → PagerState N E → Type 0 where
    way-is-too-deep : LeadsTooDeep o r → OpenChildFails r o s Error.TooDeep s
    no-memory-for-path : OpenChildFails r o s Error.OutOfMemory s
    node-is-refused : (e : Error) (s' : PagerState N E) → OpenNodeFails r s e s' → OpenChildFails r o s e s'

  -- a turn fails
  pub data TurnFails (a : Stage N E) : Error → PagerState N E → Type 0 where
    next-is-lost : (e : Error) (r : ArcRef) → IsNext a.node r → LooksInVain a.pager.core r e → TurnFails a e a.pager
    isnt-entered : (e : Error) (r : ArcRef) (s' : PagerState N E) → IsNext a.node r → HasNoKey a.found a.pager.core r
        → OpenChildFails r a.node a.pager e s' → TurnFails a e s'
    isnt-left : (e : Error) (s' : PagerState N E) → FinishFails a.found a.pager a.node e s' → TurnFails a e s'

  -- so many turns end with an error: a further one fails, or there were 2^64 - 1, which are all that are made
  pub data EndsTurns (a : Stage N E) (count : ℕ) : Error → PagerState N E → Type 0 where
    a-turn-fails : (e : Error) (s' : PagerState N E) → TurnFails a e s' → EndsTurns a count e s'
    turns-are-spent : count ≡ greatest → EndsTurns a count Error.TooDeep a.pager

  -- the handles of these nodes are released, from the last node to the first
  pub data ReleasesPath : List OpenNode → PagerState N E → PagerState N E → Type 0 where
    none-is-open : (s : PagerState N E) → ReleasesPath [] s s
    one-goes-first : (path : List OpenNode) (o : OpenNode) (s mid s' : PagerState N E)
        → ReleasesBoth o.cloned o.pin s mid
        → ReleasesPath path mid s' → ReleasesPath (path ++ o ∷ []) s s'

  -- turns that lead from one stage to the last node, which is left; or to an error, with the nodes that were open then
  pub record TurnsUntilKey (a : Stage N E) (key : ℕ) (b : Stage N E) : Type 0 where
    pub last : Stage N E
    pub so : Turns a last
    pub out : MakesTurn last (Some key) b

  pub record TurnsFail (a : Stage N E) (e : Error) (path : List OpenNode) (node : OpenNode)
      (s' : PagerState N E) : Type 0 where
    pub last : Stage N E
    pub so : Turns a last
    pub fails : EndsTurns last (count_of so) e s'
    pub path_is : path ≡ last.path
    pub node_is : node ≡ last.node

  -- The walk from an open node: turns until the last node is left, or until an error, after which all handles are
  -- released.
  pub data Walks (first : OpenNode) (s : PagerState N E) : Result ℕ Error → PagerState N E → Type 0 where
    all-is-stored : (a b : Stage N E) (key : ℕ) → Turns (stage [] first nothing_found s) a → a.path ≡ []
        → FinishesOpenNode a.found a.pager a.node key b.found b.pager → Walks first s (Ok key) b.pager
    walk-is-refused : (a : Stage N E) (e : Error) (mid low s' : PagerState N E)
        (turns : Turns (stage [] first nothing_found s) a) → EndsTurns a (count_of turns) e mid
        → ReleasesBoth a.node.cloned a.node.pin mid low → ReleasesPath a.path low s' → Walks first s (Err e) s'

  -- the page-out of a handle's cell that has no key: the walk from it
  pub data PagesOutKeyless (s : PagerState N E) (h : HandleNumber) : Result ℕ Error → PagerState N E → Type 0 where
    handle-is-of-no-cell : (e : Error) → IsNoCell s.core h e → PagesOutKeyless s h (Err e) s
    root-is-refused : (r : ArcRef) (e : Error) (s' : PagerState N E) → IsReferenceToCellOf s.core h r
        → OpenNodeFails r s e s'
        → PagesOutKeyless s h (Err e) s'
    root-is-walked : (r : ArcRef) (first : OpenNode) (answer : Result ℕ Error) (mid s' : PagerState N E)
        → IsReferenceToCellOf s.core h r → OpensNode r 0 s first mid
        → Walks first mid answer s' → PagesOutKeyless s h answer s'

  -- The page-out of a handle's cell: the key that the cell has, or the walk from it.
  pub data PagesOutChanged (s : PagerState N E) (h : HandleNumber) : Result ℕ Error → PagerState N E → Type 0 where
    no-handle : (e : Error) → KeyCall s.core h (Err e) → PagesOutChanged s h (Err e) s
    root-has-key : (key : ℕ) → KeyCall s.core h (Ok (OptionalDataKey.Some key)) → PagesOutChanged s h (Ok key) s
    root-has-none : (answer : Result ℕ Error) (s' : PagerState N E) → KeyCall s.core h (Ok OptionalDataKey.None)
        → PagesOutKeyless s h answer s'
        → PagesOutChanged s h answer s'
