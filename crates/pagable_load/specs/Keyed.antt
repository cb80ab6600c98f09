-- What a load has read, by the hash alone: whatever the storage does, and whatever others do to the pager meanwhile.
use Rattle.pagable_load.specs.{Decoding.IsReadAs, declared.reading.LoadOutcome.LoadOutcome}
use Rattle.pagable_pager_spec.specs.{
  Basics.{Among, Tree, is_eager, type_of},
  Pager.{NodeStands, PagerState, ReadsNodeTree, ValueStands},
  World.{Frame, IsLawful, Values},
}
use Rattle.pagable_value_spec.specs.{
  Blob.{Blob, key_of},
  Canonical.IsReadableType,
  Merkle.HasOwnKeys,
  Trees.ReadsTree,
  declared.{error.Error.Error, numbers.ArcRef.ArcRef},
}
use Rattle.std.specs.{
  Arc.arc_value,
  Global.Global,
  Prelude.{IfOk, IfSome, List, None, Option, Result, Some, false, length, slice_get, ℕ, [], ◌∷◌, ◌≡◌, ◌≤◌},
  declared.sync.Arc.Arc,
}

-- P holds of each reference that was got, and of the blob's key at its place
abbrev pub EachGot : (ArcRef → ℕ → Type 0) → List ArcRef → List ℕ → Type 0
EachGot P got keys = (place key : ℕ) (r : ArcRef) → slice_get got place ≡ Some r → slice_get keys place ≡ Some key
    → P r key

-- How a load got a reference for a key: the cache lent a node for it, of which nothing is said; or it is a loose one,
-- which isn't read; or the load read a value of the kind's type, from a blob whose hash is the key, with references
-- that were got so.
pub data Came {N : Type 0} (v : Values N) : ArcRef → ℕ → Type 0 where
  came-known : (r : ArcRef) (key : ℕ) → Came v r key
  came-loose : (r : ArcRef) (key : ℕ) → is_eager r.kind.0 ≡ false → Came v r key
  came-read : (r : ArcRef) (key : ℕ) (blob : Blob) (got : List ArcRef) (x : N) → key_of v.hash blob ≡ key
      → length got ≤ length blob.keys → IsReadAs v (type_of r.kind.0) blob got x → ((place k : ℕ) (q : ArcRef)
      → slice_get got place ≡ Some q → slice_get blob.keys place ≡ Some k → Came v q k) → Came v r key

-- x is what a blob reads as, as a value of the type t, and the blob's hash is the key. Each reference that was got is
-- for the blob's key at its place.
pub record IsKeyed {N : Type 0} (v : Values N) (key t : ℕ) (x : N) : Type 0 where
  pub blob : Blob
  pub got : List ArcRef
  pub named : key_of v.hash blob ≡ key
  pub few : length got ≤ length blob.keys
  pub read : IsReadAs v t blob got x
  pub came : EachGot (Came v) got blob.keys

-- some value was read so
pub record HasRead {N : Type 0} (v : Values N) (key t : ℕ) : Type 0 where
  pub x : N
  pub keyed : IsKeyed v key t x

-- a load's frame holds a blob whose hash is the frame's key
pub record IsFrameKeyed {N : Type 0} (v : Values N) (f : Frame) : Type 0 where
  pub named : key_of v.hash f.blob ≡ f.key
  pub few : length f.got ≤ length f.blob.keys
  pub came : EachGot (Came v) f.got f.blob.keys

-- each frame's key is the one that the frame below it comes to next, and the last frame is the root's
pub data FramesKeyed {N : Type 0} (v : Values N) (key t : ℕ) : List Frame → Type 0 where
  no-frames : FramesKeyed v key t []
  root-keyed : (f : Frame) → IsFrameKeyed v f → f.key ≡ key → f.node_type ≡ t → FramesKeyed v key t (f ∷ [])
  more-keyed : (f g : Frame) (fs : List Frame) → IsFrameKeyed v f → f.node_type ≡ type_of f.kind.0
      → slice_get g.blob.keys (length g.got) ≡ Some f.key → FramesKeyed v key t (g ∷ fs)
      → FramesKeyed v key t (f ∷ g ∷ fs)

-- a load of a cell ends: the value that the cell gets was read under the key, or, if it had one, some value was
abbrev pub IsEndKeyed : {N : Type 0} → Values N → ℕ → ℕ → Option (Arc N Global) → Type 0
IsEndKeyed v key t (Some read) = IsKeyed v key t (arc_value read)
IsEndKeyed v key t None = HasRead v key t

-- how a load goes on or ends: what it returns was read under its key
abbrev pub AfterKeyed : {N : Type 0} → Values N → ℕ → ℕ → Option (LoadOutcome N) → List Frame → Type 0
AfterKeyed v key t None frames = FramesKeyed v key t frames
AfterKeyed v key t (Some (LoadOutcome.Read x)) frames = IsKeyed v key t x
AfterKeyed v key t (Some (LoadOutcome.Pinned k read)) frames = IsEndKeyed v key t read
AfterKeyed v key t (Some (LoadOutcome.Refused e)) frames = Unit {0}

-- a value that a pin has read was read under the key that the pin names; below: the value that it shares
abbrev pub IsPinKeyed : {N : Type 0} → Values N → Option ℕ → N → Type 0
IsPinKeyed v read_from x = IfSome read_from (λ key. IsKeyed v key (v.node_type x) x)

abbrev pub IsShareKeyed : {N : Type 0} → Values N → Option ℕ → Result (Option (Arc N Global)) Error → Type 0
IsShareKeyed v read_from shared = IfOk shared (λ found. IfSome found (λ x. IsPinKeyed v read_from (arc_value x)))

-- if the frames were keyed before, what follows is
pub record StaysKeyed {N : Type 0} (v : Values N) (key t : ℕ) (old : List Frame) (outcome : Option (LoadOutcome N))
    (new : List Frame) : Type 0 where
  pub follows : FramesKeyed v key t old → AfterKeyed v key t outcome new

-- a is held by a node that was read so
pub record HoldsKeyed {N T : Type 0} (v : Values N) (held : N → Option T) (key t : ℕ) (a : T) : Type 0 where
  pub x : N
  pub keyed : IsKeyed v key t x
  pub holds : held x ≡ Some a

-- ---- what a read tells of what a key says

-- what the store has under the key isn't another blob with the same hash as this one
abbrev pub DoesNotClash : (List ℕ → List ℕ) → (ℕ → Option Blob) → ℕ → Blob → Type 0
DoesNotClash hash store key blob = (said : Blob) → store key ≡ Some said → key_of hash said ≡ key_of hash blob
    → said ≡ blob

-- A value that was read under a key stands for the tree that a store has there, be it the one that was read from or
-- another, if the store keeps each blob under its own hash, if the two blobs of the key don't clash, and if the nodes of
-- the value's references stand for the trees of their keys.
abbrev pub TreesAreRight : {N : Type 0} → Type 0 → Values N → Type 0
TreesAreRight {N} E v = (s : PagerState N E) (trees : ℕ → Tree) (key t : ℕ) (x : N) (read : IsKeyed v key t x)
    (tree : Tree) → IsLawful v → IsReadableType v.types t → HasOwnKeys v.hash s.core.stored
    → DoesNotClash v.hash s.core.stored key read.blob → tree.type ≡ t → ReadsTree s.core.stored v.types key tree
    → EachGot (λ r k. ReadsNodeTree v.types s.core.stored trees k (type_of r.kind.0) r.node.0) read.got read.blob.keys
    → ((r : ArcRef) → Among (v.references x) r → NodeStands v s r.node.0 (trees r.node.0)) → ValueStands v s x tree

-- The same of a key whose blob has no references: then nothing is asked of nodes.
abbrev pub LeavesAreRight : {N : Type 0} → Type 0 → Values N → Type 0
LeavesAreRight {N} E v = (s : PagerState N E) (key t : ℕ) (x : N) (read : IsKeyed v key t x) (tree : Tree) → IsLawful v
    → IsReadableType v.types t → HasOwnKeys v.hash s.core.stored → DoesNotClash v.hash s.core.stored key read.blob
    → ((said : Blob) → s.core.stored key ≡ Some said → said.keys ≡ []) → tree.type ≡ t
    → ReadsTree s.core.stored v.types key tree → ValueStands v s x tree
