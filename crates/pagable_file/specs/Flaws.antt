-- The flaws of a file of blobs.
use Rattle.blob_file.specs.{
  File.{Same, content, flushed},
  Rows.Body,
  declared.file.BlobFile.BlobFile,
}
use Rattle.pagable_file.specs.{Bodies.{blob_in, blobs_of, no_roots}, Copies.Reaches, declared.fsck.Flaw.Flaw}
use Rattle.pagable_value_spec.specs.Blob.{Blob}
use Rattle.sqlite_disk.specs.declared.Disk.{Ghosts}
use Rattle.sqlite_wal.specs.Reads.{IsClean}
use Rattle.std.specs.{
  Global.Global,
  List.{AllByRecursion, Contains},
  Prelude.{IsSome, List, None, Option, Some, String, ℕ, [], ◌++◌, ◌≡◌, ◌≢◌, ◌⊎◌},
  String.string_bytes,
}
use Rattle.pagable_file.specs.declared.fsck.Flaw.TheVariants as flaw

-- there is a body under the key
abbrev pub IsThere : (ℕ → Option Body) → ℕ → Type 0
IsThere bodies key = IsSome (bodies key)

-- the second key is a child of the first one's blob
abbrev pub IsChild : (ℕ → Option Body) → ℕ → ℕ → Type 0
IsChild bodies key child = (blob : Blob) × (blobs_of bodies key ≡ Some blob) × Contains blob.keys child

-- no fetch returns a blob of this body: its key is 0, or its front isn't a list of keys
abbrev pub IsStray : ℕ → Body → Type 0
IsStray key body = (key ≡ 0) ⊎ (blob_in body ≡ None)

-- a flaw that these bodies and names have
abbrev pub IsFlaw : (Blob → ℕ) → (ℕ → Option Body) → (List ℕ → Option ℕ) → Flaw → Type 0
IsFlaw key_of bodies names (flaw.StrayBlob key) = (body : Body) × (bodies key ≡ Some body) × IsStray key body
IsFlaw key_of bodies names (flaw.WrongKey key) = (key ≢ 0) × ((blob : Blob) × (blobs_of bodies key ≡ Some blob) × (key_of blob ≢ key))
IsFlaw key_of bodies names (flaw.MissingChild key child) = (key ≢ 0) × IsChild bodies key child × (bodies child ≡ None)
IsFlaw key_of bodies names (flaw.MissingRoot name key) = (names (string_bytes name) ≡ Some key) × (bodies key ≡ None)

-- the flaw is one of what stands under the key
abbrev pub IsAt : ℕ → Flaw → Type 0
IsAt at (flaw.StrayBlob key) = key ≡ at
IsAt at (flaw.WrongKey key) = key ≡ at
IsAt at (flaw.MissingChild key child) = key ≡ at
IsAt at (flaw.MissingRoot name key) = ⊥

-- a flaw of what stands under a key
abbrev pub IsFlawAt : (Blob → ℕ) → (ℕ → Option Body) → ℕ → Flaw → Type 0
IsFlawAt key_of bodies at it = IsAt at it × IsFlaw key_of bodies no_roots it

-- a flaw of what stands under any key
abbrev pub IsFlawOfBlobs : (Blob → ℕ) → (ℕ → Option Body) → Flaw → Type 0
IsFlawOfBlobs key_of bodies it = (at : ℕ) × IsFlawAt key_of bodies at it

-- the flaw that the blob of this name's key is missing
abbrev pub IsMissingRoot : (ℕ → Option Body) → (List ℕ → Option ℕ) → List ℕ → Flaw → Type 0
IsMissingRoot bodies names name (flaw.StrayBlob key) = ⊥
IsMissingRoot bodies names name (flaw.WrongKey key) = ⊥
IsMissingRoot bodies names name (flaw.MissingChild key child) = ⊥
IsMissingRoot bodies names name (flaw.MissingRoot own key) = (string_bytes own ≡ name) × (names name ≡ Some key) × (bodies key ≡ None)

-- a flaw of any name
abbrev pub IsFlawOfNames : (ℕ → Option Body) → (List ℕ → Option ℕ) → Flaw → Type 0
IsFlawOfNames bodies names it = (name : List ℕ) × IsMissingRoot bodies names name it

-- this flaw, if nothing stands under the key
abbrev pub IsIfMissing : (ℕ → Option Body) → ℕ → Flaw → Flaw → Type 0
IsIfMissing bodies key wanted it = (it ≡ wanted) × (bodies key ≡ None)

-- the flaw that this child of a key's blob is missing
abbrev pub IsMissingChild : (ℕ → Option Body) → ℕ → ℕ → Flaw → Type 0
IsMissingChild bodies key child it = IsIfMissing bodies child (flaw.MissingChild key child) it

-- the flaw that the blob under this key has another one
abbrev pub IsWrongKey : (Blob → ℕ) → ℕ → Blob → Flaw → Type 0
IsWrongKey key_of key blob it = (it ≡ flaw.WrongKey key) × (key_of blob ≢ key)

-- a flaw of one of these
abbrev pub IsOfSome : {A : Type 0} → (A → Flaw → Type 0) → List A → Flaw → Type 0
IsOfSome {A} flaws xs it = (x : A) × Contains xs x × flaws x it

-- the second flaw is the first, or has the same name and key
abbrev pub IsLike : Flaw → Flaw → Type 0
IsLike (flaw.StrayBlob key) it = it ≡ flaw.StrayBlob key
IsLike (flaw.WrongKey key) it = it ≡ flaw.WrongKey key
IsLike (flaw.MissingChild key child) it = it ≡ flaw.MissingChild key child
IsLike (flaw.MissingRoot name key) it = (own : String Global) × (it ≡ flaw.MissingRoot own key) × (string_bytes own ≡ string_bytes name)

-- the flaw is among those that are told
abbrev pub IsTold : List Flaw → Flaw → Type 0
IsTold all it = (told : Flaw) × Contains all told × IsLike it told

-- the body is that of its key's blob, whose children are there
pub record IsSoundBody (key_of : Blob → ℕ) (bodies : ℕ → Option Body) (key : ℕ) (body : Body) : Type 0 where
  pub blob : Blob
  pub is : blob_in body ≡ Some blob
  pub can : key ≢ 0
  pub keyed : key_of blob ≡ key
  pub children : AllByRecursion (IsThere bodies) blob.keys

-- the body under a key, if there is one, is sound
abbrev pub IsSoundAt : (Blob → ℕ) → (ℕ → Option Body) → ℕ → Type 0
IsSoundAt key_of bodies key = (body : Body) → bodies key ≡ Some body → IsSoundBody key_of bodies key body

-- the blob of the key that a name stands for is there
abbrev pub IsSoundName : (ℕ → Option Body) → (List ℕ → Option ℕ) → List ℕ → Type 0
IsSoundName bodies names name = (key : ℕ) → names name ≡ Some key → IsThere bodies key

-- each body is that of its key's blob, and each of its children and the blob of each name is there
pub record IsWhole (key_of : Blob → ℕ) (bodies : ℕ → Option Body) (names : List ℕ → Option ℕ) : Type 0 where
  pub blobs : (key : ℕ) → IsSoundAt key_of bodies key
  pub named : (name : List ℕ) → IsSoundName bodies names name

-- a test told just these flaws; if there are none, this holds
pub record TellsFlaws (P : Flaw → Type 0) (old new : List Flaw) (Q : Type 0) : Type 0 where
  pub told : List Flaw
  pub is : new ≡ old ++ told
  pub real : AllByRecursion P told
  pub each : (it : Flaw) → P it → IsTold told it
  pub clear : told ≡ [] → Q

-- the keys of the children of what stands under a key
abbrev pub keys_of_blob : Option Blob → List ℕ
keys_of_blob None = []
keys_of_blob (Some blob) = blob.keys

abbrev pub children_in : (ℕ → Option Body) → ℕ → List ℕ
children_in bodies key = keys_of_blob (blobs_of bodies key)

-- the key that a name stands for reaches this one
abbrev pub IsUnder : (ℕ → Option Body) → (List ℕ → Option ℕ) → List ℕ → ℕ → Type 0
IsUnder bodies names name key = (root : ℕ) × (names name ≡ Some root) × Reaches (blobs_of bodies) root key

-- a flaw of what a key reaches
abbrev pub IsFlawOfReached : (Blob → ℕ) → (ℕ → Option Body) → ℕ → Flaw → Type 0
IsFlawOfReached key_of bodies root it = (at : ℕ) × Reaches (blobs_of bodies) root at × IsFlawAt key_of bodies at it

-- a flaw of what a root reaches, or of the root itself
abbrev pub IsFlawUnder : (Blob → ℕ) → (ℕ → Option Body) → (List ℕ → Option ℕ) → List ℕ → Flaw → Type 0
IsFlawUnder key_of bodies names name it = IsMissingRoot bodies names name it
    ⊎ ((at : ℕ) × IsUnder bodies names name at × IsFlawAt key_of bodies at it)

-- the blob of the root is there, and each body that it reaches is that of its key's blob, whose children are there
pub record IsWholeUnder (key_of : Blob → ℕ) (bodies : ℕ → Option Body) (names : List ℕ → Option ℕ) (name : List ℕ) : Type 0 where
  pub blobs : (key : ℕ) → IsUnder bodies names name key → IsSoundAt key_of bodies key
  pub named : IsSoundName bodies names name

-- the file was read, and has what it had
pub record Stays {D : Type 0} (g : Ghosts D) (old new : BlobFile D) : Type 0 where
  pub content : Same (content g old) (content g new)
  pub flushed : Same (flushed g old) (flushed g new)
  pub whole : new.log.is_whole ≡ old.log.is_whole
  pub may : new.log.may_write ≡ old.log.may_write
  pub clean : IsClean g new.log.disk → IsClean g old.log.disk
