-- An open file of blobs: what is flushed, what is held, and what is fetched.
use Rattle.std.specs.Prelude.{◌≡◌, ◌≢◌, ◌⊎◌, ℕ, ◌+◌, ◌*◌, ◌-◌, ◌≤◌, ◌^◌, nat_eq, nat_le, Bool, if◌then◌else◌, false, IsTrue, ⊤, List, length}
use Rattle.std.specs.Prelude.{Option, None, Some, filter, option_map, IfSome, IsSome, IsSomeAnd, map}
use Rattle.std.specs.HashMap.{get, get_by_text, values}
use Rattle.std.specs.List.{AllPairs, Contains}
use Rattle.sqlite_disk.specs.declared.Disk.{Ghosts}
use Rattle.sqlite_disk.specs.Disk.{MoreFaults}
use Rattle.sqlite_wal.specs.Format.{part}
use Rattle.sqlite_wal.specs.Reads.{IsClean}
use Rattle.blob_file.specs.Appending.{IsOpen}
use Rattle.blob_file.specs.Format.{joined, recovered}
use Rattle.blob_file.specs.Rows.{Body, AreWhole, blobs_in, named_in, names_in, nowhere, places_in, placed, size_of_place, stored_in, told}
use Rattle.blob_file.specs.declared.file.BlobFile.{BlobFile}
use Rattle.blob_file.specs.declared.file.FoundBlob.{FoundBlob}
use Rattle.blob_file.specs.declared.file_error.FileError.{FileError}
use Rattle.blob_file.specs.declared.file_error.FileError.TheVariants.{OutOfMemory, Damaged, Failed, NoSuchBlob, ReadOnly, Shut, TooLong}
use Rattle.blob_file.specs.declared.listing.ListedBlob.{ListedBlob}
use Rattle.blob_file.specs.declared.log.Log.{Log}
use Rattle.blob_file.specs.declared.rows.Place.{Place}

-- where the bodies of the next batch begin
abbrev pub first_body : {D : Type 0} → BlobFile D → ℕ
first_body it = it.log.gate + 25

-- the body at a place waits for a flush, behind the gate
abbrev pub is_held : ℕ → Place → Bool
is_held gate p = nat_le (gate + 25) p.at

-- how many blobs wait for a flush
abbrev pub held_blobs : {D : Type 0} → BlobFile D → ℕ
held_blobs it = length (filter (is_held it.log.gate) (values it.index.places))

-- the bytes at a place: of the next batch, whose bodies begin at `first`, they are held in memory, and else they stand in the file
abbrev pub body_bytes : List ℕ → List ℕ → ℕ → Place → List ℕ
body_bytes file bodies first p = if nat_le first p.at then part bodies (p.at - first) (size_of_place p) else part file p.at (size_of_place p)

abbrev pub body_now : {D : Type 0} → Ghosts D → BlobFile D → Place → Body
body_now g it p = record { children = p.children; bytes = body_bytes (g.seen it.log.disk) it.bodies.items (first_body it) p }

-- the blob that the file has under each key, flushed or held
abbrev pub stored : {D : Type 0} → Ghosts D → BlobFile D → ℕ → Option Body
stored g it key = option_map (body_now g it) (get nat_eq it.index.places key)

-- the key that each name stands for, flushed or held
abbrev pub named : {D : Type 0} → BlobFile D → List ℕ → Option ℕ
named it name = get_by_text it.index.names name

-- blobs by their keys, and the keys that names stand for
pub record Content : Type 0 where
  pub blob : ℕ → Option Body
  pub key : List ℕ → Option ℕ

-- what the file has, flushed or held
abbrev pub content : {D : Type 0} → Ghosts D → BlobFile D → Content
content g it = record { blob = stored g it; key = named it }

-- what batches have
abbrev pub content_of : List (List ℕ) → Content
content_of bs = record { blob = stored_in bs; key = named_in bs }

-- what the file has once it is opened anew
abbrev pub flushed : {D : Type 0} → Ghosts D → BlobFile D → Content
flushed g it = content_of (recovered (g.seen it.log.disk))

-- the same blobs under each key
abbrev pub SameBlobs : (ℕ → Option Body) → (ℕ → Option Body) → Type 0
SameBlobs old new = (key : ℕ) → new key ≡ old key

-- the same keys by each name
abbrev pub SameNames : (List ℕ → Option ℕ) → (List ℕ → Option ℕ) → Type 0
SameNames old new = (name : List ℕ) → new name ≡ old name

-- the same blobs, and the same names
pub record Same (old new : Content) : Type 0 where
  pub blobs : SameBlobs old.blob new.blob
  pub names : SameNames old.key new.key

-- each name stands for a key under which there is a blob
abbrev pub NamesStand : Content → Type 0
NamesStand it = (name : List ℕ) → IfSome (it.key name) (λ key. IsSome (it.blob key))

-- the log is open, the index has what its batches say and what is held, and this can be flushed
pub record IsSettled {D : Type 0} (g : Ghosts D) (it : BlobFile D) : Type 0 where
  pub open_log : IsOpen g it.log
  pub held : AreWhole (length it.bodies.items) it.rows.items
  pub places : IsTrue it.log.is_whole → IsClean g it.log.disk → (key : ℕ) → get nat_eq it.index.places key
      ≡ placed (first_body it) (blobs_in it.rows.items) (places_in 16 (recovered (g.seen it.log.disk)) nowhere) key
  pub names : IsTrue it.log.is_whole → IsClean g it.log.disk → (name : List ℕ) → named it name
      ≡ told (names_in it.rows.items) (named_in (recovered (g.seen it.log.disk))) name

-- what was fetched, as the file has it
abbrev pub found_body : Option FoundBlob → Option Body
found_body found = option_map (λ it. record { children = it.children; bytes = it.body.items }) found

-- why a blob isn't fetched
abbrev pub FetchFails : Type 0 → Bool → ℕ → ℕ → FileError → Type 0
FetchFails clean whole before after OutOfMemory = ⊤
FetchFails clean whole before after Damaged = clean → ⊥
FetchFails clean whole before after Failed = MoreFaults before after
FetchFails clean whole before after Shut = whole ≡ false
FetchFails clean whole before after _ = ⊥

-- how many bytes the file has behind the gate where its batches end
abbrev pub tail_of : List ℕ → ℕ
tail_of file = length file - (17 + length (joined (recovered file)))

-- why the bytes behind the batches aren't counted
abbrev pub CountFails : Bool → ℕ → ℕ → FileError → Type 0
CountFails whole before after Failed = MoreFaults before after
CountFails whole before after Shut = whole ≡ false
CountFails whole before after _ = ⊥

-- why a blob isn't held
abbrev pub AddFails : {D : Type 0} → Log D → FileError → Type 0
AddFails log OutOfMemory = ⊤
AddFails log Shut = log.is_whole ≡ false
AddFails log ReadOnly = log.may_write ≡ false
AddFails log TooLong = ⊤
AddFails log _ = ⊥

-- nothing is known under the key, or it is 0
abbrev pub HasNoBlob : {X : Type 0} → (ℕ → Option X) → Option ℕ → Type 0
HasNoBlob blobs None = ⊥
HasNoBlob blobs (Some key) = (key ≡ 0) ⊎ (blobs key ≡ None)

-- each key under which there is something is listed, once, and no other
pub record Lists {K X : Type 0} (found : K → Option X) (listed : List K) : Type 0 where
  pub once : AllPairs (λ a b. a ≢ b) listed
  pub all : (key : K) → IsSome (found key) → Contains listed key
  pub only : (key : K) → Contains listed key → IsSome (found key)

-- the blob has so many child keys and so many bytes
pub record IsListedAs (listed : ListedBlob) (body : Body) : Type 0 where
  pub children : body.children ≡ listed.children
  pub bytes : length body.bytes ≡ 16 * listed.children + listed.bytes

-- each blob is listed, once, and no other, as it is
pub record ListsBlobs (blobs : ℕ → Option Body) (listed : List ListedBlob) : Type 0 where
  pub keys : Lists blobs (map (λ it. it.key) listed)
  pub each : (it : ListedBlob) → Contains listed it → IsSomeAnd (blobs it.key) (IsListedAs it)

-- what is listed of a place
abbrev pub listed_entry : ℕ × Place → ListedBlob
listed_entry it = record { key = it.0; children = it.1.children; bytes = it.1.bytes }

-- why a name isn't set
abbrev pub NameFails : {D : Type 0} → Log D → List ℕ → Option ℕ → (ℕ → Option Body) → FileError → Type 0
NameFails log name key blobs OutOfMemory = ⊤
NameFails log name key blobs NoSuchBlob = HasNoBlob blobs key
NameFails log name key blobs Shut = log.is_whole ≡ false
NameFails log name key blobs ReadOnly = log.may_write ≡ false
NameFails log name key blobs TooLong = 2 ^ 32 ≤ length name
NameFails log name key blobs _ = ⊥
