-- Blobs as bodies of a file: the child keys in sixteen bytes each, low bytes first, and behind them the blob's bytes.
use Rattle.blob_file.specs.Rows.{Body}
use Rattle.pagable_value_spec.specs.{Blob.Blob, Stored.HasFailed, declared.error.Error.Error}
use Rattle.std.specs.{
  Int.{from_le_bytes, to_le_bytes, w128},
  List.flat_map,
  Prelude.{Bool, List, None, Option, Some, drop, if◌then◌else◌, length, not, option_map, suc, take, zero, ℕ, []},
  Prelude.{◌*◌, ◌++◌, ◌/◌, ◌<◌, ◌==◌, ◌&&◌, ◌^◌, ◌∷◌, ◌≡◌, ◌≢◌},
}

-- sixteen bytes as a key, low bytes first; a key is never 0
unfoldable pub key_in : List ℕ → Option ℕ
key_in bytes = if (length bytes == 16) && not (from_le_bytes w128 bytes == 0) then Some
    (from_le_bytes w128 bytes) else None

-- the numbers that a key can have
abbrev pub CanBeKey : ℕ → Type 0
CanBeKey n = (0 < n) × (n < 2 ^ 128)

abbrev pub with_key : Option ℕ → Option (List ℕ) → Option (List ℕ)
with_key None more = None
with_key (Some key) None = None
with_key (Some key) (Some more) = Some (key ∷ more)

-- a number of keys, one after another, and nothing behind them
unfoldable pub keys_from : ℕ → List ℕ → Option (List ℕ)
keys_from zero [] = Some []
keys_from zero (b ∷ bs) = None
keys_from (suc n) bytes = with_key (key_in (take 16 bytes)) (keys_from n (drop 16 bytes))

abbrev pub keys_in : List ℕ → Option (List ℕ)
keys_in bytes = keys_from (length bytes / 16) bytes

abbrev pub with_bytes : List ℕ → List ℕ → Blob
with_bytes bytes keys = record { bytes = bytes; keys = keys }

-- the blob that a body is, if its front is a list of keys
unfoldable pub blob_in : Body → Option Blob
blob_in it = option_map (with_bytes (drop (16 * it.children) it.bytes)) (keys_in (take (16 * it.children) it.bytes))

-- the body of a blob
abbrev pub body_of : Blob → Body
body_of blob = record { children = length blob.keys; bytes = flat_map (to_le_bytes w128) blob.keys ++ blob.bytes }

abbrev pub blob_if_some : Option Body → Option Blob
blob_if_some None = None
blob_if_some (Some it) = blob_in it

-- the blob under each key
abbrev pub blobs_of : (ℕ → Option Body) → ℕ → Option Blob
blobs_of bodies key = blob_if_some (bodies key)

-- no blob is stored under any key
abbrev pub no_blobs : ℕ → Option Blob
no_blobs key = None

-- what is stored, unless the storage was closed
abbrev pub unless : Bool → (ℕ → Option Blob) → ℕ → Option Blob
unless closed blobs = if closed then no_blobs else blobs

-- no name stands for any key
abbrev pub no_roots : List ℕ → Option ℕ
no_roots name = None

-- the key that each name stands for, unless the storage was closed
abbrev pub roots_unless : Bool → (List ℕ → Option ℕ) → List ℕ → Option ℕ
roots_unless closed roots = if closed then no_roots else roots

-- a test of what was read of a blob refuses it, or memory runs out
abbrev pub RefusesRead : ℕ → ℕ → Error → Type 0
RefusesRead before after Error.OutOfMemory = Unit {0}
RefusesRead before after (Error.Storage code) = HasFailed before after
RefusesRead before after _ = ⊥

-- what stands under the key already is another blob, or is damaged, or memory runs out
abbrev pub RefusesOther : Option Blob → Blob → ℕ → ℕ → Error → Type 0
RefusesOther found blob before after Error.KeyTaken = (other : Blob) × (found ≡ Some other) × (other ≢ blob)
RefusesOther found blob before after Error.OutOfMemory = Unit {0}
RefusesOther found blob before after (Error.Storage code) = HasFailed before after
RefusesOther found blob before after _ = ⊥
