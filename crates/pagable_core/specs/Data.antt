-- Blobs as the code keeps them, and the bytes that a hash was given.
use Rattle.pagable_core.specs.declared.storage.{data.PagableData.PagableData, weigh.WeighHash.WeighHash}
use Rattle.pagable_value_spec.specs.Blob.{Blob, weight}
use Rattle.std.specs.{
  Arc.arc_value,
  Global.Global,
  HashMap.{HashMap, get},
  Int.{from_le_bytes, w128},
  Prelude.{List, Option, if◌then◌else◌, length, nat_eq, option_map, ℕ, ◌%◌, ◌+◌, ◌==◌, ◌^◌, ◌≡◌},
  declared.{hash.{BuildHasherDefault.BuildHasherDefault, FoldHasher.FoldHasher}, sync.Arc.Arc},
}

-- the blob without its place in memory
abbrev pub blob_of : PagableData → Blob
blob_of d = record { bytes = d.bytes.items; keys = d.arcs.items }

-- the key of a blob whose preimage has this hash of sixteen bytes
abbrev pub key_of_digest : List ℕ → ℕ
key_of_digest digest = let n = from_le_bytes w128 digest in if n == 0 then 1 else n

-- a map of blobs in memory; below: its blob under a key
abbrev pub Blobs : Type 0
Blobs = HashMap ℕ (Arc PagableData Global) (BuildHasherDefault FoldHasher)

abbrev pub stored_in : Blobs → ℕ → Option Blob
stored_in m key = option_map (λ d. blob_of (arc_value d)) (get nat_eq m key)

-- the hash was given these bytes
pub record IsWeighed (h : WeighHash) (came : List ℕ) : Type 0 where
  pub place : h.place ≡ (length came + 1) % 2 ^ 128
  pub sum : h.sum ≡ weight 1 came % 2 ^ 128
