-- What is found by a name.
use Rattle.pagable_core.specs.{Data.blob_of, declared.storage.data.PagableData.PagableData}
use Rattle.pagable_value_spec.specs.Blob.{Blob}
use Rattle.std.specs.{Arc.arc_value, Global.Global, Prelude.{None, Option, Some, option_map, ℕ}, declared.sync.Arc.Arc}

-- the key that a name stands for, with the blob under it; None if there is no key, or no blob under it
abbrev pub named_blob : Option ℕ → (ℕ → Option Blob) → Option (ℕ × Blob)
named_blob None stored = None
named_blob (Some key) stored = option_map (λ blob. (key, blob)) (stored key)

-- what was found by a name, with the blob viewed
abbrev pub found_blob : Option (ℕ × Arc PagableData Global) → Option (ℕ × Blob)
found_blob found = option_map (λ f. (f.0, blob_of (arc_value f.1))) found
