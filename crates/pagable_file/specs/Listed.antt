-- What a list of a file's blobs says of them.
use Rattle.blob_file.specs.{File.ListsBlobs, Rows.Body, declared.listing.ListedBlob.ListedBlob as FileEntry}
use Rattle.pagable_file.specs.declared.listing.ListedBlob.{ListedBlob}
use Rattle.std.specs.Prelude.{List, Option, map, ℕ, ◌≡◌}

-- the entry of a blob, of the file's entry
abbrev pub entry_of : FileEntry → ListedBlob
entry_of it = record { key = it.key; bytes = it.bytes; children = it.children }

-- each blob is listed, once, and no other, with its sizes
abbrev pub ListsStored : (ℕ → Option Body) → List ListedBlob → Type 0
ListsStored bodies all = (entries : List FileEntry) × ListsBlobs bodies entries × (all ≡ map entry_of entries)
