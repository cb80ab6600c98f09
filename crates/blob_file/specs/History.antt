-- Which keys names were made to stand for, in this order.
use Rattle.std.specs.Prelude.{ℕ, List, [], ◌∷◌, ◌++◌, Option}
use Rattle.std.specs.String.{string_bytes}
use Rattle.sqlite_disk.specs.declared.Disk.{Ghosts}
use Rattle.blob_file.specs.Format.{recovered, rows_of}
use Rattle.blob_file.specs.Rows.{names_in}
use Rattle.blob_file.specs.declared.file.BlobFile.{BlobFile}
use Rattle.blob_file.specs.declared.history.NameRow.{NameRow}

-- what batches say of names
unfoldable pub names_told : List (List ℕ) → List (List ℕ × Option ℕ)
names_told [] = []
names_told (b ∷ bs) = names_in (rows_of b) ++ names_told bs

-- a name, and the key that it was given
abbrev pub said_by : NameRow → List ℕ × Option ℕ
said_by it = (string_bytes it.name, it.key)

-- what the file's batches say of names, and then what is held
abbrev pub history_of : {D : Type 0} → Ghosts D → BlobFile D → List (List ℕ × Option ℕ)
history_of g it = names_told (recovered (g.seen it.log.disk)) ++ names_in it.rows.items
