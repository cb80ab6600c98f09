-- What the log of roots says.
use Rattle.pagable_file.specs.declared.root_log.LoggedRoot.{LoggedRoot}
use Rattle.std.specs.{Prelude.{List, Option, ℕ}, String.string_bytes}

-- a name, and the key that it was given
abbrev pub logged_by : LoggedRoot → List ℕ × Option ℕ
logged_by it = (string_bytes it.name, it.key)
