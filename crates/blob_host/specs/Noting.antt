-- What a list of calls says of one.
use Rattle.blob_host.specs.declared.call.Call.{Call}
use Rattle.sqlite_disk.specs.Events.{Event}
use Rattle.std.specs.Prelude.{ℕ, List, ◌∷◌, Option, Some, None}

-- the bytes of a call, behind the key and the digest of a read that is tested
abbrev pub with_test : Option (ℕ × ℕ) → List ℕ → List ℕ
with_test None bytes = bytes
with_test (Some test) bytes = test.0 ∷ test.1 ∷ bytes

-- a call with its answer and these bytes, as the model of a disk has it
abbrev pub event_of : Call → List ℕ → Event
event_of call bytes = (call.kind, call.at, call.count, call.is_ok, with_test call.test bytes)
