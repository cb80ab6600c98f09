-- The names of handles, and what a command does to them.
use Rattle.named_texts.specs.declared.{
  command.Command.{Command, TheVariants.{Clone, New, PageOut, Pending, Pin, Release, RunVerb}},
  names.Names.Names,
}
use Rattle.pagable_value_spec.specs.declared.numbers.HandleNumber.{HandleNumber}
use Rattle.std.specs.{
  Global.Global,
  HashMap.get_by_text,
  Prelude.{IsSome, List, None, OnOk, Option, Result, Some, String, string_bytes, ℕ, ◌<◌, ◌≡◌, ◌≢◌},
  Result.MatchResult,
}

-- nothing has the name
abbrev pub IsFree : List ℕ → Names → Type 0
IsFree name names = get_by_text names.handles name ≡ None

-- each name has the handle that it had, if any
abbrev pub SameNames : Names → Names → Type 0
SameNames old new = (name : String Global) → get_by_text new.handles (string_bytes name)
    ≡ get_by_text old.handles (string_bytes name)

-- each name but this one has the handle that it had
abbrev pub KeepsOtherNames : List ℕ → Names → Names → Type 0
KeepsOtherNames name old new = (other : String Global) → string_bytes other ≢ name
    → get_by_text new.handles (string_bytes other) ≡ get_by_text old.handles (string_bytes other)

-- the name was free and has a handle now, and each other has the handle that it had
abbrev pub IsNamed : List ℕ → Names → Names → Type 0
IsNamed name old new = IsFree name old × IsSome (get_by_text new.handles name) × KeepsOtherNames name old new

-- if a call succeeds, its new name is given; if it fails, each name has the handle that it had
abbrev pub GivesName : {A E : Type 0} → List ℕ → Result A E → Names → Names → Type 0
GivesName name answer old new = MatchResult answer (λ a. IsNamed name old new) (λ e. SameNames old new)

-- the second handle was made after the first
abbrev pub IsLater : Option HandleNumber → Option HandleNumber → Type 0
IsLater (Some first) (Some second) = first.0 < second.0
IsLater _ _ = ⊥

-- the new name's handle was made after that of the cloned name
abbrev pub HasLaterHandle : List ℕ → List ℕ → Names → Names → Type 0
HasLaterHandle name given old new = IsLater (get_by_text old.handles name) (get_by_text new.handles given)

-- what a command does to the names, whatever it answers
abbrev pub Serves : {A E : Type 0} → Command → Result A E → Names → Names → Type 0
Serves (New name text) answer old new = GivesName name.now answer old new
Serves (Pin name given) answer old new = GivesName given.now answer old new
Serves (Clone name given) answer old new = GivesName given.now answer old new
    × OnOk answer (HasLaterHandle name.now given.now old new)
Serves (Release name) answer old new = IsFree name.now new × KeepsOtherNames name.now old new
Serves (RunVerb verb name) answer old new = SameNames old new
Serves Pending answer old new = SameNames old new
Serves PageOut answer old new = SameNames old new
