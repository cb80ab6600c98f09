-- Why calls on a pager behind a lock fail: what the call and its arguments decide, whatever state the call finds.
use Rattle.pagable_value_spec.specs.declared.error.Error.{Error}
use Rattle.std.specs.Prelude.{ℕ, ◌≡◌}

-- the storage fails, or memory runs out
abbrev pub IsOfStorage : Error → Type 0
IsOfStorage Error.OutOfMemory = Unit {0}
IsOfStorage (Error.Storage code) = Unit {0}
IsOfStorage e = ⊥

-- the same, or there is no blob under the key that was asked for
abbrev pub IsOfFetch : ℕ → Error → Type 0
IsOfFetch key (Error.NoData absent) = absent ≡ key
IsOfFetch key Error.OutOfMemory = Unit {0}
IsOfFetch key (Error.Storage code) = Unit {0}
IsOfFetch key e = ⊥

-- the storage fails or memory runs out; or another blob is stored under the key, or the storage is closed
abbrev pub IsOfStore : Error → Type 0
IsOfStore Error.KeyTaken = Unit {0}
IsOfStore Error.Closed = Unit {0}
IsOfStore Error.OutOfMemory = Unit {0}
IsOfStore (Error.Storage code) = Unit {0}
IsOfStore e = ⊥

-- the handle isn't live
abbrev pub IsOfQuery : Error → Type 0
IsOfQuery Error.NoSuchHandle = Unit {0}
IsOfQuery e = ⊥

-- no number is left, or memory runs out
abbrev pub IsOfGrowth : Error → Type 0
IsOfGrowth Error.NumbersSpent = Unit {0}
IsOfGrowth Error.OutOfMemory = Unit {0}
IsOfGrowth e = ⊥

-- the handle isn't live, is another's, or has another mode
abbrev pub IsOfMode : Error → Type 0
IsOfMode Error.NoSuchHandle = Unit {0}
IsOfMode Error.NotYours = Unit {0}
IsOfMode Error.WrongMode = Unit {0}
IsOfMode e = ⊥

-- the same, or the list can't grow
abbrev pub IsOfListing : Error → Type 0
IsOfListing Error.NoSuchHandle = Unit {0}
IsOfListing Error.NotYours = Unit {0}
IsOfListing Error.WrongMode = Unit {0}
IsOfListing Error.OutOfMemory = Unit {0}
IsOfListing e = ⊥

-- the handle isn't live or is another's, or a cell can't be listed
abbrev pub IsOfRelease : Error → Type 0
IsOfRelease Error.NoSuchHandle = Unit {0}
IsOfRelease Error.NotYours = Unit {0}
IsOfRelease Error.NumbersSpent = Unit {0}
IsOfRelease Error.OutOfMemory = Unit {0}
IsOfRelease e = ⊥

-- the same, or the handle has another mode
abbrev pub IsOfUnpin : Error → Type 0
IsOfUnpin Error.NoSuchHandle = Unit {0}
IsOfUnpin Error.NotYours = Unit {0}
IsOfUnpin Error.WrongMode = Unit {0}
IsOfUnpin Error.NumbersSpent = Unit {0}
IsOfUnpin Error.OutOfMemory = Unit {0}
IsOfUnpin e = ⊥

-- the same, or its node is of another type
abbrev pub IsOfOffer : Error → Type 0
IsOfOffer Error.NoSuchHandle = Unit {0}
IsOfOffer Error.NotYours = Unit {0}
IsOfOffer Error.WrongMode = Unit {0}
IsOfOffer Error.WrongKind = Unit {0}
IsOfOffer Error.NumbersSpent = Unit {0}
IsOfOffer Error.OutOfMemory = Unit {0}
IsOfOffer e = ⊥
