-- Why every load ends: each step lowers a number. And how it ends.
use Rattle.pagable_load.specs.declared.reading.LoadOutcome.{LoadOutcome}
use Rattle.pagable_pager_spec.specs.World.{Frame}
use Rattle.pagable_value_spec.specs.declared.error.Error.{Error}
use Rattle.std.specs.{
  Prelude.{Bool, Err, List, None, Ok, Option, Result, Some, false, length, suc, true, zero, ℕ, [], ◌*◌, ◌+◌, ◌-◌, ◌<◌},
  Prelude.{◌^◌, ◌∷◌, ◌≡◌},
}

-- how many references a blob still has to get; below: after the one that it waits for
abbrev pub left_in : Frame → ℕ
left_in f = length f.blob.keys - length f.got

abbrev pub left_behind : Frame → ℕ
left_behind f = length f.blob.keys - (length f.got + 1)

-- a blob has fewer references than this
abbrev pub many : ℕ
many = 2 ^ 64

-- the weight of a reference that may have k levels below it: more than all references of a blob with a level less
unfoldable pub weight : ℕ → ℕ
weight zero = 1
weight (suc k) = weight k * many

-- the weight of a reference of a blob above these frames, greatest for the root's
abbrev pub weight_on : List Frame → ℕ
weight_on fs = weight (129 - length fs)

abbrev pub waiting : List Frame → ℕ
waiting [] = 0
waiting (f ∷ fs) = left_behind f * weight_on fs + waiting fs + 1

-- the weight of all that is still to get, for the innermost blob and for those that wait
abbrev pub to_do : List Frame → ℕ
to_do [] = weight 129 * many
to_do (f ∷ fs) = left_in f * weight_on fs + waiting fs + 1

-- a load of a cell ends with a pin, one of a key with a value; a step that doesn't end the load leaves less to do
abbrev pub Leads : {N : Type 0} → Bool → List Frame → List Frame → Result (Option (LoadOutcome N)) Error → Type 0
Leads for_cell old new (Ok None) = to_do new < to_do old
Leads for_cell old new (Ok (Some (LoadOutcome.Pinned k read))) = for_cell ≡ true
Leads for_cell old new (Ok (Some (LoadOutcome.Read x))) = for_cell ≡ false
Leads for_cell old new (Ok (Some (LoadOutcome.Refused e))) = Unit {0}
Leads for_cell old new (Err e) = Unit {0}

pub record EndsOrLeavesLess {N : Type 0} (for_cell : Bool) (old new : List Frame)
    (r : Result (Option (LoadOutcome N)) Error) : Type 0 where
  pub leads : Leads for_cell old new r
