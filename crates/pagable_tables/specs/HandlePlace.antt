-- A place of the vector of handles as contracts see it, and an owner as a kind and a number.
use Rattle.pagable_pager_spec.specs.declared.handle_row.{HandleRow.HandleRow, Owner.Owner}
use Rattle.pagable_tables.specs.declared.place.OwnerKind.{OwnerKind}
use Rattle.std.specs.Prelude.{Bool, refl, ℕ, ◌≡◌}

pub record HandlePlace : Type 0 where
  pub row : HandleRow
  pub is_live : Bool

abbrev pub owner_in : OwnerKind → ℕ → Owner
owner_in OwnerKind.Caller n = Owner.Caller
owner_in OwnerKind.Value n = Owner.Value (record { 0 = n })
owner_in OwnerKind.List n = Owner.List
owner_in OwnerKind.Load n = Owner.Load (record { 0 = n })
owner_in OwnerKind.Worker n = Owner.Worker (record { 0 = n })

abbrev pub kind_in : Owner → OwnerKind
kind_in Owner.Caller = OwnerKind.Caller
kind_in (Owner.Value n) = OwnerKind.Value
kind_in Owner.List = OwnerKind.List
kind_in (Owner.Load l) = OwnerKind.Load
kind_in (Owner.Worker v) = OwnerKind.Worker

-- the number of an owner, 0 if it has none
abbrev pub number_in : Owner → ℕ
number_in Owner.Caller = 0
number_in (Owner.Value n) = n.0
number_in Owner.List = 0
number_in (Owner.Load l) = l.0
number_in (Owner.Worker v) = v.0

pub kind-again : (k : OwnerKind) (n : ℕ) → kind_in (owner_in k n) ≡ k
kind-again OwnerKind.Caller n = refl
kind-again OwnerKind.Value n = refl
kind-again OwnerKind.List n = refl
kind-again OwnerKind.Load n = refl
kind-again OwnerKind.Worker n = refl
