-- What a refused insert gives back: the value, what holds it, or the handle of the cell; and what a look shows.
use Rattle.either.specs.declared.Either.{Either}
use Rattle.pagable_typed.specs.declared.uninserted.Uninserted.{Uninserted}
use Rattle.pagable_value_spec.specs.declared.numbers.HandleNumber.{HandleNumber}
use Rattle.std.specs.{Arc.arc_value, Prelude.◌≡◌, declared.{alloc.Global.Global, sync.Arc.Arc}}

-- as an insert of the node gives it back
abbrev pub GivesBack : {T N : Type 0} → Uninserted T N → Either N HandleNumber → Type 0
GivesBack (Uninserted.Shared x) (Either.Left y) = x ≡ y
GivesBack (Uninserted.Handle h) (Either.Right k) = h ≡ k
GivesBack back given = ⊥

-- it is this value, or holds it; or it is the handle of a cell of which this holds
abbrev pub GivesValueBack : {T : Type 0} → (HandleNumber → Type 0) → T → Uninserted T (Arc T Global) → Type 0
GivesValueBack Stays y (Uninserted.Value z) = z ≡ y
GivesValueBack Stays y (Uninserted.Shared a) = arc_value a ≡ y
GivesValueBack Stays y (Uninserted.Handle h) = Stays h

-- the result that was made of some such value
pub record IsShownOf {T Y : Type 0} (Is : T → Type 0) (Shows : T → Y → Type 0) (y : Y) : Type 0 where
  pub value : T
  pub is : Is value
  pub shows : Shows value y
