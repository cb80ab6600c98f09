-- What references of all sorts return of the values that they refer to, and of the keys of their cells.
use Rattle.pagable_traits.specs.{Clauses.Piece, declared.storage.FirstHandle.FirstHandle}
use Rattle.pagable_value_spec.specs.{
  Meaning.Meaning,
  Shape.Shape,
  Writing.{Refused, WritesSome},
  declared.{data_key.OptionalDataKey.OptionalDataKey, error.Error.Error},
  declared.numbers.{ArcRef.ArcRef, HandleNumber.HandleNumber},
}
use Rattle.std.specs.Prelude.{Bool, Err, IfSome, Ok, Option, Result, Some, false, option_and_then, true, ℕ, ◌≡◌}

-- the value is the one of the handle's node, if the storage tells the values of its handles
abbrev pub IsValueOfHandle : {N T : Type 0} → (N → Option T) → Option (ℕ → Option N) → ℕ → T → Type 0
IsValueOfHandle held nodes handle x = IfSome nodes (λ at. option_and_then held (at handle) ≡ Some x)

-- the mode of the first handle of a new node, by a pin or by a shared reference
abbrev pub first_handle_of : Bool → FirstHandle
first_handle_of true = FirstHandle.Pinned
first_handle_of false = FirstHandle.Shared

-- this was returned for some node that holds the value
pub record IsInserted {N T : Type 0} (held : N → Option T) (value : T) (returned : N → Type 0) : Type 0 where
  pub node : N
  pub holds : held node ≡ Some value
  pub inserted : returned node

-- a pin by a clone of the handle: what the storage returned for the clone, which it had returned for the handle
pub record IsPinOfClone (clones pins : HandleNumber → HandleNumber → Type 0) (handle pin : HandleNumber) : Type 0 where
  pub clone : HandleNumber
  pub cloned : clones handle clone
  pub pinned : pins clone pin

-- some node that was read as the relation says holds the value
pub record HoldsRead {N T : Type 0} (held : N → Option T) (value : T) (read_as : N → Type 0) : Type 0 where
  pub node : N
  pub read : read_as node
  pub holds : held node ≡ Some value

-- whether a cell has to be paged out, by the storage's answer for its key: it has to if it has no key
abbrev pub needs_by : Result OptionalDataKey Error → Result Bool Error
needs_by (Ok OptionalDataKey.None) = Ok true
needs_by (Ok (OptionalDataKey.Some key)) = Ok false
needs_by (Err e) = Err e

-- the result is made in this way from an answer that the storage may give for the key of the handle's cell
pub record NeedsByKey (answers : Result OptionalDataKey Error → Type 0) (result : Result Bool Error) : Type 0 where
  pub key : Result OptionalDataKey Error
  pub answered : answers key
  pub needs : result ≡ needs_by key

-- a reference with a key of its own asks its storage; another never needs paging out
abbrev pub NeedsPagingOut : Bool → (Result OptionalDataKey Error → Type 0) → Result Bool Error → Type 0
NeedsPagingOut true answers result = NeedsByKey answers result
NeedsPagingOut false answers result = result ≡ Ok false

-- a reference with a key of its own sets it in its storage; another does nothing
abbrev pub SetsKey : Bool → (Result (Unit {0}) Error → Type 0) → Result (Unit {0}) Error → Type 0
SetsKey true sets result = sets result
SetsKey false sets result = result ≡ Ok tt

-- any error, if the value had to be pinned first; else what the error says of the value
abbrev pub LacksForm : {X : Type 0} → Bool → (X → Type 0) → (X → Error → Type 0) → Error → Type 0
LacksForm true IsReferred lacks e = Unit {0}
LacksForm {X} false IsReferred lacks e = (x : X) × IsReferred x × lacks x e

abbrev pub any_cause_if : Bool → (Error → Type 0) → Error → Type 0
any_cause_if true causes e = Unit {0}
any_cause_if false causes e = causes e

-- a form of the value that a reference refers to
abbrev pub form_of_referred : {X : Type 0} → Bool → (X → Type 0) → (X → Meaning ArcRef → Type 0) → Shape → Piece
form_of_referred {X} pages IsReferred means shape = record {
  wrote = λ n old new. (x : X) × IsReferred x × WritesSome (means x) n shape old new;
  lacks = λ n e. LacksForm pages IsReferred (λ x. Refused (means x) n shape) e;
}

-- any cause
abbrev pub any_error_allowed : Error → Type 0
any_error_allowed e = Unit {0}
