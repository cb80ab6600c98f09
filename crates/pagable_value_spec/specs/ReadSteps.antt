-- Steps that may fail, one after another.
use Rattle.pagable_value_spec.specs.declared.error.Error.{Error}
use Rattle.std.specs.Prelude.{Err, Ok, Result}

-- The second step takes what the first returned; if the first fails, so does the whole, with the same error.
infixl 10 ◌>>=◌
abbrev pub ◌>>=◌ : {A B : Type 0} → Result A Error → (A → Result B Error) → Result B Error
(Ok x) >>= f = f x
(Err e) >>= f = Err e
