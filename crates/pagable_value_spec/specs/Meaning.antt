-- What a value means, apart from how it is kept or written.
use Rattle.std.specs.Prelude.{Bool, List, false, true, ℕ, ℤ, [], ◌∷◌}

-- A stands for a reference: the handle that a value holds, a key, or nothing (⊥) if each reference is followed.
pub data Meaning (A : Type 0) : Type 0 where
  -- a whole number without a sign (a character is its code), and one with a sign
  number : ℕ → Meaning A
  integer : ℤ → Meaning A
  -- the bytes of a text, and of a pattern
  text pattern : List ℕ → Meaning A
  -- no value, and the end of a list
  none : Meaning A
  -- a first part and the rest
  pair : Meaning A → Meaning A → Meaning A
  -- the number of a case, with its part
  variant : ℕ → Meaning A → Meaning A
  reference : A → Meaning A
  -- a reference that is followed: its kind, and what the value means that it leads to
  followed : ℕ → Meaning A → Meaning A

abbrev pub sequence : {A : Type 0} → List (Meaning A) → Meaning A
sequence [] = none
sequence (m ∷ ms) = pair m (sequence ms)

-- an entry of a map
abbrev pub entry : {A : Type 0} → Meaning A × Meaning A → Meaning A
entry e = pair e.0 e.1

abbrev pub flag : {A : Type 0} → Bool → Meaning A
flag false = variant 0 none
flag true = variant 1 none

-- no value, and some value
abbrev pub absent : {A : Type 0} → Meaning A
absent = variant 0 none

abbrev pub present : {A : Type 0} → Meaning A → Meaning A
present m = variant 1 m

-- the two cases of a result
abbrev pub failure : {A : Type 0} → Meaning A → Meaning A
failure m = variant 0 m

abbrev pub success : {A : Type 0} → Meaning A → Meaning A
success m = variant 1 m

-- the meaning with f applied to what stands for each reference
unfoldable pub rename : {A B : Type 0} → (A → B) → Meaning A → Meaning B
rename f (number n) = number n
rename f (integer z) = integer z
rename f (text t) = text t
rename f (pattern t) = pattern t
rename f none = none
rename f (pair a b) = pair (rename f a) (rename f b)
rename f (variant n a) = variant n (rename f a)
rename f (reference a) = reference (f a)
rename f (followed kind a) = followed kind (rename f a)

-- the meaning with each reference that isn't followed replaced by none
unfoldable pub plain : {A : Type 0} → Meaning A → Meaning ⊥
plain (number n) = number n
plain (integer z) = integer z
plain (text t) = text t
plain (pattern t) = pattern t
plain none = none
plain (pair a b) = pair (plain a) (plain b)
plain (variant n a) = variant n (plain a)
plain (reference a) = none
plain (followed kind a) = followed kind (plain a)

-- a meaning without unfollowed references, as one that may have them
abbrev pub lifted : {A : Type 0} → Meaning ⊥ → Meaning A
lifted m = rename absurd m
