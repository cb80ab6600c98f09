-- What holds of each item of a list.
use Rattle.std.proofs.{
  Common.{List, get_or, length, take, ℕ, [], ◌++◌, ◌+◌, ◌<◌, ◌∷◌, ◌≡◌},
  lemmas.List.take_more,
}
use Rattle.std.specs.List.{AllByRecursion as Each}

pub each_so : {X : Type 0} (P Q : X → Type 0) (xs : List X) → ((x : X) → P x → Q x) → Each P xs → Each Q xs
each_so P Q [] goes all = tt
each_so P Q (x ∷ xs) goes all = (goes x all.0, each_so P Q xs goes all.1)

-- what holds of each item and of one more
pub all_with : {X : Type 0} (P Q : X → Type 0) (x : X) → ((y : X) → P y → Q y) → Q x → (xs : List X) → Each P xs → Each Q (xs ++ x ∷ [])
all_with P Q x goes here [] all = (here, tt)
all_with P Q x goes here (y ∷ ys) all = (goes y all.0, all_with P Q x goes here ys all.1)

-- and of the items of a loop so far and of the next one
pub each_more : {X : Type 0} (P Q : X → Type 0) (xs : List X) (i : ℕ) (x : X) → i < length xs → x ≡ get_or xs i x → ((y : X) → P y → Q y)
    → Each P (take i xs) → Q x → Each Q (take (i + 1) xs)
each_more P Q xs i x h is goes all here = rw (take_more xs i x h, ← is) (all_with P Q x goes here (take i xs) all)

-- what holds of the items of two lists holds of those of both
pub each_append : {X : Type 0} (P : X → Type 0) (xs ys : List X) → Each P xs → Each P ys → Each P (xs ++ ys)
each_append P [] ys front behind = behind
each_append P (x ∷ xs) ys front behind = (front.0, each_append P xs ys front.1 behind)
