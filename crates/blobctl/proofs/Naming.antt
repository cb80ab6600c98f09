-- The blob that a word names.
use Rattle.blobctl.specs.{Digits.{HasDigits, IsNamed, begins}, Shown.ListsAll}
use Rattle.blobctl.specs.declared.find.FirstDigits.{FirstDigits}
use Rattle.pagable_file.specs.declared.listing.ListedBlob.{ListedBlob}
use Rattle.pagable_value_spec.specs.Blob.{Blob}
use Rattle.std.proofs.{
  Common.{Bool, IsSome, IsTrue, List, Option, ap, arith, false, get_or, if◌then◌else◌, length, map, refl, sym, true, ℕ, [], ◌<◌, ◌∙◌, ◌∷◌, ◌≡◌, ◌≤◌},
  lemmas.{Bool.false≢true, List.Elements.{All-contains, All-from_recursion, All-map}},
}
use Rattle.std.specs.List.{AllByRecursion as Each, filter}

-- what a test passes passes the test
all_pass : {A : Type 0} (test : A → Bool) (xs : List A) → Each (λ x. IsTrue (test x)) (filter test xs)
all_pass test [] = tt
all_pass test (x ∷ xs) = go (test x) refl (all_pass test xs)
  where
    go : (b : Bool) → test x ≡ b → Each (λ y. IsTrue (test y)) (filter test xs) → Each (λ y. IsTrue (test y)) (if b then x ∷ filter test xs else filter test xs)
    go true e rest = (e, rest)
    go false e rest = rest

-- what holds of what passes holds of each if it passes
each_if : {A : Type 0} (P : A → Type 0) (test : A → Bool) (xs : List A) → Each P (filter test xs) → Each (λ x. IsTrue (test x) → P x) xs
each_if P test [] all = tt
each_if P test (x ∷ xs) all = go (test x) refl (each_if P test xs) all
  where
    go : (b : Bool) → test x ≡ b → (Each P (filter test xs) → Each (λ y. IsTrue (test y) → P y) xs)
        → Each P (if b then x ∷ filter test xs else filter test xs) → Each (λ y. IsTrue (test y) → P y) (x ∷ xs)
    go true e rest h = ((λ _. h.0), rest h.1)
    go false e rest h = ((λ t. absurd (false≢true (sym e ∙ t))), rest h)

-- a list of one item
pub one_item : {A : Type 0} (xs : List A) (x : A) → 1 ≤ length xs → length xs < 2 → x ≡ get_or xs 0 x → xs ≡ x ∷ []
one_item [] x some few is = absurd (omega arith)
one_item (y ∷ []) x some few is = ap (λ z. z ∷ []) (sym is)
one_item (y ∷ (z ∷ zs)) x some few is = absurd (omega arith)

-- where one blob of all passes, no other key does
pub only_named : (blobs : ℕ → Option Blob) (listed : List ListedBlob) (word : List ℕ) (digits : FirstDigits) (it : ListedBlob) → HasDigits word digits
    → ListsAll blobs listed → filter (λ x. begins digits x.key) listed ≡ it ∷ [] → IsNamed blobs word it.key
only_named blobs listed word digits it has all one =
    let test = λ (x : ListedBlob). begins digits x.key in
    let passes = rw one at (all_pass test listed) in
    let same = each_if (λ (x : ListedBlob). x.key ≡ it.key) test listed (rw one (refl, tt)) in
    let each = All-map (λ k. IsTrue (begins digits k) → k ≡ it.key) (λ (x : ListedBlob). x.key) listed (All-from_recursion _ listed same) in (
      digits,
      has,
      record {
        is = passes.0;
        only = λ other there begun. All-contains (λ k. IsTrue (begins digits k) → k ≡ it.key) (map (λ (x : ListedBlob). x.key) listed) other each (all other there) begun;
      },
    )
