-- What is at the places of a list after some are added or removed at its end, and at those of a chunk without a row.
use Rattle.pagable_tables.specs.{NumberTable.{chunk_capacity, place_at, row_by, row_in}, declared.number_table.NumberTable.NumberTable}
use Rattle.std.proofs.Common.{List, None, Option, Some, ap, arith, length, refl, set, subst, suc, sym, vec_capacity, zero, ℕ, []}
use Rattle.std.proofs.Common.{◌%◌, ◌*◌, ◌++◌, ◌+◌, ◌/◌, ◌<◌, ◌∙◌, ◌∷◌, ◌≡◌, ◌≤◌}
use Rattle.std.specs.{Global.Vec, List.FoldsTo, Option.{IsSome, option_and_then, option_map_or}, Prelude.{slice_get, take}}

-- nothing stands at the places that come
pub more : {F X Y : Type 0} {step : F → X → F → Type 0} (v : X → Option Y) (xs ys : List X) (f last : F) → FoldsTo step f ys last
    → ((f g : F) (x : X) → step f x g → v x ≡ None)
    → (q : ℕ) → option_and_then v (slice_get (xs ++ ys) q) ≡ option_and_then v (slice_get xs q)
more v [] [] f last folds none q = refl
more v [] (y ∷ ys) f last (g, is, folds) none zero = none f g y is
more v [] (y ∷ ys) f last (g, is, folds) none (suc q) = more v [] ys g last folds none q
more v (x ∷ xs) ys f last folds none zero = refl
more v (x ∷ xs) ys f last folds none (suc q) = more v xs ys f last folds none q

-- nor at those that go
pub less : {X Y : Type 0} (v : X → Option Y) (xs : List X) (k : ℕ) → ((q : ℕ) → k ≤ q → option_and_then v (slice_get xs q) ≡ None)
    → (q : ℕ) → option_and_then v (slice_get (take k xs) q) ≡ option_and_then v (slice_get xs q)
less v [] zero none q = refl
less v [] (suc k) none q = refl
less v (x ∷ xs) zero none q = sym (none q (omega arith))
less v (x ∷ xs) (suc k) none zero = refl
less v (x ∷ xs) (suc k) none (suc q) = less v xs k (λ p h. none (suc p) (omega arith)) q

pub within : {X : Type 0} (xs : List X) (q : ℕ) → suc q ≤ length xs → IsSome (slice_get xs q)
within [] q h = absurd (omega arith)
within (x ∷ xs) zero h = refl
within (x ∷ xs) (suc q) h = within xs q (omega arith)

-- where no number of a chunk has a row, no place of it does
pub chunk-bare : {T : Type 0} (t : NumberTable T) (n : ℕ) (rows : Vec (Option T)) → slice_get t.chunks.items (n / 256) ≡ Some rows
    → ((q : ℕ) → q / 256 ≡ n / 256 → row_by t q ≡ None) → (p : ℕ) → p < 256 → row_in rows.items p ≡ None
unfolding place_at row_by
chunk-bare {T} t n rows at none p within =
    let q : ℕ = n / 256 * 256 + p in
    let chunk : q / 256 ≡ n / 256 = omega arith in
    let place : q % 256 ≡ p = omega arith in
    let row : Option (Vec (Option T)) → ℕ → Option T = λ found k. option_and_then (λ r. r) (option_and_then (λ rows. slice_get rows.items k) found) in
    let e : row (slice_get t.chunks.items (q / 256)) (q % 256) ≡ None = none q chunk in
    subst (λ found. row found p ≡ None) at
    (subst (λ k. row (slice_get t.chunks.items (n / 256)) k ≡ None) place (subst (λ k. row (slice_get t.chunks.items k) (q % 256) ≡ None) chunk e))

set-there : {X : Type 0} (xs : List X) (i : ℕ) (w : X) → IsSome (slice_get xs i) → slice_get (set xs i w) i ≡ Some w
set-there [] zero w there = absurd (cc)
set-there [] (suc i) w there = absurd (cc)
set-there (x ∷ xs) zero w there = refl
set-there (x ∷ xs) (suc i) w there = set-there xs i w there

then-some : {X Y : Type 0} (f : X → Option Y) (o : Option X) → IsSome (option_and_then f o) → IsSome o
then-some f None there = there
then-some f (Some x) there = refl

-- the chunk at a number's place is replaced by one that has no memory if it has no row; so it has none if no number of the chunk has a row
pub freed-chunk : {T : Type 0} (t new : NumberTable T) (n k : ℕ) (rows old : Vec (Option T)) → k ≡ n / 256 → IsSome (place_at t n)
    → new.chunks.items ≡ set t.chunks.items k rows
    → ((p : ℕ) → p < 256 → row_in rows.items p ≡ row_in old.items p)
    → (((p : ℕ) → p < 256 → row_in old.items p ≡ None) → vec_capacity rows ≡ 0)
    → ((q : ℕ) → q / 256 ≡ n / 256 → row_by new q ≡ None) → chunk_capacity new n ≡ 0
unfolding place_at
freed-chunk t new n k rows old is ready made kept freed none =
    let chunk = then-some (λ rows. slice_get rows.items (n % 256)) (slice_get t.chunks.items (n / 256)) ready in
    let set-at : slice_get (set t.chunks.items k rows) (n / 256) ≡ Some rows =
    subst (λ j. slice_get (set t.chunks.items j rows) (n / 256) ≡ Some rows) (sym is) (set-there t.chunks.items (n / 256) rows chunk) in
    let at : slice_get new.chunks.items (n / 256) ≡ Some rows = subst (λ l. slice_get l (n / 256) ≡ Some rows) (sym made) set-at in
    ap (λ o. option_map_or vec_capacity o 0) at ∙ freed (λ p lt. sym (kept p lt) ∙ chunk-bare new n rows at none p lt)
