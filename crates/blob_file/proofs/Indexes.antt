-- How the rows of a batch are taken into an index.
use Rattle.std.proofs.Common.{◌≡◌, refl, ◌∙◌, ap, ℕ, ◌+◌, ◌-◌, ◌≤◌, List, [], ◌∷◌, take, drop, arith}
use Rattle.std.proofs.Common.{take-take, Option, Some, cond, nat_eq}
use Rattle.std.specs.Map.{update}
use Rattle.std.specs.Str.{bytes_eq}
use Rattle.std.proofs.lemmas.List.{drop-take}
use Rattle.sqlite_wal.specs.Format.{part}
use Rattle.blob_file.specs.Rows.{row_of, size_of_row, place_at, placed, told}
use Rattle.blob_file.specs.declared.rows.Row.{Row}
use Rattle.blob_file.specs.declared.rows.Place.{Place}

-- what is known goes through by its values alone
pub placed_same : (at : ℕ) (rs : List Row) (m n : ℕ → Option Place) → ((q : ℕ) → m q ≡ n q) → (q : ℕ) → placed at rs m q ≡ placed at rs n q
unfolding placed
placed_same at [] m n same q = same q
placed_same at (r ∷ rs) m n same q =
    placed_same (at + size_of_row r) rs (update nat_eq m r.key (Some (place_at at r))) (update nat_eq n r.key (Some (place_at at r)))
    (λ k. ap (λ (x : Option Place). cond (nat_eq r.key k) (Some (place_at at r)) x) (same k)) q

-- a part of the first bytes
pub part_of_front : (b : List ℕ) (n at k : ℕ) → at + k ≤ n → part (take n b) at k ≡ part b at k
unfolding part
part_of_front b n at k within =
    let parts : n ≡ at + (n - at) = omega arith in
    ap (λ (x : ℕ). take k (drop at (take x b))) parts ∙ ap (take k) (drop-take at (n - at) b) ∙ take-take k (n - at) (drop at b) (omega arith)

pub row_of_front : (b : List ℕ) → row_of (take 24 b) ≡ row_of b
unfolding row_of
row_of_front b = rw (part_of_front b 24 0 16 (omega arith), part_of_front b 24 16 4 (omega arith), part_of_front b 24 20 4 (omega arith)) refl

-- the same of names
pub told_same : (ns : List (List ℕ × Option ℕ)) (m n : List ℕ → Option ℕ) → ((q : List ℕ) → m q ≡ n q) → (q : List ℕ) → told ns m q ≡ told ns n q
unfolding told
told_same [] m n same q = same q
told_same (x ∷ xs) m n same q =
    told_same xs (update bytes_eq m x.0 x.1) (update bytes_eq n x.0 x.1) (λ k. ap (λ (v : Option ℕ). cond (bytes_eq x.0 k) x.1 v) (same k)) q
