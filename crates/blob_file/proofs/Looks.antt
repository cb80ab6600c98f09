-- Where the batches that a file stands for end, whatever stands behind them.
use Rattle.std.proofs.Common.{◌≡◌, ◌⊎◌, inl, inr, refl, sym, ◌∙◌, ap, ap₂, ℕ, zero, suc, ◌+◌, ◌≤◌, ◌<◌, Bool, if◌then◌else◌, List, [], None, Some}
use Rattle.std.proofs.Common.{◌++◌, length, take, drop, arith, length-append, length-take, subst, take-add}
use Rattle.std.proofs.lemmas.Bool.{cases_Bool}
use Rattle.std.proofs.lemmas.Slice.Eq.{bytes_eq-Decides}
use Rattle.blob_file.specs.Format.{header, is_open, is_made, batches, recovered, joined, size_of, AreBatches}
use Rattle.blob_file.specs.Rows.{AreFormed, blobs_in, nowhere, places_in, placed, size_of_place}
use Rattle.blob_file.proofs.Placing.{AllKnown, placed_known, places_within}
use Rattle.blob_file.proofs.Scans.{batch_there, batches_end, batches_next, length_front}

-- the batches at the front, one behind the other, are the bytes at the front
batches_front : (n : ℕ) (r : List ℕ) → AreBatches (batches n r) × (take (length (joined (batches n r))) r ≡ joined (batches n r))
unfolding batches joined
batches_front zero r = (tt, refl)
batches_front (suc n) r = elim (cases_Bool (is_open r)) [
  | inr shut ↦ rw (batches_end (suc n) r shut) (tt, refl)
  | inl opens ↦
      let more = batches_front n (drop (size_of r) r) in
      let first = take (size_of r) r in
      let rest = joined (batches n (drop (size_of r) r)) in
      let long : length (first ++ rest) ≡ size_of r + length rest = omega (arith, length-append first rest, length_front r opens) in
      rw (batches_next n r opens) (
        (batch_there r opens, more.0),
        ap (λ (k : ℕ). take k r) long ∙ take-add (size_of r) (length rest) r ∙ ap (λ (l : List ℕ). first ++ l) more.1,
      )
]

-- they are whole
pub all_batches : (file : List ℕ) → AreBatches (recovered file)
unfolding recovered
all_batches file = elim (cases_Bool (is_made file)) [
  | inl made ↦ rw made (batches_front (length file) (drop 16 file)).0
  | inr other ↦ rw other tt
]

-- and stand behind the header, if there are any
pub batches_stand : (file : List ℕ)
    → (recovered file ≡ []) ⊎ (take (16 + length (joined (recovered file))) file ≡ header ++ joined (recovered file))
unfolding recovered
batches_stand file = elim (cases_Bool (is_made file)) [
  | inr other ↦ inl (ap (λ (t : Bool). if t then batches (length file) (drop 16 file) else []) other)
  | inl made ↦
      let bs = batches (length file) (drop 16 file) in
      rw made (inr (take-add 16 (length (joined bs)) file
      ∙ ap₂ (λ (x y : List ℕ). x ++ y) ((bytes_eq-Decides (take 16 file) header).0 made) (batches_front (length file) (drop 16 file)).1))
]

-- the same, up to the place where they end
pub front_there : (gate : ℕ) (file : List ℕ) → gate ≡ 16 + length (joined (recovered file))
    → (recovered file ≡ []) ⊎ (take gate file ≡ header ++ joined (recovered file))
front_there gate file place = subst (λ (k : ℕ). (recovered file ≡ []) ⊎ (take k file ≡ header ++ joined (recovered file))) (sym place) (batches_stand file)

-- each place in a file ends within it
places_there : (file : List ℕ) → AreFormed (recovered file) → AllKnown (λ p. p.at + size_of_place p ≤ length file) (places_in 16 (recovered file) nowhere)
unfolding places_in
places_there file formed q p found = elim (batches_stand file) [
  | inl none ↦ absurd (let it : None ≡ Some p = sym (ap (λ (bs : List (List ℕ)). places_in 16 bs nowhere q) none) ∙ found in cc)
  | inr front ↦ omega (
    arith,
    places_within (recovered file) (all_batches file) formed q p found,
    ap (λ (l : List ℕ). length l) front,
    length-take (16 + length (joined (recovered file))) file,
    length-append header (joined (recovered file)),
  )
]

-- and so does each that isn't held
pub in_file : (file rows : List ℕ) (first : ℕ) → AreFormed (recovered file)
    → AllKnown (λ p. p.at < first → p.at + size_of_place p ≤ length file) (placed first (blobs_in rows) (places_in 16 (recovered file) nowhere))
in_file file rows first formed = placed_known (λ p. p.at < first → p.at + size_of_place p ≤ length file) first (blobs_in rows)
    (places_in 16 (recovered file) nowhere)
    (λ q p found low. places_there file formed q p found) (λ p high end low. absurd (omega (arith, high, low)))
