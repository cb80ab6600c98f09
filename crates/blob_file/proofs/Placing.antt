-- Where the blobs of sound batches stand, and of those that are held: within the batches, and within the bodies.
use Rattle.std.proofs.Common.{◌≡◌, ◌⊎◌, inl, inr, refl, sym, ◌∙◌, ap, ℕ, ◌+◌, ◌-◌, ◌<◌, ◌≤◌, Bool, if◌then◌else◌}
use Rattle.std.proofs.Common.{List, [], ◌∷◌, ◌++◌, length, take, arith, length-append, Option, Some, None, cond, nat_eq}
use Rattle.std.specs.Prelude.{option_map}
use Rattle.std.specs.Map.{update}
use Rattle.std.proofs.lemmas.Bool.{cases_Bool, le-leb, lt-leb}
use Rattle.sqlite_wal.specs.Format.{part}
use Rattle.sqlite_wal.proofs.PartLemmas.{length-part}
use Rattle.blob_file.specs.File.{body_bytes}
use Rattle.blob_file.specs.Format.{header, number, size_of, joined, IsBatch, AreBatches}
use Rattle.blob_file.specs.Rows.{Body, body_at, nowhere, places_in, placed, place_at, blobs_in, blobs_of_batch, size_of_place, size_of_row, total, AreFormed}
use Rattle.blob_file.specs.Rows.{AreWhole}
use Rattle.blob_file.specs.declared.rows.Row.{Row}
use Rattle.blob_file.specs.declared.rows.Place.{Place}
use Rattle.blob_file.proofs.Indexes.{part_of_front}

-- each place that is known has the property
abbrev pub AllKnown : (Place → Type 0) → (ℕ → Option Place) → Type 0
AllKnown P known = (q : ℕ) (p : Place) → known q ≡ Some p → P p

update_known : (P : Place → Type 0) (known : ℕ → Option Place) (key : ℕ) (it : Place) → AllKnown P known → P it → AllKnown P (update nat_eq known key (Some it))
update_known P known key it all here q p found = elim (cases_Bool (nat_eq key q)) [
  | inl same ↦
      let is : Some it ≡ Some p = sym (ap (λ (t : Bool). cond t (Some it) (known q)) same) ∙ found in
      let same_place : it ≡ p = (cc) in
      rw (← same_place) here
  | inr other ↦ all q p (sym (ap (λ (t : Bool). cond t (Some it) (known q)) other) ∙ found)
]

pub placed_known : (P : Place → Type 0) (at : ℕ) (rs : List Row) (known : ℕ → Option Place) → AllKnown P known
    → ((p : Place) → at ≤ p.at → p.at + size_of_place p ≤ at + total rs → P p) → AllKnown P (placed at rs known)
unfolding placed total
placed_known P at [] known all new q p found = all q p found
placed_known P at (r ∷ rs) known all new q p found =
    placed_known P (at + size_of_row r) rs (update nat_eq known r.key (Some (place_at at r)))
    (update_known P known r.key (place_at at r) all (new (place_at at r) (omega arith) (omega arith)))
    (λ it low high. new it (omega arith) (omega arith)) q p found

batch_size : (b : List ℕ) → IsBatch b → 25 + number b 1 ≤ length b
unfolding size_of
batch_size b it = omega (arith, it.size)

places_end : (at bound : ℕ) (bs : List (List ℕ)) (known : ℕ → Option Place) → AllKnown (λ p. p.at + size_of_place p ≤ bound) known → AreBatches bs
    → AreFormed bs → at + length (joined bs) ≤ bound → AllKnown (λ p. p.at + size_of_place p ≤ bound) (places_in at bs known)
unfolding places_in joined
places_end at bound [] known all whole formed fits q p found = all q p found
places_end at bound (b ∷ bs) known all whole formed fits q p found =
    let first = batch_size b whole.0 in
    let more = length-append b (joined bs) in
    places_end (at + length b) bound bs (placed (at + 25) (blobs_of_batch b) known)
    (placed_known (λ p. p.at + size_of_place p ≤ bound) (at + 25) (blobs_of_batch b) known all
    (λ it low high. omega (arith, formed.0.sized, first, fits, more, high)))
    whole.1 formed.1 (omega (arith, fits, more)) q p found

-- the places of sound batches end within them
pub places_within : (bs : List (List ℕ)) → AreBatches bs → AreFormed bs
    → AllKnown (λ p. p.at + size_of_place p ≤ 16 + length (joined bs)) (places_in 16 bs nowhere)
places_within bs whole formed = places_end 16 (16 + length (joined bs)) bs nowhere (λ q p bad. absurd (let it : None ≡ Some p = bad in cc)) whole formed
    (omega arith)

-- a place in the file, or of a body that is held
abbrev pub IsHere : ℕ → ℕ → Place → Type 0
IsHere gate held p = (p.at + size_of_place p ≤ gate) ⊎ ((gate + 25 ≤ p.at) × (p.at + size_of_place p ≤ gate + 25 + held))

pub all_here : (gate held : ℕ) (bs : List (List ℕ)) (rows : List ℕ) → gate ≡ 16 + length (joined bs) → AreBatches bs → AreFormed bs → AreWhole held rows
    → AllKnown (IsHere gate held) (placed (gate + 25) (blobs_in rows) (places_in 16 bs nowhere))
all_here gate held bs rows place whole formed sized =
    placed_known (IsHere gate held) (gate + 25) (blobs_in rows) (places_in 16 bs nowhere)
    (λ q p found. inl (let low = places_within bs whole formed q p found in omega (arith, low, place)))
    (λ p low high. inr (low, omega (arith, high, sized.sized)))

-- the bytes of a place in the file
pub bytes_flushed : (file bodies : List ℕ) (first : ℕ) (p : Place) → p.at < first → body_bytes file bodies first p ≡ part file p.at (size_of_place p)
bytes_flushed file bodies first p low = ap (λ (t : Bool). if t then part bodies (p.at - first) (size_of_place p) else part file p.at (size_of_place p))
    (lt-leb first p.at low)

pub bytes_held : (file bodies : List ℕ) (first : ℕ) (p : Place) → first ≤ p.at → body_bytes file bodies first p ≡ part bodies (p.at - first) (size_of_place p)
bytes_held file bodies first p high = ap (λ (t : Bool). if t then part bodies (p.at - first) (size_of_place p) else part file p.at (size_of_place p))
    (le-leb first p.at high)

-- a body in the file is that of its batches
pub body_in_file : (file : List ℕ) (gate : ℕ) (bs : List (List ℕ)) (p : Place) → take gate file ≡ header ++ joined bs → p.at + size_of_place p ≤ gate
    → part file p.at (size_of_place p) ≡ (body_at (header ++ joined bs) p).bytes
body_in_file file gate bs p front within = sym (part_of_front file gate p.at (size_of_place p) within)
    ∙ ap (λ (l : List ℕ). part l p.at (size_of_place p)) front

-- two looks at the same places find the same bodies, if those of each known place are the same
pub same_bodies : (f g : Place → Body) (m n : ℕ → Option Place) (P : Place → Type 0) → ((q : ℕ) → m q ≡ n q) → AllKnown P n → ((p : Place) → P p → f p ≡ g p)
    → (q : ℕ) → option_map f (m q) ≡ option_map g (n q)
same_bodies f g m n P same all each q = ap (option_map f) (same q) ∙ go (n q) (λ p found. all q p found)
  where
    go : (o : Option Place) → ((p : Place) → o ≡ Some p → P p) → option_map f o ≡ option_map g o
    go None here = refl
    go (Some p) here = ap Some (each p (here p refl))

-- a body is as long as its place says
pub as_long : (file bodies : List ℕ) (gate : ℕ) (p : Place) → (p.at < gate + 25 → p.at + size_of_place p ≤ length file) → IsHere gate (length bodies) p
    → length (body_bytes file bodies (gate + 25) p) ≡ size_of_place p
as_long file bodies gate p within (inl low) =
    ap (λ (l : List ℕ). length l) (bytes_flushed file bodies (gate + 25) p (omega (arith, low)))
    ∙ length-part file p.at (size_of_place p) (within (omega (arith, low)))
as_long file bodies gate p within (inr high) =
    ap (λ (l : List ℕ). length l) (bytes_held file bodies (gate + 25) p high.0)
    ∙ length-part bodies (p.at - (gate + 25)) (size_of_place p) (omega (arith, high))
