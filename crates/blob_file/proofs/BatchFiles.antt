-- Batches one behind the other, and what stands for them.
use Rattle.std.proofs.Common.{◌≡◌, ◌≢◌, refl, sym, ◌∙◌, ap, ap₂, subst, ℕ, zero, suc, ◌+◌, ◌-◌, ◌<◌, ◌≤◌, Bool, true, false, if◌then◌else◌, List, [], ◌∷◌, ◌++◌}
use Rattle.std.proofs.Common.{length, take, drop, arith, append_assoc, append-nil, length-append, take_at, drop_at, take-append-drop, get_or-take, get_or-drop}
use Rattle.std.proofs.Common.{ext_get_or, add-zero, length-take, take-add}
use Rattle.std.specs.Prelude.{slice_index}
use Rattle.std.specs.Int.{w64, from_le_bytes}
use Rattle.std.proofs.lemmas.Bool.{and_from, and_left, eq-eqb, ne_eqb, le-leb}
use Rattle.std.proofs.lemmas.List.{get_or_append_left}
use Rattle.sqlite_wal.specs.Format.{part}
use Rattle.sqlite_wal.proofs.PartLemmas.{same_parts}
use Rattle.blob_file.specs.Format.{header, number, size_of, is_open, batches, recovered, joined, IsBatch, AreBatches}
use Rattle.blob_file.specs.Log.{RestsAt, SameBelow}

-- what stands in front stays where more follows
pub part_front : (b r : List ℕ) (at n : ℕ) → at + n ≤ length b → part (b ++ r) at n ≡ part b at n
part_front b r at n within = same_parts (b ++ r) b at at n (omega (arith, length-append b r)) within λ i low. get_or_append_left b r 0 (at + i) (omega arith)

pub number_front : (b r : List ℕ) (at : ℕ) → at + 8 ≤ length b → number (b ++ r) at ≡ number b at
unfolding number
number_front b r at within = ap (from_le_bytes w64) (part_front b r at 8 within)

-- the head alone says how long a batch is
pub size_of-front : (b r : List ℕ) → 25 ≤ length b → size_of (b ++ r) ≡ size_of b
unfolding size_of
size_of-front b r long = ap₂ (λ (x y : ℕ). 25 + x + y) (number_front b r 1 (omega arith)) (number_front b r 9 (omega arith))

pub long_batch : (b : List ℕ) → IsBatch b → 25 ≤ length b
unfolding size_of
long_batch b it = omega (arith, it.size)

pub size_of_batch : (b r : List ℕ) → IsBatch b → size_of (b ++ r) ≡ length b
size_of_batch b r it = size_of-front b r (long_batch b it) ∙ it.size

pub open_batch : (b r : List ℕ) → IsBatch b → is_open (b ++ r) ≡ true
unfolding is_open
open_batch b r it =
    let long = long_batch b it in
    and_from _ _ (eq-eqb _ _ (get_or_append_left b r 0 0 (omega arith) ∙ it.gate)) (le-leb _ _ (omega (arith, size_of_batch b r it, length-append b r)))

pub shut_batch : (r : List ℕ) → slice_index r 0 ≢ 1 → is_open r ≡ false
unfolding is_open
shut_batch r shut = and_left _ _ (ne_eqb _ _ shut)

pub batches-step : (n : ℕ) (b r : List ℕ) → IsBatch b → batches (suc n) (b ++ r) ≡ b ∷ batches n r
unfolding batches
batches-step n b r it =
    let size = size_of_batch b r it in
    ap (λ (t : Bool). if t then take (size_of (b ++ r)) (b ++ r) ∷ batches n (drop (size_of (b ++ r)) (b ++ r)) else []) (open_batch b r it)
    ∙ ap₂ (λ (x y : List ℕ). x ∷ batches n y) (take_at b r (size_of (b ++ r)) (sym size)) (drop_at b r (size_of (b ++ r)) (sym size))

pub batches-shut : (n : ℕ) (r : List ℕ) → slice_index r 0 ≢ 1 → batches n r ≡ []
unfolding batches
batches-shut zero r shut = refl
batches-shut (suc n) r shut = ap (λ (t : Bool). if t then take (size_of r) r ∷ batches n (drop (size_of r) r) else []) (shut_batch r shut)

pub few_batches : (bs : List (List ℕ)) → AreBatches bs → length bs ≤ length (joined bs)
unfolding joined
few_batches [] all = omega arith
few_batches (b ∷ bs) all = omega (arith, few_batches bs all.1, long_batch b all.0, length-append b (joined bs))

pub batches-joined : (bs : List (List ℕ)) (n m : ℕ) (r : List ℕ) → n ≡ length bs + m → AreBatches bs → batches n (joined bs ++ r) ≡ bs ++ batches m r
unfolding joined
batches-joined [] n m r e all = ap (λ (k : ℕ). batches k r) (omega (arith, e))
batches-joined (b ∷ bs) zero m r e all = absurd (omega (arith, e))
batches-joined (b ∷ bs) (suc n) m r e all =
    ap (batches (suc n)) (append_assoc b (joined bs) r) ∙ batches-step n b (joined bs ++ r) all.0
    ∙ ap (λ (l : List (List ℕ)). b ∷ l) (batches-joined bs n m r (omega (arith, e)) all.1)

pub stands : (n : ℕ) (bs : List (List ℕ)) (r : List ℕ) → AreBatches bs → length bs ≤ n → slice_index r 0 ≢ 1 → batches n (joined bs ++ r) ≡ bs
stands n bs r all few shut =
    let m = n - length bs in
    batches-joined bs n m r (omega arith) all ∙ ap (λ (l : List (List ℕ)). bs ++ l) (batches-shut m r shut) ∙ append-nil bs

pub joined-push : (bs : List (List ℕ)) (b : List ℕ) → joined (bs ++ b ∷ []) ≡ joined bs ++ b
unfolding joined
joined-push [] b = append-nil b
joined-push (x ∷ bs) b = ap (λ (l : List ℕ). x ++ l) (joined-push bs b) ∙ sym (append_assoc x (joined bs) b)

pub all-push : (bs : List (List ℕ)) (b : List ℕ) → AreBatches bs → IsBatch b → AreBatches (bs ++ b ∷ [])
all-push [] b all it = (it, tt)
all-push (x ∷ bs) b all it = (all.0, all-push bs b all.1 it)

pub recovered_of : (t : List ℕ) → recovered (header ++ t) ≡ batches (length (header ++ t)) t
unfolding recovered
recovered_of t = refl

-- a file with these batches and a shut gate behind them stands for them
pub recovered_at : (c : List ℕ) (gate : ℕ) (bs : List (List ℕ)) → gate ≤ length c → take gate c ≡ header ++ joined bs → AreBatches bs → slice_index c gate ≢ 1
    → recovered c ≡ bs
recovered_at c gate bs within front all shut =
    let r = drop gate c in
    let whole : c ≡ header ++ (joined bs ++ r) = sym (take-append-drop gate c) ∙ ap (λ (l : List ℕ). l ++ r) front ∙ append_assoc header (joined bs) r in
    let behind : slice_index r 0 ≡ slice_index c gate = get_or-drop gate c 0 0 ∙ ap (slice_index c) (add-zero gate) in
    let few : length bs ≤ length (header ++ (joined bs ++ r)) = omega (
      arith,
      few_batches bs all,
      length-append header (joined bs ++ r),
      length-append
          (joined bs) r,
    ) in
    ap recovered whole ∙ recovered_of (joined bs ++ r) ∙ stands _ bs r all few (λ e. shut (sym behind ∙ e))

pub same_front : (n gate : ℕ) (file c : List ℕ) → gate ≤ n → n ≤ length file → SameBelow n file c → take gate c ≡ take gate file
same_front n gate file c low within s =
    ext_get_or 0 _ _ (omega (arith, length-take gate c, length-take gate file, s.within)) λ i below.
    let under : i < gate = omega (arith, length-take gate c) in
    get_or-take gate c i 0 under ∙ s.each i (omega arith) ∙ sym (get_or-take gate file i 0 under)

-- what agrees below the gate, with a shut gate, stands for the same
pub kept_shut : (gate : ℕ) (file c : List ℕ) → RestsAt gate file → SameBelow gate file c → slice_index c gate ≢ 1 → recovered c ≡ recovered file
kept_shut gate file c rests s shut =
    recovered_at c gate (recovered file) s.within (same_front gate gate file c (omega arith) (omega (arith, rests.within)) s ∙ rests.front) rests.whole shut

pub less_below : (n m : ℕ) (file c : List ℕ) → n ≤ m → SameBelow m file c → SameBelow n file c
less_below n m file c low s = record { within = omega (arith, s.within); each = λ i under. s.each i (omega arith) }

pub kept : (gate : ℕ) (file c : List ℕ) → RestsAt gate file → SameBelow (gate + 1) file c → recovered c ≡ recovered file
kept gate file c rests s =
    kept_shut gate file c rests (less_below gate (gate + 1) file c (omega arith) s) (λ e. rests.shut (sym (s.each gate (omega arith)) ∙ e))

-- an open batch behind what was there, and a shut gate behind it
pub grown : (gate : ℕ) (file c b : List ℕ) → RestsAt gate file → SameBelow gate file c → IsBatch b → gate + length b < length c → part c gate (length b) ≡ b
    → slice_index c (gate + length b) ≢ 1
    → (recovered c ≡ recovered file ++ b ∷ []) × RestsAt (gate + length b) c
unfolding part
grown gate file c b rests s it within is shut =
    let bs = recovered file in
    let front : take gate c ≡ header ++ joined bs = same_front gate gate file c (omega arith) (omega (arith, rests.within)) s ∙ rests.front in
    let longer : take (gate + length b) c ≡ header ++ joined (bs ++ b ∷ []) =
    take-add gate (length b) c ∙ ap₂ (λ (x y : List ℕ). x ++ y) front is ∙ append_assoc header (joined bs) b
    ∙ ap (λ (l : List ℕ). header ++ l) (sym (joined-push bs b)) in
    let all = all-push bs b rests.whole it in
    let found : recovered c ≡ bs ++ b ∷ [] = recovered_at c (gate + length b) (bs ++ b ∷ []) (omega arith) longer all shut in (
      found,
      record {
        within = within;
        front = longer ∙ ap (λ (l : List (List ℕ)). header ++ joined l) (sym found);
        place = omega (arith, rests.place, ap length (joined-push bs b), length-append (joined bs) b, ap (λ (l : List (List ℕ)). length (joined l)) found);
        whole = subst AreBatches (sym found) all;
        shut = shut;
      },
    )

pub size_least : (b : List ℕ) → 25 ≤ size_of b
unfolding size_of
size_least b = omega arith
