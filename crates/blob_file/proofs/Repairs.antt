-- What the end of a file is made to be at an open, and what a crash in it leaves.
use Rattle.std.proofs.Common.{◌≡◌, ◌≢◌, ◌⊎◌, inl, inr, sym, ◌∙◌, ap, subst, ℕ, ◌+◌, ◌-◌, ◌<◌, ◌≤◌, Bool, true, false, if◌then◌else◌, List, []}
use Rattle.std.proofs.Common.{◌∷◌, ◌++◌, length, take, drop, arith, append_assoc, append-nil, length-append, length-drop, take-append-drop}
use Rattle.std.proofs.Common.{take-take, ext_get_or, get_or-drop, add-zero}
use Rattle.std.specs.Prelude.{slice_index}
use Rattle.std.proofs.lemmas.Bool.{and_parts, cases_eq, cases_lt, cases_order, cases_Bool, leb-true}
use Rattle.std.proofs.lemmas.Slice.Eq.{bytes_eq-Decides}
use Rattle.sqlite_disk.specs.declared.Disk.{Ghosts}
use Rattle.sqlite_disk.specs.Disk.{Holds, Torn, Only}
use Rattle.sqlite_wal.specs.Gate.{IsShut}
use Rattle.blob_file.specs.Format.{header, new_file, is_open, is_made, is_unmade, batches, recovered, joined, AreBatches, AreSummed}
use Rattle.blob_file.specs.Log.{EndsAt, RestsAt, SameBelow, IsReady}
use Rattle.blob_file.specs.Rows.{AreFormed}
use Rattle.blob_file.proofs.BatchFiles.{batches-joined, few_batches, recovered_of, same_front, shut_batch}
use Rattle.blob_file.proofs.FlushWrites.{same_all}
use Rattle.blob_file.proofs.Heads.{short_shut}
use Rattle.blob_file.proofs.Scans.{batches_end}

-- a file of these batches, with no open one behind them
pub recovered_ends : (c : List ℕ) (gate : ℕ) (bs : List (List ℕ)) → take gate c ≡ header ++ joined bs → AreBatches bs → is_open (drop gate c) ≡ false
    → recovered c ≡ bs
recovered_ends c gate bs front all shut =
    let r = drop gate c in
    let parts : c ≡ header ++ (joined bs ++ r) = sym (take-append-drop gate c) ∙ ap (λ (l : List ℕ). l ++ r) front ∙ append_assoc header (joined bs) r in
    let m = length (header ++ (joined bs ++ r)) - length bs in
    let few : length (header ++ (joined bs ++ r)) ≡ length bs + m = omega
    (arith, few_batches bs all, length-append header (joined bs ++ r), length-append (joined bs) r) in
    ap recovered parts ∙ recovered_of (joined bs ++ r) ∙ batches-joined bs _ m r few all ∙ ap (λ (l : List (List ℕ)). bs ++ l) (batches_end m r shut)
    ∙ append-nil bs

-- what has the same front, and no open batch behind it, stands for the same
pub same_end : (gate : ℕ) (file c : List ℕ) → EndsAt gate file → SameBelow gate file c → is_open (drop gate c) ≡ false → recovered c ≡ recovered file
same_end gate file c ends s shut = recovered_ends c gate (recovered file) (same_front gate gate file c (omega arith) ends.within s ∙ ends.front) ends.whole shut

gate_byte : (gate : ℕ) (c : List ℕ) → slice_index (drop gate c) 0 ≡ slice_index c gate
gate_byte gate c = get_or-drop gate c 0 0 ∙ ap (slice_index c) (add-zero gate)

pub shut_end : (gate : ℕ) (c : List ℕ) → slice_index c gate ≢ 1 → is_open (drop gate c) ≡ false
shut_end gate c shut = shut_batch (drop gate c) (λ bad. shut (sym (gate_byte gate c) ∙ bad))

pub torn_front : (gate : ℕ) (file c : List ℕ) → gate ≤ length file → Torn gate 1 file c → SameBelow gate file c
torn_front gate file c within torn = record { within = omega (arith, torn.no_shorter, within); each = λ i low. torn.below i (omega arith) low }

-- whatever a write of the gate leaves, where none was there or an open one before a batch that is cut short, it stands for the same
pub gate_torn : (gate : ℕ) (file c : List ℕ) → EndsAt gate file → (gate < length file → slice_index file gate ≡ 1) → Torn gate 1 file c
    → recovered c ≡ recovered file
gate_torn gate file c ends was torn =
    let s = torn_front gate file c ends.within torn in
    elim (cases_eq (slice_index c gate) 1) [
      | inr shut ↦ same_end gate file c ends s (shut_end gate c shut)
      | inl opens ↦ elim (cases_lt gate (length file)) [
        | inl there ↦
            let same : c ≡ file = ext_get_or 0 c file (omega (arith, torn.no_shorter, torn.no_longer)) λ i low. elim (cases_order i gate) [
              | inl here ↦ rw here (opens ∙ sym (was there))
              | inr (inl below) ↦ torn.below i (omega (arith, torn.no_longer)) below
              | inr (inr above) ↦ torn.above i (omega (arith, torn.no_longer)) (omega arith)
            ] in
            ap recovered same
        | inr end ↦ same_end gate file c ends s (short_shut (drop gate c) (omega (arith, length-drop gate c, torn.no_longer, ends.within)))
      ]
    ]

pub rests_shut : (gate : ℕ) (file : List ℕ) → EndsAt gate file → IsShut file gate 1 → RestsAt gate file
rests_shut gate file ends shut = record { within = shut.within; front = ends.front; place = ends.place; whole = ends.whole; shut = shut.differs }

-- the gate was written
pub rests_written : (gate : ℕ) (file c : List ℕ) → EndsAt gate file → (gate < length file → slice_index file gate ≡ 1) → Torn gate 1 file c
    → Holds c gate (0 ∷ []) → RestsAt gate c
rests_written gate file c ends was torn held =
    let same = gate_torn gate file c ends was torn in
    let s = torn_front gate file c ends.within torn in
    let byte : slice_index c gate ≡ 0 = ap (slice_index c) (sym (add-zero gate)) ∙ held.each 0 (omega arith) in
    record {
      within = omega (arith, held.within);
      front = same_front gate gate file c (omega arith) ends.within s ∙ ends.front ∙ ap (λ (l : List (List ℕ)). header ++ joined l) (sym same);
      place = ends.place ∙ ap (λ (l : List (List ℕ)). 16 + length (joined l)) (sym same);
      whole = subst AreBatches (sym same) ends.whole;
      shut = λ bad. absurd (omega (arith, byte, bad));
    }

pub ready_synced : {D : Type 0} (g : Ghosts D) (gate : ℕ) (disk : D) → RestsAt gate (g.seen disk) → Only (g.seen disk) (g.may_leave disk) → IsReady g gate disk
ready_synced g gate disk rests only = record {
  rests = rests;
  crash = λ c left. rw (only c left) (same_all (gate + 1) (g.seen disk) (omega (arith, rests.within)));
}

-- a file that is no longer than a new one stands for no batch
pub recovered_small : (file : List ℕ) → length file ≤ 17 → recovered file ≡ []
unfolding recovered
recovered_small file small = elim (cases_Bool (is_made file)) [
  | inl made ↦ ap (λ (t : Bool). if t then batches (length file) (drop 16 file) else []) made
      ∙ batches_end (length file) (drop 16 file) (short_shut (drop 16 file) (omega (arith, length-drop 16 file)))
  | inr other ↦ ap (λ (t : Bool). if t then batches (length file) (drop 16 file) else []) other
]

-- a file that rests has the header
pub rests_made : (gate : ℕ) (file : List ℕ) → RestsAt gate file → is_made file ≡ true
rests_made gate file rests =
    let low : 16 ≤ gate = omega (arith, rests.place) in
    (bytes_eq-Decides (take 16 file) header).1 (sym (take-take 16 gate file low) ∙ ap (take 16) rests.front)

pub new_rests : RestsAt 16 new_file
unfolding joined
new_rests =
    let none = recovered_small new_file (omega arith) in
    record {
      within = omega arith;
      front = ap (λ (l : List (List ℕ)). header ++ joined l) (sym none);
      place = ap (λ (l : List (List ℕ)). 16 + length (joined l)) (sym none);
      whole = subst AreBatches (sym none) tt;
      shut = λ bad. absurd (omega (arith, bad));
    }

pub unmade_small : (file : List ℕ) → is_unmade file ≡ true → length file ≤ 17
unmade_small file it = leb-true _ _ (and_parts _ _ it).0

-- whatever a crash leaves of a file that is being made
pub created : (file d c : List ℕ) → length file ≤ 17 → d ≡ file → ((c ≡ d) ⊎ (length d ≤ 17 → length c ≤ 17)) → recovered c ≡ recovered file
created file d c small same step = elim step [
  | inl was ↦ ap recovered (was ∙ same)
  | inr still ↦ recovered_small c (still (omega (arith, small, ap length same))) ∙ sym (recovered_small file small)
]

-- a file without a batch is one whose batches have their sums
pub none_summed : (file : List ℕ) → length file ≤ 17 → AreSummed (recovered file)
none_summed file small = subst AreSummed (sym (recovered_small file small)) tt

pub recovered_new : recovered new_file ≡ []
recovered_new = recovered_small new_file (omega arith)

pub none_formed : (file : List ℕ) → length file ≤ 17 → AreFormed (recovered file)
none_formed file small = subst AreFormed (sym (recovered_small file small)) tt
