-- What each write of a flush leaves.
use Rattle.std.proofs.Common.{◌≡◌, ◌≢◌, ◌⊎◌, inl, inr, refl, sym, ◌∙◌, ap, ap₂, subst, ℕ, zero, suc, ◌+◌, ◌-◌, ◌<◌, ◌≤◌, List, [], ◌∷◌, ◌++◌, length, take}
use Rattle.std.proofs.Common.{drop, arith, length-drop, take-add, drop-drop, ext_get_or, get_or-drop, add-zero}
use Rattle.std.specs.Prelude.{slice_index}
use Rattle.std.specs.Int.{w64, from_le_bytes}
use Rattle.std.proofs.lemmas.Bool.{cases_eq}
use Rattle.sqlite_wal.specs.Format.{part}
use Rattle.sqlite_wal.proofs.PartLemmas.{same_parts, length-part, part_above, slice_index-part}
use Rattle.sqlite_disk.specs.declared.Disk.{Ghosts}
use Rattle.sqlite_disk.specs.Disk.{Holds, Torn, Follows}
use Rattle.blob_file.specs.Format.{header, number, size_of, recovered, joined, IsBatch, AreBatches}
use Rattle.blob_file.specs.Log.{RestsAt, SameBelow, IsReady, IsStaged, StaysReady, batch_behind}
use Rattle.blob_file.proofs.BatchFiles.{kept, kept_shut, same_front, grown, size_least}

-- a write behind the gate leaves what is below it
pub torn_behind : (n at len : ℕ) (file old new : List ℕ) → n ≤ at → SameBelow n file old → Torn at len old new → SameBelow n file new
torn_behind n at len file old new low s torn = record {
  within = omega (arith, s.within, torn.no_shorter);
  each = λ i under. torn.below i (omega (arith, s.within)) (omega arith) ∙ s.each i under;
}

pub behind : (n at len : ℕ) (file : List ℕ) (old new : List ℕ → Type 0) → n ≤ at → ((c : List ℕ) → old c → SameBelow n file c) → Follows (Torn at len) old new
    → (c : List ℕ) → new c → SameBelow n file c
behind n at len file old new low had follows c left =
    let (d, was, torn) = follows c left in
    torn_behind n at len file d c low (had d was) torn

pub same_all : (n : ℕ) (file : List ℕ) → n ≤ length file → SameBelow n file file
same_all n file within = record { within = within; each = λ i under. refl }

-- SameBelow composed
pub same_then : (n : ℕ) (a b c : List ℕ) → SameBelow n a b → SameBelow n b c → SameBelow n a c
same_then n a b c s t = record { within = t.within; each = λ i under. t.each i under ∙ s.each i under }

pub part-add : (f : List ℕ) (a m n : ℕ) → part f a (m + n) ≡ part f a m ++ part f (a + m) n
unfolding part
part-add f a m n = take-add m n (drop a f) ∙ ap (λ (l : List ℕ). take m (drop a f) ++ take n l) (drop-drop m a f)

-- one byte
pub part-one : (f : List ℕ) (a : ℕ) → a < length f → part f a 1 ≡ slice_index f a ∷ []
part-one f a within = ext_get_or 0 _ _ (length-part f a 1 (omega arith)) λ i low.
    let first : i ≡ 0 = omega (arith, length-part f a 1 (omega arith)) in
    subst (λ (k : ℕ). slice_index (part f a 1) k ≡ slice_index (slice_index f a ∷ []) k) (sym first)
    (slice_index-part f a 1 0 (omega arith) ∙ ap (slice_index f) (add-zero a))

-- each byte of the batch but the gate is as the file has it
byte_behind : (gate k : ℕ) (file : List ℕ) → 0 < k → k < size_of (drop gate file) → slice_index (batch_behind gate file) k ≡ slice_index (drop gate file) k
byte_behind gate zero file some low = absurd (omega arith)
byte_behind gate (suc i) file some low =
    let here : gate + 1 + i ≡ gate + suc i = omega arith in
    slice_index-part file (gate + 1) (size_of (drop gate file) - 1) i (omega arith) ∙ ap (slice_index file) here ∙ sym (get_or-drop gate file (suc i) 0)

pub length_behind : (gate : ℕ) (file : List ℕ) → IsStaged gate file → length (batch_behind gate file) ≡ size_of (drop gate file)
length_behind gate file staged =
    omega (
      arith,
      length-part file (gate + 1) (size_of (drop gate file) - 1) (omega (arith, staged.within, size_least (drop gate file))),
      size_least
          (drop gate file),
    )

number_behind : (gate k : ℕ) (file : List ℕ) → IsStaged gate file → 0 < k → k + 8 ≤ 25 → number (batch_behind gate file) k ≡ number (drop gate file) k
unfolding number
number_behind gate k file staged some low =
    let least = size_least (drop gate file) in
    ap (from_le_bytes w64) (same_parts (batch_behind gate file) (drop gate file) k k 8 (omega (arith, length_behind gate file staged))
    (omega (arith, length-drop gate file, staged.within)) λ i under. byte_behind gate (k + i) file (omega arith) (omega arith))

pub batch_is_behind : (gate : ℕ) (file : List ℕ) → IsStaged gate file → IsBatch (batch_behind gate file)
unfolding size_of
batch_is_behind gate file staged = record {
  gate = refl;
  size = ap₂ (λ (x y : ℕ). 25 + x + y) (number_behind gate 1 file staged (omega arith) (omega arith))
      (number_behind gate 9 file staged (omega arith) (omega arith)) ∙ sym (length_behind gate file staged);
}

-- once the gate is open, the batch is there
opened : (gate : ℕ) (file c : List ℕ) → IsStaged gate file → Torn gate 1 file c → slice_index c gate ≡ 1
    → part c gate (length (batch_behind gate file)) ≡ batch_behind gate file
opened gate file c staged torn opens =
    let least = size_least (drop gate file) in
    let size : length (batch_behind gate file) ≡ 1 + (size_of (drop gate file) - 1) = omega (arith, length_behind gate file staged) in
    ap (part c gate) size
    ∙ part-add c gate 1 (size_of (drop gate file) - 1)
    ∙ ap₂ (λ (x y : List ℕ). x ++ y) (part-one c gate (omega (arith, staged.within, torn.no_shorter)) ∙ ap (λ (k : ℕ). k ∷ []) opens)
    (part_above file c gate 1 (gate + 1) (size_of (drop gate file) - 1) torn (omega arith) (omega (arith, staged.within)))

-- Whatever lands on the gate, the file stands for the old batches, or for these and the new one.
pub gate_written : (gate : ℕ) (file c : List ℕ) → RestsAt gate file → IsStaged gate file → Torn gate 1 file c
    → ((recovered c ≡ recovered file) × (slice_index c gate ≢ 1)) ⊎ ((recovered c ≡ recovered file ++ batch_behind gate file ∷ []) × RestsAt
    (gate + size_of (drop gate file)) c)
gate_written gate file c rests staged torn =
    let s : SameBelow gate file c = record {
      within = omega (arith, torn.no_shorter, rests.within);
      each = λ i low. torn.below i
          (omega (arith, rests.within)) low;
    } in
    let b = batch_behind gate file in
    let end : gate + length b ≡ gate + size_of (drop gate file) = omega (arith, length_behind gate file staged) in
    let least = size_least (drop gate file) in
    elim (cases_eq (slice_index c gate) 1) [
      | inl opens ↦
          let shut : slice_index c (gate + length b) ≢ 1 = λ bad. staged.next
          (sym (torn.above (gate + size_of (drop gate file)) staged.within (omega arith)) ∙ ap (slice_index c) (sym end) ∙ bad) in
          let more = grown gate file c b rests s (batch_is_behind gate file staged) (omega (arith, end, staged.within, torn.no_shorter))
          (opened gate file c staged torn opens) shut in
          inr (more.0, subst (λ (k : ℕ). RestsAt k c) end more.1)
      | inr shut ↦ inl (kept_shut gate file c rests s shut, shut)
    ]

-- the same where the gate was written
pub gate_opened : (gate : ℕ) (file c : List ℕ) → RestsAt gate file → IsStaged gate file → Torn gate 1 file c → Holds c gate (1 ∷ [])
    → (recovered c ≡ recovered file ++ batch_behind gate file ∷ []) × RestsAt (gate + size_of (drop gate file)) c
gate_opened gate file c rests staged torn held =
    let opens : slice_index c gate ≡ 1 = ap (slice_index c) (sym (add-zero gate)) ∙ held.each 0 (omega arith) in
    elim (gate_written gate file c rests staged torn) [
      | inl shut ↦ absurd (shut.1 opens)
      | inr more ↦ more
    ]

-- what is the same up to the gate and with it rests there too
pub rests_kept : (gate : ℕ) (file c : List ℕ) → RestsAt gate file → SameBelow (gate + 1) file c → RestsAt gate c
rests_kept gate file c rests s =
    let same = kept gate file c rests s in
    record {
      within = omega (arith, s.within);
      front = same_front (gate + 1) gate file c (omega arith) (omega (arith, rests.within)) s ∙ rests.front
          ∙ ap (λ (l : List (List ℕ)). header ++ joined l) (sym same);
      place = rests.place ∙ ap (λ (l : List (List ℕ)). 16 + length (joined l)) (sym same);
      whole = subst AreBatches (sym same) rests.whole;
      shut = λ bad. rests.shut (sym (s.each gate (omega arith)) ∙ bad);
    }

-- nothing was written
pub stays_not : {D : Type 0} (g : Ghosts D) (gate : ℕ) (disk : D) → IsReady g gate disk → StaysReady g gate disk disk
stays_not g gate disk ready = record { ready = ready; same = refl; below = same_all (gate + 1) (g.seen disk) (omega (arith, ready.rests.within)) }

-- a write above the gate leaves the file ready, and what it stands for
pub stays_behind : {D : Type 0} (g : Ghosts D) (gate at len : ℕ) (first old new : D) → gate < at → StaysReady g gate first old
    → Torn at len (g.seen old) (g.seen new)
    → Follows (Torn at len) (g.may_leave old) (g.may_leave new) → StaysReady g gate first new
stays_behind g gate at len first old new above s torn follows =
    let here = torn_behind (gate + 1) at len (g.seen old) (g.seen old) (g.seen new) (omega arith)
    (same_all (gate + 1) (g.seen old) (omega (arith, s.ready.rests.within))) torn in
    record {
      ready = record {
        rests = rests_kept gate (g.seen old) (g.seen new) s.ready.rests here;
        crash = λ c left.
            let it = behind (gate + 1) at len (g.seen old) (g.may_leave old) (g.may_leave new) (omega arith) s.ready.crash follows c left in
            record { within = it.within; each = λ i low. it.each i low ∙ sym (here.each i low) };
      };
      same = kept gate (g.seen old) (g.seen new) s.ready.rests here ∙ s.same;
      below = torn_behind (gate + 1) at len (g.seen first) (g.seen old) (g.seen new) (omega arith) s.below torn;
    }
