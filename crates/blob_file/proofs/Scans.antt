-- The walk over the batches of a file: what one step finds, and what the end says of the whole.
use Rattle.std.proofs.Common.{◌≡◌, inl, inr, refl, sym, ◌∙◌, ap, ap₂, subst, ℕ, zero, suc, ◌+◌, ◌-◌, ◌<◌, ◌≤◌, Bool, true, false, if◌then◌else◌}
use Rattle.std.proofs.Common.{List, [], ◌∷◌, ◌++◌, length, take, drop, arith, nat_eq, append_assoc, append-nil, length-append, length-take, length-drop}
use Rattle.std.proofs.Common.{take-append-drop, take-add, get_or-take, Option, Some, None}
use Rattle.std.specs.Prelude.{slice_index}
use Rattle.std.specs.HashMap.{get, get_by_text}
use Rattle.std.proofs.lemmas.Bool.{cases_Bool, and_parts, eqb-true, leb-true}
use Rattle.std.proofs.lemmas.Slice.Eq.{bytes_eq-Decides}
use Rattle.sqlite_disk.specs.Disk.{Holds}
use Rattle.sqlite_disk.specs.Digest.{digest}
use Rattle.sqlite_wal.specs.Format.{part}
use Rattle.sqlite_wal.proofs.PartLemmas.{held_is_part}
use Rattle.blob_file.specs.Format.{header, number, size_of, head_of, is_open, open_head, batches, recovered, joined, rows_of, is_made, IsBatch, AreBatches}
use Rattle.blob_file.specs.Format.{IsSummed, AreSummed}
use Rattle.blob_file.specs.Log.{EndsAt, IsSound}
use Rattle.blob_file.specs.Rows.{blobs_in, blobs_of_batch, named_in, names_in, placed, places_in, nowhere, told, told_in, IsFormed, AreFormed, AreWhole, Knows}
use Rattle.blob_file.specs.Rows.{Learns}
use Rattle.blob_file.specs.declared.index.Index.{Index}
use Rattle.blob_file.specs.declared.rows.Place.{Place}
use Rattle.blob_file.proofs.Indexes.{placed_same, told_same}
use Rattle.blob_file.specs.Opening.{StandsTo}
use Rattle.blob_file.specs.declared.head.Head.{Head}
use Rattle.blob_file.proofs.BatchFiles.{part_front, number_front, size_of-front, batches-joined, few_batches, joined-push, all-push, recovered_of, size_least}
use Rattle.blob_file.proofs.Heads.{part-drop}

-- a head that was found is that of an open batch
pub open_is : (b : List ℕ) (head : Head) → open_head b ≡ Some head → (is_open b ≡ true) × (head ≡ head_of b)
open_is b head found = elim (cases_Bool (is_open b)) [
  | inl opens ↦ (opens, (let it : Some (head_of b) ≡ Some head = sym (ap (λ (t : Bool). if t then Some (head_of b) else None) opens) ∙ found in cc))
  | inr shut ↦ absurd (let it : None ≡ Some head = sym (ap (λ (t : Bool). if t then Some (head_of b) else None) shut) ∙ found in cc)
]

pub open_not : (b : List ℕ) → open_head b ≡ None → is_open b ≡ false
open_not b found = elim (cases_Bool (is_open b)) [
  | inl opens ↦ absurd (let it : Some (head_of b) ≡ None = sym (ap (λ (t : Bool). if t then Some (head_of b) else None) opens) ∙ found in cc)
  | inr shut ↦ shut
]

pub read_there : (file buf : List ℕ) (at n : ℕ) → (0 < length buf → Holds file at buf) → length buf ≡ n → buf ≡ part file at n
unfolding part
read_there file [] at n h whole = ap (λ (k : ℕ). take k (drop at file)) whole
read_there file (b ∷ bs) at n h whole = sym (held_is_part file (b ∷ bs) at n (h (omega arith)) whole)

-- the part of the file that is the rows of a batch
pub rows_at : (file : List ℕ) (at : ℕ) (head : Head) → open_head (drop at file) ≡ Some head
    → part file (at + 25 + head.bodies) head.rows ≡ rows_of (drop at file)
unfolding rows_of
rows_at file at head found =
    let it = (open_is (drop at file) head found).1 in
    let first : head.bodies ≡ number (drop at file) 1 = ap (λ (h : Head). h.bodies) it in
    let second : head.rows ≡ number (drop at file) 9 = ap (λ (h : Head). h.rows) it in
    let there : at + 25 + head.bodies ≡ at + (25 + number (drop at file) 1) = omega (arith, first) in
    ap₂ (λ (x y : ℕ). part file x y) there second ∙ sym (part-drop file at (25 + number (drop at file) 1) (number (drop at file) 9))

pub sum_at : (b : List ℕ) (head : Head) → open_head b ≡ Some head → head.sum ≡ number b 17
sum_at b head found = ap (λ (h : Head). h.sum) (open_is b head found).1

open_gate : (b : List ℕ) → is_open b ≡ true → slice_index b 0 ≡ 1
unfolding is_open
open_gate b opens = eqb-true _ _ (and_parts _ _ opens).0

open_size : (b : List ℕ) → is_open b ≡ true → size_of b ≤ length b
unfolding is_open
open_size b opens = leb-true _ _ (and_parts _ _ opens).1

-- an open batch is the front of what is read
front_again : (b : List ℕ) → take (size_of b) b ++ drop (size_of b) b ≡ b
front_again b = take-append-drop (size_of b) b

pub length_front : (b : List ℕ) → is_open b ≡ true → length (take (size_of b) b) ≡ size_of b
length_front b opens = omega (arith, length-take (size_of b) b, open_size b opens)

pub batch_there : (b : List ℕ) → is_open b ≡ true → IsBatch (take (size_of b) b)
batch_there b opens =
    let long = length_front b opens in
    let least = size_least b in
    record {
      gate = get_or-take (size_of b) b 0 0 (omega arith) ∙ open_gate b opens;
      size = sym (size_of-front (take (size_of b) b) (drop (size_of b) b) (omega arith)) ∙ ap size_of (front_again b) ∙ sym long;
    }

pub rows_of-front : (b r : List ℕ) → IsBatch b → rows_of (b ++ r) ≡ rows_of b
unfolding rows_of size_of
rows_of-front b r it =
    let first = number_front b r 1 (omega (arith, it.size)) in
    let second = number_front b r 9 (omega (arith, it.size)) in
    ap₂ (λ (x y : ℕ). part (b ++ r) (25 + x) y) first second ∙ part_front b r (25 + number b 1) (number b 9) (omega (arith, it.size))

pub sum-front : (b r : List ℕ) → IsBatch b → number (b ++ r) 17 ≡ number b 17
unfolding size_of
sum-front b r it = number_front b r 17 (omega (arith, it.size))

pub summed_alone : (b : List ℕ) → is_open b ≡ true → IsSummed b → IsSummed (take (size_of b) b)
summed_alone b opens summed =
    let it = batch_there b opens in
    let r = drop (size_of b) b in
    let again = front_again b in
    let sums : number (take (size_of b) b) 17 ≡ number b 17 = sym (sum-front (take (size_of b) b) r it) ∙ ap (λ (x : List ℕ). number x 17) again in
    let rows : rows_of (take (size_of b) b) ≡ rows_of b = sym (rows_of-front (take (size_of b) b) r it) ∙ ap rows_of again in
    sums ∙ summed ∙ ap (digest 0) (sym rows)

pub summed_behind : (b : List ℕ) → is_open b ≡ true → IsSummed (take (size_of b) b) → IsSummed b
summed_behind b opens summed =
    let it = batch_there b opens in
    let r = drop (size_of b) b in
    let again = front_again b in
    let sums : number (take (size_of b) b) 17 ≡ number b 17 = sym (sum-front (take (size_of b) b) r it) ∙ ap (λ (x : List ℕ). number x 17) again in
    let rows : rows_of (take (size_of b) b) ≡ rows_of b = sym (rows_of-front (take (size_of b) b) r it) ∙ ap rows_of again in
    sym sums ∙ summed ∙ ap (digest 0) rows

pub summed_push : (bs : List (List ℕ)) (b : List ℕ) → AreSummed bs → IsSummed b → AreSummed (bs ++ b ∷ [])
summed_push [] b all it = (it, tt)
summed_push (x ∷ bs) b all it = (all.0, summed_push bs b all.1 it)

pub summed_next : (bs : List (List ℕ)) (b : List ℕ) (more : List (List ℕ)) → AreSummed (bs ++ b ∷ more) → IsSummed b
summed_next [] b more all = all.0
summed_next (x ∷ bs) b more all = summed_next bs b more all.1

pub batches_end : (n : ℕ) (r : List ℕ) → is_open r ≡ false → batches n r ≡ []
unfolding batches
batches_end zero r shut = refl
batches_end (suc n) r shut = ap (λ (t : Bool). if t then take (size_of r) r ∷ batches n (drop (size_of r) r) else []) shut

pub batches_next : (n : ℕ) (r : List ℕ) → is_open r ≡ true → batches (suc n) r ≡ take (size_of r) r ∷ batches n (drop (size_of r) r)
unfolding batches
batches_next n r opens = ap (λ (t : Bool). if t then take (size_of r) r ∷ batches n (drop (size_of r) r) else []) opens

-- the walk begins behind the header
pub stands_start : (file : List ℕ) → is_made file ≡ true → 16 ≤ length file → (index : Index) → Knows index [] → StandsTo 16 file index
unfolding joined
stands_start file made long index empty = record {
  within = long;
  before = [];
  front = (bytes_eq-Decides (take 16 file) header).0 made;
  whole = tt;
  summed = tt;
  formed = tt;
  knows = empty;
}

-- the rows of an open batch, alone and in the file
pub rows_alone : (b : List ℕ) → is_open b ≡ true → rows_of (take (size_of b) b) ≡ rows_of b
rows_alone b opens = sym (rows_of-front (take (size_of b) b) (drop (size_of b) b) (batch_there b opens)) ∙ ap rows_of (front_again b)

bodies_alone : (b : List ℕ) → is_open b ≡ true → number (take (size_of b) b) 1 ≡ number b 1
unfolding size_of
bodies_alone b opens =
    let long = length_front b opens in
    sym (number_front (take (size_of b) b) (drop (size_of b) b) 1 (omega (arith, long, size_least b))) ∙ ap (λ (x : List ℕ). number x 1) (front_again b)

pub formed_alone : (b : List ℕ) → is_open b ≡ true → IsFormed b → IsFormed (take (size_of b) b)
formed_alone b opens formed = subst (AreWhole (number (take (size_of b) b) 1)) (sym (rows_alone b opens))
    (subst (λ (n : ℕ). AreWhole n (rows_of b)) (sym (bodies_alone b opens)) formed)

pub formed_behind : (b : List ℕ) → is_open b ≡ true → IsFormed (take (size_of b) b) → IsFormed b
formed_behind b opens formed = subst (AreWhole (number b 1)) (rows_alone b opens)
    (subst (λ (n : ℕ). AreWhole n (rows_of (take (size_of b) b))) (bodies_alone b opens) formed)

pub formed_push : (bs : List (List ℕ)) (b : List ℕ) → AreFormed bs → IsFormed b → AreFormed (bs ++ b ∷ [])
formed_push [] b all it = (it, tt)
formed_push (x ∷ bs) b all it = (all.0, formed_push bs b all.1 it)

pub formed_next : (bs : List (List ℕ)) (b : List ℕ) (more : List (List ℕ)) → AreFormed (bs ++ b ∷ more) → IsFormed b
formed_next [] b more all = all.0
formed_next (x ∷ bs) b more all = formed_next bs b more all.1

-- the places of one batch more
pub places_in-push : (a : ℕ) (bs : List (List ℕ)) (b : List ℕ) (known : ℕ → Option Place) (q : ℕ)
    → places_in a (bs ++ b ∷ []) known q ≡ placed (a + length (joined bs) + 25) (blobs_of_batch b) (places_in a bs known) q
unfolding places_in joined
places_in-push a [] b known q =
    let here : a + 25 ≡ a + 0 + 25 = omega arith in
    ap (λ (k : ℕ). placed k (blobs_of_batch b) known q) here
places_in-push a (x ∷ bs) b known q =
    let there : a + length x + length (joined bs) + 25 ≡ a + length (x ++ joined bs) + 25 = omega (arith, length-append x (joined bs)) in
    places_in-push (a + length x) bs b (placed (a + 25) (blobs_of_batch x) known) q
    ∙ ap (λ (k : ℕ). placed k (blobs_of_batch b) (places_in (a + length x) bs (placed (a + 25) (blobs_of_batch x) known)) q) there

told_in-push : (bs : List (List ℕ)) (b : List ℕ) (known : List ℕ → Option ℕ) (q : List ℕ)
    → told_in (bs ++ b ∷ []) known q ≡ told (names_in (rows_of b)) (told_in bs known) q
unfolding told_in
told_in-push [] b known q = refl
told_in-push (x ∷ bs) b known q = told_in-push bs b (told (names_in (rows_of x)) known) q

pub named_in-push : (bs : List (List ℕ)) (b name : List ℕ) → named_in (bs ++ b ∷ []) name ≡ told (names_in (rows_of b)) (named_in bs) name
named_in-push bs b name = told_in-push bs b (λ q. None) name

-- what an index knows once it has learned what the rows of one batch more say
knows_next : (at : ℕ) (bs : List (List ℕ)) (b rows : List ℕ) (old new : Index) → Knows old bs → at ≡ 16 + length (joined bs) → rows ≡ rows_of b
    → Learns (at + 25) rows old new → Knows new (bs ++ b ∷ [])
knows_next at bs b rows old new knows place is learns = record {
  places = λ key.
      let there : at + 25 ≡ 16 + length (joined bs) + 25 = omega (arith, place) in
      learns.places key
      ∙ placed_same (at + 25) (blobs_in rows) (get nat_eq old.places) (places_in 16 bs nowhere) knows.places key
      ∙ ap₂ (λ (k : ℕ) (r : List ℕ). placed k (blobs_in r) (places_in 16 bs nowhere) key) there is
      ∙ sym (places_in-push 16 bs b nowhere key);
  names = λ name.
      learns.names name
      ∙ told_same (names_in rows) (get_by_text old.names) (named_in bs) knows.names name
      ∙ ap (λ (r : List ℕ). told (names_in r) (named_in bs) name) is
      ∙ sym (named_in-push bs b name);
}

place_of : (file : List ℕ) (at : ℕ) (known : Index) → (s : StandsTo at file known) → at ≡ 16 + length (joined s.before)
place_of file at known s = omega (arith, ap length s.front, length-append header (joined s.before), length-take at file, s.within)

-- a walk goes on behind an open batch with the sum that it says
pub stands_next : (file : List ℕ) (at n : ℕ) (known new : Index) → StandsTo at file known → is_open (drop at file) ≡ true → IsSound (drop at file)
    → n ≡ size_of (drop at file)
    → Learns (at + 25) (rows_of (drop at file)) known new → StandsTo (at + n) file new
stands_next file at n known new s opens sound size learns =
    let b = take n (drop at file) in
    let here : take (size_of (drop at file)) (drop at file) ≡ b = ap (λ (k : ℕ). take k (drop at file)) (sym size) in
    record {
      within = omega (arith, size, open_size (drop at file) opens, length-drop at file, s.within, size_least (drop at file));
      before = s.before ++ b ∷ [];
      front = take-add at n file ∙ ap (λ (x : List ℕ). x ++ b) s.front ∙ append_assoc header (joined s.before) b
          ∙ ap (λ (l : List ℕ). header ++ l) (sym (joined-push s.before b));
      whole = all-push s.before b s.whole (subst IsBatch here (batch_there (drop at file) opens));
      summed = summed_push s.before b s.summed (subst IsSummed here (summed_alone (drop at file) opens sound.summed));
      formed = formed_push s.before b s.formed (subst IsFormed here (formed_alone (drop at file) opens sound.formed));
      knows = knows_next at s.before b (rows_of (drop at file)) known new s.knows (place_of file at known s)
          (sym (rows_alone (drop at file) opens) ∙ ap rows_of here) learns;
    }

-- the batches so far, and those of the rest
pub recovered_so_far : (file : List ℕ) (at m : ℕ) (known : Index) → (s : StandsTo at file known) → length file ≡ length s.before + m
    → recovered file ≡ s.before ++ batches m (drop at file)
recovered_so_far file at m known s e =
    let r = drop at file in
    let parts : file ≡ header ++ (joined s.before ++ r) = sym (take-append-drop at file) ∙ ap (λ (l : List ℕ). l ++ r) s.front
    ∙ append_assoc header (joined s.before) r in
    ap recovered parts ∙ recovered_of (joined s.before ++ r) ∙ batches-joined s.before _ m r (ap length (sym parts) ∙ e) s.whole

few_so_far : (file : List ℕ) (at : ℕ) (known : Index) → (s : StandsTo at file known) → length s.before + 16 ≤ at
few_so_far file at known s = omega (arith, place_of file at known s, few_batches s.before s.whole)

-- where no open batch stands, the walk has found all
pub found_all : (file : List ℕ) (at : ℕ) (known : Index) → (s : StandsTo at file known) → is_open (drop at file) ≡ false → recovered file ≡ s.before
found_all file at known s shut =
    let m = length file - length s.before in
    let few = few_so_far file at known s in
    recovered_so_far file at m known s (omega (arith, s.within)) ∙ ap (λ (l : List (List ℕ)). s.before ++ l) (batches_end m (drop at file) shut)
    ∙ append-nil s.before

pub ends_here : (file : List ℕ) (at : ℕ) (known : Index) → StandsTo at file known → is_open (drop at file) ≡ false → EndsAt at file
ends_here file at known s shut =
    let all = found_all file at known s shut in
    record {
      within = s.within;
      front = s.front ∙ ap (λ (l : List (List ℕ)). header ++ joined l) (sym all);
      place = place_of file at known s ∙ ap (λ (l : List (List ℕ)). 16 + length (joined l)) (sym all);
      whole = subst AreBatches (sym all) s.whole;
      ends = shut;
    }

pub all_summed : (file : List ℕ) (at : ℕ) (known : Index) → StandsTo at file known → is_open (drop at file) ≡ false → AreSummed (recovered file)
all_summed file at known s shut = subst AreSummed (sym (found_all file at known s shut)) s.summed

pub all_formed : (file : List ℕ) (at : ℕ) (known : Index) → StandsTo at file known → is_open (drop at file) ≡ false → AreFormed (recovered file)
all_formed file at known s shut = subst AreFormed (sym (found_all file at known s shut)) s.formed

pub all_known : (file : List ℕ) (at : ℕ) (known : Index) → StandsTo at file known → is_open (drop at file) ≡ false → Knows known (recovered file)
all_known file at known s shut = subst (Knows known) (sym (found_all file at known s shut)) s.knows

-- an open batch that isn't sound is one that counts
pub not_sound : (file : List ℕ) (at : ℕ) (known : Index) → StandsTo at file known → is_open (drop at file) ≡ true → (IsSound (drop at file) → ⊥)
    → AreSummed (recovered file) → AreFormed (recovered file) → ⊥
not_sound file at known s opens differs summed formed =
    let m = length file - length s.before in
    let few = few_so_far file at known s in
    let left : m ≡ suc (m - 1) = omega (arith, open_size (drop at file) opens, size_least (drop at file), length-drop at file, s.within) in
    let next = recovered_so_far file at m known s (omega (arith, s.within)) ∙ ap (λ (k : ℕ). s.before ++ batches k (drop at file)) left
    ∙ ap (λ (l : List (List ℕ)). s.before ++ l) (batches_next (m - 1) (drop at file) opens) in
    differs (record {
      summed = summed_behind (drop at file) opens (summed_next s.before _ _ (subst AreSummed next summed));
      formed = formed_behind (drop at file) opens (formed_next s.before _ _ (subst AreFormed next formed));
    })

-- how far the walk goes by the head that it found
pub size_there : (b : List ℕ) (head : Head) → open_head b ≡ Some head → 25 + head.bodies + head.rows ≡ size_of b
unfolding size_of
size_there b head found = let it = (open_is b head found).1 in ap (λ (h : Head). 25 + h.bodies + h.rows) it
