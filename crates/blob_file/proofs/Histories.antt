-- What is told of names, by rows and by batches one behind the other.
use Rattle.std.proofs.Common.{◌≡◌, inl, inr, refl, sym, ◌∙◌, ap, ap₂, subst, ℕ, ◌+◌, ◌-◌, ◌<◌, ◌≤◌, Bool, true, if◌then◌else◌, List, [], ◌∷◌, ◌++◌, length, take, drop, arith}
use Rattle.std.proofs.Common.{append_assoc, append-nil, length-append, length-take, take-append-drop, take-add, Option, Some}
use Rattle.std.proofs.lemmas.Bool.{cases_Bool}
use Rattle.std.proofs.lemmas.Slice.Eq.{bytes_eq-Decides}
use Rattle.sqlite_wal.specs.Reads.{IsClean, OnlyReads}
use Rattle.sqlite_disk.specs.declared.Disk.{Ghosts}
use Rattle.blob_file.specs.Format.{header, size_of, is_open, open_head, batches, recovered, joined, rows_of, is_made, AreBatches}
use Rattle.blob_file.specs.History.{names_told}
use Rattle.blob_file.specs.declared.head.Head.{Head}
use Rattle.blob_file.specs.Rows.{row_of, is_name, row_len, rows_in, cut_rows, names_in, names_of, key_given}
use Rattle.blob_file.proofs.BatchFiles.{all-push, batches-joined, few_batches, joined-push, long_batch, recovered_of}
use Rattle.blob_file.proofs.Looks.{all_batches}
use Rattle.blob_file.proofs.RowCuts.{first_row_of, rows_first}
use Rattle.blob_file.proofs.Scans.{batch_there, open_is, rows_alone, size_there}
use Rattle.blob_file.proofs.Walks.{reads_then}

-- what the first row says, and the rows behind it
pub names_first : (b : List ℕ) → row_len b ≤ length b
    → names_in b ≡ (if is_name (row_of b) then (drop 24 (take (row_len b) b), key_given (row_of b).key) ∷ [] else []) ++ names_in (drop (row_len b) b)
unfolding names_of
names_first b within =
    let e = take (row_len b) b in
    let row = first_row_of b within in
    let cut = ap names_of (rows_first b within) in
    elim (cases_Bool (is_name (row_of b))) [
      | inl name ↦
          cut ∙ ap (λ (t : Bool). if t then (drop 24 e, key_given (row_of e).key) ∷ names_in (drop (row_len b) b) else names_in (drop (row_len b) b))
          (ap is_name row ∙ name)
          ∙ ap (λ (k : ℕ). (drop 24 e, key_given k) ∷ names_in (drop (row_len b) b)) (ap (λ r. r.key) row)
          ∙ sym (ap (λ (t : Bool). (if t then (drop 24 e, key_given (row_of b).key) ∷ [] else []) ++ names_in (drop (row_len b) b)) name)
      | inr blob ↦
          cut ∙ ap (λ (t : Bool). if t then (drop 24 e, key_given (row_of e).key) ∷ names_in (drop (row_len b) b) else names_in (drop (row_len b) b))
          (ap is_name row ∙ blob)
          ∙ sym (ap (λ (t : Bool). (if t then (drop 24 e, key_given (row_of b).key) ∷ [] else []) ++ names_in (drop (row_len b) b)) blob)
    ]

pub names_nothing : names_in [] ≡ []
unfolding rows_in cut_rows names_of
names_nothing = refl

-- one row more was told, of which these are the parts
pub told_next : (was now all : List (List ℕ × Option ℕ)) (b name behind : List ℕ) (is : Bool) (key : ℕ) → row_len b ≤ length b → is ≡ is_name (row_of b)
    → key ≡ (row_of b).key → name ≡ drop 24 (take (row_len b) b) → behind ≡ drop (row_len b) b
    → now ≡ was ++ (if is then (name, key_given key) ∷ [] else []) → was ++ names_in b ≡ all → now ++ names_in behind ≡ all
told_next was now all b name behind is key within kind k n h more before =
    let first = names_first b within in
    let said : (if is then (name, key_given key) ∷ [] else []) ≡ (if is_name (row_of b) then (drop 24 (take (row_len b) b), key_given (row_of b).key) ∷ [] else []) =
    rw (kind, k, n) refl in
    ap₂ (λ (x : List (List ℕ × Option ℕ)) (y : List ℕ). x ++ names_in y) (more ∙ ap (λ (x : List (List ℕ × Option ℕ)). was ++ x) said) h
    ∙ append_assoc was _ (names_in (drop (row_len b) b))
    ∙ ap (λ (x : List (List ℕ × Option ℕ)). was ++ x) (sym first) ∙ before

names_told-push : (bs : List (List ℕ)) (b : List ℕ) → names_told (bs ++ b ∷ []) ≡ names_told bs ++ names_in (rows_of b)
unfolding names_told
names_told-push [] b = append-nil (names_in (rows_of b))
names_told-push (x ∷ bs) b =
    ap (λ (l : List (List ℕ × Option ℕ)). names_in (rows_of x) ++ l) (names_told-push bs b)
    ∙ sym (append_assoc (names_in (rows_of x)) (names_told bs) (names_in (rows_of b)))

-- Up to `at` the file is the header and whole batches, and what these say of names was told.
pub record TellsTo (at : ℕ) (file : List ℕ) (was now : List (List ℕ × Option ℕ)) : Type 0 where
  pub within : at ≤ length file
  pub before : List (List ℕ)
  pub front : take at file ≡ header ++ joined before
  pub whole : AreBatches before
  pub told : now ≡ was ++ names_told before

-- the walk begins behind the header, if there is a batch
pub tells_start : (file : List ℕ) (was : List (List ℕ × Option ℕ)) → take 16 file ≡ header → 16 ≤ length file → TellsTo 16 file was was
unfolding joined names_told
tells_start file was made long = record { within = long; before = []; front = made; whole = tt; told = sym (append-nil was) }

-- and goes on behind an open batch
pub tells_next : (file : List ℕ) (at n : ℕ) (was now next : List (List ℕ × Option ℕ)) → TellsTo at file was now → is_open (drop at file) ≡ true
    → n ≡ size_of (drop at file) → at + n ≤ length file → next ≡ now ++ names_in (rows_of (drop at file)) → TellsTo (at + n) file was next
tells_next file at n was now next s opens size within more =
    let b = take n (drop at file) in
    let here : take (size_of (drop at file)) (drop at file) ≡ b = ap (λ (k : ℕ). take k (drop at file)) (sym size) in
    record {
      within = within;
      before = s.before ++ b ∷ [];
      front = take-add at n file ∙ ap (λ (x : List ℕ). x ++ b) s.front ∙ append_assoc header (joined s.before) b
          ∙ ap (λ (l : List ℕ). header ++ l) (sym (joined-push s.before b));
      whole = all-push s.before b s.whole (subst (λ (x : List ℕ). AreBatches (x ∷ [])) here (batch_there (drop at file) opens, tt)).0;
      told = more
          ∙ ap₂ (λ (x y : List (List ℕ × Option ℕ)). x ++ y) s.told (ap names_in (sym (rows_alone (drop at file) opens) ∙ ap rows_of here))
          ∙ append_assoc was (names_told s.before) (names_in (rows_of b))
          ∙ ap (λ (l : List (List ℕ × Option ℕ)). was ++ l) (sym (names_told-push s.before b));
    }

place_told : (file : List ℕ) (at : ℕ) (was now : List (List ℕ × Option ℕ)) → (s : TellsTo at file was now) → at ≡ 16 + length (joined s.before)
place_told file at was now s = omega (arith, ap length s.front, length-append header (joined s.before), length-take at file, s.within)

joined-append : (xs ys : List (List ℕ)) → joined (xs ++ ys) ≡ joined xs ++ joined ys
unfolding joined
joined-append [] ys = refl
joined-append (x ∷ xs) ys = ap (λ (l : List ℕ). x ++ l) (joined-append xs ys) ∙ sym (append_assoc x (joined xs) (joined ys))

behind_batches : (xs ys : List (List ℕ)) → AreBatches (xs ++ ys) → AreBatches ys
behind_batches [] ys all = all
behind_batches (x ∷ xs) ys all = behind_batches xs ys all.1

no_batches : (bs : List (List ℕ)) → AreBatches bs → length (joined bs) ≡ 0 → bs ≡ []
unfolding joined
no_batches [] all none = refl
no_batches (b ∷ bs) all none = absurd (omega (arith, none, length-append b (joined bs), long_batch b all.0))

-- where the batches end, all was told
pub tells_all : (file : List ℕ) (at : ℕ) (was now : List (List ℕ × Option ℕ)) → (s : TellsTo at file was now) → 16 + length (joined (recovered file)) ≤ at
    → now ≡ was ++ names_told (recovered file)
tells_all file at was now s ends =
    let place = place_told file at was now s in
    let r = drop at file in
    let m = length file - length s.before in
    let few : length s.before + 16 ≤ at = omega (arith, place, few_batches s.before s.whole) in
    let parts : file ≡ header ++ (joined s.before ++ r) = sym (take-append-drop at file) ∙ ap (λ (l : List ℕ). l ++ r) s.front
    ∙ append_assoc header (joined s.before) r in
    let found : recovered file ≡ s.before ++ batches m r =
    ap recovered parts ∙ recovered_of (joined s.before ++ r)
    ∙ batches-joined s.before _ m r (ap length (sym parts) ∙ omega (arith, s.within, few)) s.whole in
    let rest = batches m r in
    let none : rest ≡ [] =
    no_batches rest (behind_batches s.before rest (subst AreBatches found (all_batches file)))
    (omega (
      arith,
      ends,
      place,
      ap (λ (l : List (List ℕ)). length (joined l)) found,
      ap length (joined-append s.before rest),
      length-append (joined s.before) (joined rest),
    )) in
    s.told ∙ ap (λ (l : List (List ℕ)). was ++ names_told l) (sym (found ∙ ap (λ (l : List (List ℕ)). s.before ++ l) none ∙ append-nil s.before))

-- no batch was told of where there is none
pub tells_none : (file : List ℕ) (was : List (List ℕ × Option ℕ)) → 16 + length (joined (recovered file)) ≤ 16 → was ≡ was ++ names_told (recovered file)
unfolding names_told
tells_none file was low =
    let none = no_batches (recovered file) (all_batches file) (omega (arith, low)) in
    sym (ap (λ (l : List (List ℕ)). was ++ names_told l) none ∙ append-nil was)

-- where there is a batch, there is the header
pub header_there : (file : List ℕ) (gate : ℕ) → gate ≡ 16 + length (joined (recovered file)) → 16 < gate → take 16 file ≡ header
unfolding recovered joined
header_there file gate place some = elim (cases_Bool (is_made file)) [
  | inl made ↦ (bytes_eq-Decides (take 16 file) header).0 made
  | inr other ↦
      let none : recovered file ≡ [] = ap (λ (t : Bool). if t then batches (length file) (drop 16 file) else []) other in
      absurd (omega (arith, place, some, ap (λ (l : List (List ℕ)). length (joined l)) none))
]

-- What holds at each turn of the walk: no byte is written, and up to `at` all was told.
pub record NameWalk {D : Type 0} (g : Ghosts D) (at len gate : ℕ) (first disk : D) (was now : List (List ℕ × Option ℕ)) : Type 0 where
  pub within : at ≤ len
  pub same : OnlyReads g first disk
  pub some : 16 < gate
  pub size : IsClean g disk → len ≡ length (g.seen first)
  pub told : IsClean g disk → TellsTo at (g.seen first) was now

pub walk_starts : {D : Type 0} (g : Ghosts D) (len gate : ℕ) (first disk : D) (was : List (List ℕ × Option ℕ)) → 16 < gate → gate ≤ len
    → OnlyReads g first disk → (IsClean g disk → len ≡ length (g.seen first))
    → (IsClean g first → gate ≡ 16 + length (joined (recovered (g.seen first)))) → NameWalk g 16 len gate first disk was was
walk_starts g len gate first disk was some within same size place = record {
  within = omega (arith, some, within);
  same = same;
  some = some;
  size = size;
  told = λ clean. tells_start (g.seen first) was (header_there (g.seen first) gate (place (same.clean clean)) some) (omega (arith, some, within, size clean));
}

pub walk_next : {D : Type 0} (g : Ghosts D) (at len gate : ℕ) (first old mid new : D) (head : Head) (was now next : List (List ℕ × Option ℕ))
    → NameWalk g at len gate first old was now → OnlyReads g old mid → OnlyReads g mid new → at + (25 + head.bodies + head.rows) ≤ len
    → (IsClean g new → open_head (drop at (g.seen first)) ≡ Some head)
    → (IsClean g new → next ≡ now ++ names_in (rows_of (drop at (g.seen mid)))) → NameWalk g (at + (25 + head.bodies + head.rows)) len gate first new was next
walk_next g at len gate first old mid new head was now next w one two fits found more = record {
  within = fits;
  same = reads_then g first mid new (reads_then g first old mid w.same one) two;
  some = w.some;
  size = λ clean. w.size (one.clean (two.clean clean));
  told = λ clean.
      let before = one.clean (two.clean clean) in
      let opens = (open_is (drop at (g.seen first)) head (found clean)).0 in
      tells_next (g.seen first) at (25 + head.bodies + head.rows) was now next (w.told before) opens (size_there (drop at (g.seen first)) head (found clean))
      (omega (arith, fits, w.size before))
      (more clean ∙ ap (λ (f : List ℕ). now ++ names_in (rows_of (drop at f))) (one.seen ∙ w.same.seen));
}

pub walk_ends : {D : Type 0} (g : Ghosts D) (at len gate : ℕ) (first disk : D) (was now : List (List ℕ × Option ℕ)) → NameWalk g at len gate first disk was now
    → gate ≤ at → (IsClean g first → gate ≡ 16 + length (joined (recovered (g.seen first)))) → IsClean g disk → now ≡ was ++ names_told (recovered (g.seen first))
walk_ends g at len gate first disk was now w ends place clean =
    tells_all (g.seen first) at was now (w.told clean) (omega (arith, ends, place (w.same.clean clean)))
