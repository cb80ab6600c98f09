-- What is stored when nothing is held, when a blob or a name is added, and when all is flushed.
use Rattle.std.proofs.Common.{◌≡◌, ◌⊎◌, inl, inr, refl, sym, ◌∙◌, ap, ap₂, subst, ℕ, ◌+◌, ◌-◌, ◌<◌, ◌≤◌, ◌^◌, true, false, Bool, if◌then◌else◌, List, []}
use Rattle.std.proofs.Common.{◌∷◌, ◌++◌, length, take, drop, arith}
use Rattle.std.proofs.Common.{append_assoc, length-append, drop-drop, drop_at, take_all, Option, Some, cond, nat_eq}
use Rattle.std.specs.Prelude.{option_map}
use Rattle.std.specs.Map.{update}
use Rattle.std.specs.Str.{IsUtf8, bytes_eq}
use Rattle.std.proofs.lemmas.Bool.{cases_Bool, eq-eqb, ne_eqb}
use Rattle.std.proofs.lemmas.Nat.{from_le_bytes-to_le_bytes_4}
use Rattle.sqlite_wal.specs.Format.{part}
use Rattle.sqlite_wal.proofs.PartLemmas.{same_parts}
use Rattle.blob_file.specs.File.{body_bytes}
use Rattle.blob_file.specs.Format.{header, joined, AreBatches}
use Rattle.blob_file.specs.Log.{SameBelow, new_batch}
use Rattle.blob_file.specs.Rows.{Body, body_at, blobs_in, is_name, key_given, named_in, names_in, nowhere, places_in, placed, place_at, row_bytes}
use Rattle.blob_file.specs.Rows.{row_of, size_of_place, size_of_row}
use Rattle.blob_file.specs.Rows.{told, AreFormed, AreWhole, stored_in}
use Rattle.blob_file.specs.declared.rows.Row.{Row}
use Rattle.blob_file.specs.declared.rows.Place.{Place}
use Rattle.blob_file.proofs.BatchFiles.{joined-push, part_front}
use Rattle.blob_file.proofs.KeyBytes.{read_back}
use Rattle.blob_file.proofs.NewBatches.{rows_of-new_batch}
use Rattle.blob_file.proofs.Placing.{IsHere, all_here, body_in_file, bytes_flushed, bytes_held, places_within, same_bodies}
use Rattle.blob_file.proofs.RowCuts.{IsRow, placed_nothing, placed_behind, placed_blob, placed_name, row_len-is, row_of-append, told_behind, told_blob}
use Rattle.blob_file.proofs.RowCuts.{told_name, told_nothing, whole-append, whole_blob, whole_name, whole_nil}
use Rattle.blob_file.proofs.Scans.{named_in-push, places_in-push}

-- the blob at a place, by its bytes
abbrev pub body_of : (Place → List ℕ) → Place → Body
body_of bytes p = record { children = p.children; bytes = bytes p }

pub idle_rows : (rows : List ℕ) → rows ≡ [] → AreWhole 0 rows
idle_rows rows none = rw none whole_nil

pub idle_places : (first : ℕ) (rows : List ℕ) (known : ℕ → Option Place) (q : ℕ) → rows ≡ [] → placed first (blobs_in rows) known q ≡ known q
idle_places first rows known q none = ap (λ (l : List ℕ). placed first (blobs_in l) known q) none ∙ placed_nothing first known q

pub idle_names : (rows : List ℕ) (known : List ℕ → Option ℕ) (q : List ℕ) → rows ≡ [] → told (names_in rows) known q ≡ known q
idle_names rows known q none = ap (λ (l : List ℕ). told (names_in l) known q) none ∙ told_nothing known q

-- where nothing is held, what is stored is what the batches have
pub idle_stored : (file bodies : List ℕ) (gate : ℕ) (bs : List (List ℕ)) (known : ℕ → Option Place) → (bs ≡ []) ⊎ (take gate file ≡ header ++ joined bs)
    → gate ≡ 16 + length (joined bs) → AreBatches bs → AreFormed bs → ((q : ℕ) → known q ≡ places_in 16 bs nowhere q)
    → (q : ℕ) → option_map (body_of (body_bytes file bodies (gate + 25))) (known q) ≡ stored_in bs q
unfolding places_in
idle_stored file bodies gate bs known (inl none) place whole formed same q =
    ap (option_map (body_of (body_bytes file bodies (gate + 25)))) (same q ∙ ap (λ (l : List (List ℕ)). places_in 16 l nowhere q) none)
    ∙ sym (ap (λ (l : List (List ℕ)). stored_in l q) none)
idle_stored file bodies gate bs known (inr front) place whole formed same q =
    same_bodies (body_of (body_bytes file bodies (gate + 25))) (body_at (header ++ joined bs)) known (places_in 16 bs nowhere)
    (λ p. p.at + size_of_place p ≤ 16 + length (joined bs)) same (places_within bs whole formed)
    (λ p within. ap (λ (b : List ℕ). record { children = p.children; bytes = b })
    (bytes_flushed file bodies (gate + 25) p (omega (arith, within, place)) ∙ body_in_file file gate bs p front (omega (arith, within, place)))) q

-- the bytes of a row are read back
pub row_back : (r : Row) → r.key < 2 ^ 128 → r.children < 2 ^ 32 → r.bytes < 2 ^ 32 → row_of (row_bytes r) ≡ r
unfolding row_of part
row_back r key children bytes = rw (read_back r.key key, from_le_bytes-to_le_bytes_4 r.children children, from_le_bytes-to_le_bytes_4 r.bytes bytes) refl

-- the row of a blob is one row, and says what it was made of
blob_row : (r : Row) → row_of (row_bytes r) ≡ r → r.children < 4294967295 → IsRow (row_bytes r) × (is_name (row_of (row_bytes r)) ≡ false)
blob_row r back few =
    let blob : is_name r ≡ false = ne_eqb r.children 4294967295 (λ is. absurd (omega (arith, few, is))) in
    (row_len-is (row_bytes r) r back ∙ ap (λ (t : Bool). 24 + (if t then r.bytes else 0)) blob, ap is_name back ∙ blob)

pub added_rows : (bodies body rows : List ℕ) (r : Row) → AreWhole (length bodies) rows → row_of (row_bytes r) ≡ r → r.children < 4294967295
    → size_of_row r ≡ length body → AreWhole (length (bodies ++ body)) (rows ++ row_bytes r)
added_rows bodies body rows r held back few size =
    let one = blob_row r back few in
    let sum : length bodies + size_of_row (row_of (row_bytes r)) ≡ length (bodies ++ body) = omega
    (arith, ap size_of_row back, size, length-append bodies body) in
    subst (λ (n : ℕ). AreWhole n (rows ++ row_bytes r)) sum (whole-append _ _ rows (row_bytes r) held (whole_blob _ one.0 one.1))

pub added_places : (first : ℕ) (bodies rows : List ℕ) (r : Row) (known new base : ℕ → Option Place) → AreWhole (length bodies) rows → row_of (row_bytes r) ≡ r
    → r.children < 4294967295
    → ((q : ℕ) → new q ≡ update nat_eq known r.key (Some (place_at (first + length bodies) r)) q) → ((q : ℕ) → known q ≡ placed first (blobs_in rows) base q)
    → (q : ℕ) → new q ≡ placed first (blobs_in (rows ++ row_bytes r)) base q
added_places first bodies rows r known new base held back few updates places q =
    let one = blob_row r back few in
    updates q
    ∙ ap (λ (x : Option Place). cond (nat_eq r.key q) (Some (place_at (first + length bodies) r)) x) (places q)
    ∙ ap (λ (x : Row). update nat_eq (placed first (blobs_in rows) base) x.key (Some (place_at (first + length bodies) x)) q) (sym back)
    ∙ sym (placed_blob (first + length bodies) (row_bytes r) (placed first (blobs_in rows) base) q one.0 one.1)
    ∙ sym (placed_behind first (length bodies) rows (row_bytes r) base q held)

-- the row of a blob says nothing of names
pub added_names : (bodies rows : List ℕ) (r : Row) (base : List ℕ → Option ℕ) (q : List ℕ) → AreWhole (length bodies) rows → row_of (row_bytes r) ≡ r
    → r.children < 4294967295
    → told (names_in (rows ++ row_bytes r)) base q ≡ told (names_in rows) base q
added_names bodies rows r base q held back few =
    let one = blob_row r back few in
    told_behind (length bodies) rows (row_bytes r) base q held ∙ told_blob (row_bytes r) (told (names_in rows) base) q one.0 one.1

-- the row of a name is one row, and says what it was made of
name_row : (r : Row) (name : List ℕ) → row_of (row_bytes r) ≡ r → r.children ≡ 4294967295 → r.bytes ≡ length name
    → IsRow (row_bytes r ++ name) × (row_of (row_bytes r ++ name) ≡ r) × (is_name (row_of (row_bytes r ++ name)) ≡ true)
name_row r name back mark size =
    let says : row_of (row_bytes r ++ name) ≡ r = row_of-append (row_bytes r) name (omega arith) ∙ back in
    let is : is_name r ≡ true = eq-eqb r.children 4294967295 mark in (
      row_len-is (row_bytes r ++ name) r says ∙ ap (λ (t : Bool). 24 + (if t then r.bytes else 0)) is ∙ omega (arith, size),
      says,
      ap is_name says ∙ is,
    )

pub named_rows : (held : ℕ) (rows name : List ℕ) (r : Row) → AreWhole held rows → row_of (row_bytes r) ≡ r → r.children ≡ 4294967295 → r.bytes ≡ length name
    → IsUtf8 name → AreWhole held (rows ++ (row_bytes r ++ name))
named_rows held rows name r whole back mark size text =
    let one = name_row r name back mark size in
    let none : held + 0 ≡ held = omega arith in
    subst (λ (n : ℕ). AreWhole n (rows ++ (row_bytes r ++ name))) none (whole-append held 0 rows (row_bytes r ++ name) whole (whole_name _ one.0 one.2 text))

pub named_names : (held : ℕ) (rows name : List ℕ) (r : Row) (known new base : List ℕ → Option ℕ) → AreWhole held rows → row_of (row_bytes r) ≡ r
    → r.children ≡ 4294967295 → r.bytes ≡ length name
    → ((q : List ℕ) → new q ≡ update bytes_eq known name (key_given r.key) q) → ((q : List ℕ) → known q ≡ told (names_in rows) base q)
    → (q : List ℕ) → new q ≡ told (names_in (rows ++ (row_bytes r ++ name))) base q
named_names held rows name r known new base whole back mark size updates names q =
    let one = name_row r name back mark size in
    updates q
    ∙ ap (λ (x : Option ℕ). cond (bytes_eq name q) (key_given r.key) x) (names q)
    ∙ ap (λ (x : Row). update bytes_eq (told (names_in rows) base) name (key_given x.key) q) (sym one.1)
    ∙ sym (told_name (row_bytes r ++ name) (told (names_in rows) base) q one.0 one.2)
    ∙ sym (told_behind held rows (row_bytes r ++ name) base q whole)

-- and nothing of blobs
pub named_places : (first held : ℕ) (rows name : List ℕ) (r : Row) (base : ℕ → Option Place) (q : ℕ) → AreWhole held rows → row_of (row_bytes r) ≡ r
    → r.children ≡ 4294967295 → r.bytes ≡ length name
    → placed first (blobs_in (rows ++ (row_bytes r ++ name))) base q ≡ placed first (blobs_in rows) base q
named_places first held rows name r base q whole back mark size =
    let one = name_row r name back mark size in
    placed_behind first held rows (row_bytes r ++ name) base q whole
    ∙ placed_name (first + held) (row_bytes r ++ name) (placed first (blobs_in rows) base) q one.0 one.2

part_back : (a b : List ℕ) (k n : ℕ) → part (a ++ b) (length a + k) n ≡ part b k n
unfolding part
part_back a b k n = ap (take n) (sym (drop-drop k (length a) (a ++ b)) ∙ ap (drop k) (drop_at a b (length a) refl))

-- one blob more
pub added_stored : (file bodies body : List ℕ) (gate : ℕ) (r : Row) (known new : ℕ → Option Place)
    → ((q : ℕ) (p : Place) → known q ≡ Some p → IsHere gate (length bodies) p) → size_of_row r ≡ length body
    → ((q : ℕ) → new q ≡ update nat_eq known r.key (Some (place_at (gate + 25 + length bodies) r)) q)
    → (q : ℕ) → option_map (body_of (body_bytes file (bodies ++ body) (gate + 25))) (new q) ≡ update nat_eq
    (λ k. option_map (body_of (body_bytes file bodies (gate + 25))) (known k)) r.key (Some (record { children = r.children; bytes = body })) q
unfolding part
added_stored file bodies body gate r known new here size updates q = ap (option_map now) (updates q) ∙ elim (cases_Bool (nat_eq r.key q)) [
  | inl same ↦
      let p = place_at (gate + 25 + length bodies) r in
      let behind : gate + 25 + length bodies - (gate + 25) ≡ length bodies = omega arith in
      let bytes : body_bytes file (bodies ++ body) (gate + 25) p ≡ body =
      bytes_held file (bodies ++ body) (gate + 25) p (omega arith) ∙ ap (λ (k : ℕ). take (size_of_row r) (drop k (bodies ++ body))) behind
      ∙ ap (take (size_of_row r)) (drop_at bodies body (length bodies) refl) ∙ take_all (size_of_row r) body (omega (arith, size)) in
      ap (λ (t : Bool). option_map now (cond t (Some p) (known q))) same ∙ ap (λ (b : List ℕ). Some (record { children = r.children; bytes = b })) bytes
      ∙ sym (ap (λ (t : Bool). cond t (Some (record { children = r.children; bytes = body })) (option_map was (known q))) same)
  | inr other ↦
      ap (λ (t : Bool). option_map now (cond t (Some (place_at (gate + 25 + length bodies) r)) (known q))) other
      ∙ same_bodies now was known known (IsHere gate (length bodies)) (λ k. refl) here stays q
      ∙ sym (ap (λ (t : Bool). cond t (Some (record { children = r.children; bytes = body })) (option_map was (known q))) other)
]
  where
    now : Place → Body
    now = body_of (body_bytes file (bodies ++ body) (gate + 25))

    was : Place → Body
    was = body_of (body_bytes file bodies (gate + 25))

    stays : (p : Place) → IsHere gate (length bodies) p → now p ≡ was p
    stays p (inl low) = ap (λ (b : List ℕ). record { children = p.children; bytes = b })
        (bytes_flushed file (bodies ++ body) (gate + 25) p (omega (arith, low)) ∙ sym (bytes_flushed file bodies (gate + 25) p (omega (arith, low))))
    stays p (inr high) = ap (λ (b : List ℕ). record { children = p.children; bytes = b })
        (bytes_held file (bodies ++ body) (gate + 25) p high.0 ∙ part_front bodies body (p.at - (gate + 25)) (size_of_place p) (omega (arith, high))
        ∙ sym (bytes_held file bodies (gate + 25) p high.0))

-- the places once the held batch counts
pub flushed_places : (gate : ℕ) (bs : List (List ℕ)) (bodies rows : List ℕ) (q : ℕ) → gate ≡ 16 + length (joined bs) → length bodies < 2 ^ 64
    → length rows < 2 ^ 64 → placed (gate + 25) (blobs_in rows) (places_in 16 bs nowhere) q ≡ places_in 16 (bs ++ new_batch bodies rows ∷ []) nowhere q
flushed_places gate bs bodies rows q place few short =
    ap₂ (λ (k : ℕ) (l : List ℕ). placed (k + 25) (blobs_in l) (places_in 16 bs nowhere) q) place (sym (rows_of-new_batch bodies rows few short))
    ∙ sym (places_in-push 16 bs (new_batch bodies rows) nowhere q)

-- the names once the held batch counts
pub flushed_names : (bs : List (List ℕ)) (bodies rows name : List ℕ) → length bodies < 2 ^ 64 → length rows < 2 ^ 64
    → told (names_in rows) (named_in bs) name ≡ named_in (bs ++ new_batch bodies rows ∷ []) name
flushed_names bs bodies rows name few short =
    ap (λ (l : List ℕ). told (names_in l) (named_in bs) name) (sym (rows_of-new_batch bodies rows few short))
    ∙ sym (named_in-push bs (new_batch bodies rows) name)

-- what was held is then what the batches have
pub flushed_stored : (file bodies rows : List ℕ) (gate : ℕ) (bs : List (List ℕ)) (known : ℕ → Option Place) → take gate file ≡ header ++ joined bs
    → gate ≡ 16 + length (joined bs) → AreBatches bs → AreFormed bs → AreWhole (length bodies) rows → length bodies < 2 ^ 64 → length rows < 2 ^ 64
    → ((q : ℕ) → known q ≡ placed (gate + 25) (blobs_in rows) (places_in 16 bs nowhere) q)
    → (q : ℕ) → stored_in (bs ++ new_batch bodies rows ∷ []) q ≡ option_map (body_of (body_bytes file bodies (gate + 25))) (known q)
unfolding part
flushed_stored file bodies rows gate bs known front place whole formed held few short same q =
    same_bodies (body_at (header ++ joined (bs ++ new_batch bodies rows ∷ []))) was (places_in 16 (bs ++ new_batch bodies rows ∷ []) nowhere) known
    (IsHere gate (length bodies))
    (λ k. sym (same k ∙ flushed_places gate bs bodies rows k place few short))
    (λ k p found. all_here gate (length bodies) bs rows place whole formed held k p (sym (same k) ∙ found)) each q
  where
    was : Place → Body
    was = body_of (body_bytes file bodies (gate + 25))

    parts : header ++ joined (bs ++ new_batch bodies rows ∷ []) ≡ (header ++ joined bs) ++ new_batch bodies rows
    parts = ap (λ (l : List ℕ). header ++ l) (joined-push bs (new_batch bodies rows)) ∙ sym (append_assoc header (joined bs) (new_batch bodies rows))

    each : (p : Place) → IsHere gate (length bodies) p → body_at (header ++ joined (bs ++ new_batch bodies rows ∷ [])) p ≡ was p
    each p (inl low) = ap (λ (b : List ℕ). record { children = p.children; bytes = b })
        (ap (λ (l : List ℕ). part l p.at (size_of_place p)) parts ∙ part_front (header ++ joined bs) (new_batch bodies rows) p.at (size_of_place p)
        (omega (arith, low, place))
        ∙ sym (body_in_file file gate bs p front low) ∙ sym (bytes_flushed file bodies (gate + 25) p (omega (arith, low))))
    each p (inr high) =
        let k = p.at - (gate + 25) in
        let there : p.at ≡ length (header ++ joined bs) + (25 + k) = omega (arith, high, place) in
        ap (λ (b : List ℕ). record { children = p.children; bytes = b })
        (ap₂ (λ (l : List ℕ) (x : ℕ). part l x (size_of_place p)) parts there
        ∙ part_back (header ++ joined bs) (new_batch bodies rows) (25 + k) (size_of_place p)
        ∙ ap (take (size_of_place p)) (sym (drop-drop k 25 (new_batch bodies rows)))
        ∙ part_front bodies rows k (size_of_place p) (omega (arith, high)) ∙ sym (bytes_held file bodies (gate + 25) p high.0))

-- a flush that only failed to write leaves what is stored
pub kept_stored : (old new bodies : List ℕ) (gate : ℕ) (known : ℕ → Option Place) → ((q : ℕ) (p : Place) → known q ≡ Some p → IsHere gate (length bodies) p)
    → gate ≤ length old → SameBelow gate old new
    → (q : ℕ) → option_map (body_of (body_bytes new bodies (gate + 25))) (known q) ≡ option_map (body_of (body_bytes old bodies (gate + 25))) (known q)
kept_stored old new bodies gate known here within below q =
    same_bodies (body_of (body_bytes new bodies (gate + 25))) (body_of (body_bytes old bodies (gate + 25))) known known (IsHere gate (length bodies))
    (λ k. refl) here each q
  where
    each : (p : Place) → IsHere gate (length bodies) p → body_of (body_bytes new bodies (gate + 25)) p ≡ body_of (body_bytes old bodies (gate + 25)) p
    each p (inl low) = ap (λ (b : List ℕ). record { children = p.children; bytes = b })
        (bytes_flushed new bodies (gate + 25) p (omega (arith, low)) ∙ same_parts new old p.at p.at (size_of_place p) (omega (arith, low, below.within))
        (omega (arith, low, within)) (λ i under. below.each (p.at + i) (omega (arith, low, under)))
        ∙ sym (bytes_flushed old bodies (gate + 25) p (omega (arith, low))))
    each p (inr high) = ap (λ (b : List ℕ). record { children = p.children; bytes = b })
        (bytes_held new bodies (gate + 25) p high.0 ∙ sym (bytes_held old bodies (gate + 25) p high.0))
