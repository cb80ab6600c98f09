-- How the bytes of rows are cut into rows, and what they say when more rows stand behind them.
use Rattle.std.proofs.Common.{◌≡◌, ◌≢◌, ◌⊎◌, inl, inr, refl, sym, ◌∙◌, ap, ap₂, subst, ℕ, zero, suc, ◌+◌, ◌-◌, ◌<◌, ◌≤◌, Bool, true, false}
use Rattle.std.proofs.Common.{if◌then◌else◌, List, [], ◌∷◌, ◌++◌, length, take, drop, arith, append_assoc, append-nil, length-append, length-take}
use Rattle.std.proofs.Common.{length-drop, take-append-drop, take_at, drop_at, Option, Some, None, nat_eq}
use Rattle.std.specs.HashMap.{get, get_by_text}
use Rattle.std.specs.Map.{update}
use Rattle.std.specs.Str.{IsUtf8, bytes_eq}
use Rattle.std.proofs.lemmas.Bool.{cases_Bool, cases_lt, eq-eqb, le-leb, lt-leb, ne_eqb}
use Rattle.std.proofs.lemmas.List.{take-append-le}
use Rattle.std.proofs.lemmas.Str.{IsUtf8-from_is_utf8, is_utf8-from_IsUtf8}
use Rattle.blob_file.specs.Format.{joined}
use Rattle.blob_file.specs.Rows.{row_of, is_name, row_len, cut_rows, rows_in, blobs_of, blobs_in, names_of, names_in, name_len, key_given}
use Rattle.blob_file.specs.Rows.{size_of_row, total, place_at, placed, told, AreTexts, AreWhole, Learns}
use Rattle.blob_file.specs.declared.index.Index.{Index}
use Rattle.blob_file.specs.declared.rows.Row.{Row}
use Rattle.blob_file.specs.declared.rows.Place.{Place}
use Rattle.blob_file.proofs.Indexes.{placed_same, row_of_front, told_same}

pub given_none : (key : ℕ) → key ≡ 0 → key_given key ≡ None
given_none key none = ap (λ (t : Bool). if t then None else Some key) (eq-eqb key 0 none)

pub given_some : (key : ℕ) → key ≢ 0 → key_given key ≡ Some key
given_some key some = ap (λ (t : Bool). if t then None else Some key) (ne_eqb key 0 some)

-- these bytes are one row
abbrev pub IsRow : List ℕ → Type 0
IsRow e = row_len e ≡ length e

abbrev pub AreRows : List (List ℕ) → Type 0
AreRows [] = Unit {0}
AreRows (e ∷ es) = IsRow e × AreRows es

pub row_len-least : (b : List ℕ) → 24 ≤ row_len b
unfolding row_len
row_len-least b = omega arith

pub row_len-is : (b : List ℕ) (r : Row) → row_of b ≡ r → row_len b ≡ 24 + name_len r
unfolding row_len
row_len-is b r is = ap (λ (x : Row). 24 + name_len x) is

-- what stands behind the first 24 bytes doesn't count
pub row_of-append : (e r : List ℕ) → 24 ≤ length e → row_of (e ++ r) ≡ row_of e
row_of-append e r long = sym (row_of_front (e ++ r)) ∙ ap row_of (take-append-le 24 e r long) ∙ row_of_front e

pub row_len-append : (e r : List ℕ) → 24 ≤ length e → row_len (e ++ r) ≡ row_len e
unfolding row_len
row_len-append e r long = ap (λ (x : Row). 24 + name_len x) (row_of-append e r long)

-- the row at the front says what the bytes say
pub first_row_of : (b : List ℕ) → row_len b ≤ length b → row_of (take (row_len b) b) ≡ row_of b
first_row_of b within =
    let long : 24 ≤ length (take (row_len b) b) = omega (arith, length-take (row_len b) b, row_len-least b) in
    sym (row_of-append (take (row_len b) b) (drop (row_len b) b) long) ∙ ap row_of (take-append-drop (row_len b) b)

-- the row at the front, alone
pub first_row : (b : List ℕ) → row_len b ≤ length b → IsRow (take (row_len b) b)
first_row b within =
    let size : length (take (row_len b) b) ≡ row_len b = omega (arith, length-take (row_len b) b) in
    let long : 24 ≤ length (take (row_len b) b) = omega (arith, row_len-least b) in
    sym (row_len-append (take (row_len b) b) (drop (row_len b) b) long) ∙ ap row_len (take-append-drop (row_len b) b) ∙ sym size

cut_next : (n : ℕ) (b : List ℕ) → row_len b ≤ length b → cut_rows (suc n) b ≡ take (row_len b) b ∷ cut_rows n (drop (row_len b) b)
unfolding cut_rows
cut_next n b within = ap (λ (t : Bool). if t then take (row_len b) b ∷ cut_rows n (drop (row_len b) b) else []) (le-leb (row_len b) (length b) within)

cut_end : (n : ℕ) (b : List ℕ) → length b < row_len b → cut_rows n b ≡ []
unfolding cut_rows
cut_end zero b short = refl
cut_end (suc n) b short = ap (λ (t : Bool). if t then take (row_len b) b ∷ cut_rows n (drop (row_len b) b) else []) (lt-leb (row_len b) (length b) short)

-- one row in front
cut_row : (n : ℕ) (e r : List ℕ) → IsRow e → cut_rows (suc n) (e ++ r) ≡ e ∷ cut_rows n r
cut_row n e r is =
    let size : row_len (e ++ r) ≡ length e = row_len-append e r (omega (arith, is, row_len-least e)) ∙ is in
    cut_next n (e ++ r) (omega (arith, size, length-append e r))
    ∙ ap₂ (λ (x y : List ℕ). x ∷ cut_rows n y) (take_at e r (row_len (e ++ r)) (sym size)) (drop_at e r (row_len (e ++ r)) (sym size))

cut_joined : (es : List (List ℕ)) (n m : ℕ) (r : List ℕ) → n ≡ length es + m → AreRows es → cut_rows n (joined es ++ r) ≡ es ++ cut_rows m r
unfolding joined
cut_joined [] n m r e all = ap (λ (k : ℕ). cut_rows k r) (omega (arith, e))
cut_joined (x ∷ es) zero m r e all = absurd (omega (arith, e))
cut_joined (x ∷ es) (suc n) m r e all =
    ap (cut_rows (suc n)) (append_assoc x (joined es) r) ∙ cut_row n x (joined es ++ r) all.0
    ∙ ap (λ (l : List (List ℕ)). x ∷ l) (cut_joined es n m r (omega (arith, e)) all.1)

few_rows : (es : List (List ℕ)) → AreRows es → length es ≤ length (joined es)
unfolding joined
few_rows [] all = omega arith
few_rows (e ∷ es) all = omega (arith, few_rows es all.1, all.0, row_len-least e, length-append e (joined es))

cut_all : (n : ℕ) (b : List ℕ) → AreRows (cut_rows n b)
unfolding cut_rows
cut_all zero b = tt
cut_all (suc n) b = elim (nat_cases (row_len b) (length b)) [
  | inl within ↦ subst AreRows (sym (cut_next n b within)) (first_row b within, cut_all n (drop (row_len b) b))
  | inr short ↦ subst AreRows (sym (cut_end (suc n) b short)) tt
]
  where
    nat_cases : (m k : ℕ) → (m ≤ k) ⊎ (k < m)
    nat_cases m k = elim (cases_lt k m) [ inl low ↦ inr low | inr high ↦ inl high ]

-- more turns than there are bytes cut no more
cut_enough : (n m : ℕ) (b : List ℕ) → length b ≤ n → length b ≤ m → cut_rows n b ≡ cut_rows m b
cut_enough zero m b few more = cut_end zero b (omega (arith, row_len-least b)) ∙ sym (cut_end m b (omega (arith, row_len-least b)))
cut_enough (suc n) zero b few more = cut_end (suc n) b (omega (arith, row_len-least b)) ∙ sym (cut_end zero b (omega (arith, row_len-least b)))
cut_enough (suc n) (suc m) b few more = elim (cases_lt (length b) (row_len b)) [
  | inl short ↦ cut_end (suc n) b short ∙ sym (cut_end (suc m) b short)
  | inr within ↦
      let fewer : length (drop (row_len b) b) + 24 ≤ length b = omega (arith, row_len-least b, length-drop (row_len b) b) in
      cut_next n b within
      ∙ ap (λ (l : List (List ℕ)). take (row_len b) b ∷ l) (cut_enough n m (drop (row_len b) b) (omega (arith, fewer)) (omega (arith, fewer)))
      ∙ sym (cut_next m b within)
]

pub are_rows : (b : List ℕ) → AreRows (rows_in b)
unfolding rows_in
are_rows b = cut_all (length b) b

pub rows_in_nil : rows_in [] ≡ []
unfolding rows_in cut_rows
rows_in_nil = refl

pub rows_in_short : (b : List ℕ) → length b < row_len b → rows_in b ≡ []
unfolding rows_in
rows_in_short b short = cut_end (length b) b short

rows_in_joined : (es : List (List ℕ)) (b : List ℕ) → AreRows es → rows_in (joined es ++ b) ≡ es ++ rows_in b
unfolding rows_in
rows_in_joined es b all =
    let size : length (joined es ++ b) ≡ length (joined es) + length b = length-append (joined es) b in
    let few = few_rows es all in
    cut_joined es (length (joined es ++ b)) (length (joined es ++ b) - length es) b (omega (arith, size, few)) all
    ∙ ap (λ (l : List (List ℕ)). es ++ l) (cut_enough (length (joined es ++ b) - length es) (length b) b (omega (arith, size, few)) (omega arith))

-- the rows of whole rows and of what stands behind them
pub rows_in-append : (a b : List ℕ) → joined (rows_in a) ≡ a → rows_in (a ++ b) ≡ rows_in a ++ rows_in b
rows_in-append a b whole = ap (λ (l : List ℕ). rows_in (l ++ b)) (sym whole) ∙ rows_in_joined (rows_in a) b (are_rows a)

pub rows_in_one : (e : List ℕ) → IsRow e → rows_in e ≡ e ∷ []
unfolding joined
rows_in_one e is =
    ap rows_in (sym (append-nil e) ∙ sym (append-nil (e ++ [])))
    ∙ rows_in_joined (e ∷ []) [] (is, tt) ∙ ap (λ (l : List (List ℕ)). e ∷ l) rows_in_nil

pub joined_one : (e : List ℕ) → IsRow e → joined (rows_in e) ≡ e
unfolding joined
joined_one e is = ap joined (rows_in_one e is) ∙ append-nil e

joined-append : (xs ys : List (List ℕ)) → joined (xs ++ ys) ≡ joined xs ++ joined ys
unfolding joined
joined-append [] ys = refl
joined-append (x ∷ xs) ys = ap (λ (l : List ℕ). x ++ l) (joined-append xs ys) ∙ sym (append_assoc x (joined xs) (joined ys))

-- what rows say, and those behind them
blobs_of-append : (xs ys : List (List ℕ)) → blobs_of (xs ++ ys) ≡ blobs_of xs ++ blobs_of ys
unfolding blobs_of
blobs_of-append [] ys = refl
blobs_of-append (x ∷ xs) ys = elim (cases_Bool (is_name (row_of x))) [
  | inl name ↦
      ap (λ (t : Bool). if t then blobs_of (xs ++ ys) else row_of x ∷ blobs_of (xs ++ ys)) name ∙ blobs_of-append xs ys
      ∙ sym (ap (λ (t : Bool). (if t then blobs_of xs else row_of x ∷ blobs_of xs) ++ blobs_of ys) name)
  | inr blob ↦
      ap (λ (t : Bool). if t then blobs_of (xs ++ ys) else row_of x ∷ blobs_of (xs ++ ys)) blob
      ∙ ap (λ (l : List Row). row_of x ∷ l) (blobs_of-append xs ys)
      ∙ sym (ap (λ (t : Bool). (if t then blobs_of xs else row_of x ∷ blobs_of xs) ++ blobs_of ys) blob)
]

abbrev pub naming_of : List ℕ → List ℕ × Option ℕ
naming_of e = (drop 24 e, key_given (row_of e).key)

names_of-append : (xs ys : List (List ℕ)) → names_of (xs ++ ys) ≡ names_of xs ++ names_of ys
unfolding names_of
names_of-append [] ys = refl
names_of-append (x ∷ xs) ys = elim (cases_Bool (is_name (row_of x))) [
  | inl name ↦
      ap (λ (t : Bool). if t then naming_of x ∷ names_of (xs ++ ys) else names_of (xs ++ ys)) name
      ∙ ap (λ (l : List (List ℕ × Option ℕ)). naming_of x ∷ l) (names_of-append xs ys)
      ∙ sym (ap (λ (t : Bool). (if t then naming_of x ∷ names_of xs else names_of xs) ++ names_of ys) name)
  | inr blob ↦
      ap (λ (t : Bool). if t then naming_of x ∷ names_of (xs ++ ys) else names_of (xs ++ ys)) blob ∙ names_of-append xs ys
      ∙ sym (ap (λ (t : Bool). (if t then naming_of x ∷ names_of xs else names_of xs) ++ names_of ys) blob)
]

total-append : (xs ys : List Row) → total (xs ++ ys) ≡ total xs + total ys
unfolding total
total-append [] ys = omega arith
total-append (x ∷ xs) ys = omega (arith, total-append xs ys)

placed-append : (at : ℕ) (xs ys : List Row) (known : ℕ → Option Place) (q : ℕ) → placed at (xs ++ ys) known q ≡ placed (at + total xs) ys (placed at xs known) q
unfolding placed total
placed-append at [] ys known q = let here : at ≡ at + 0 = omega arith in ap (λ (k : ℕ). placed k ys known q) here
placed-append at (x ∷ xs) ys known q =
    let there : at + size_of_row x + total xs ≡ at + (size_of_row x + total xs) = omega arith in
    let next = update nat_eq known x.key (Some (place_at at x)) in
    placed-append (at + size_of_row x) xs ys next q ∙ ap (λ (k : ℕ). placed k ys (placed (at + size_of_row x) xs next) q) there

told-append : (xs ys : List (List ℕ × Option ℕ)) (known : List ℕ → Option ℕ) (q : List ℕ) → told (xs ++ ys) known q ≡ told ys (told xs known) q
unfolding told
told-append [] ys known q = refl
told-append (x ∷ xs) ys known q = told-append xs ys (update bytes_eq known x.0 x.1) q

texts-append : (xs ys : List (List ℕ × Option ℕ)) → AreTexts xs → AreTexts ys → AreTexts (xs ++ ys)
texts-append [] ys first second = second
texts-append (x ∷ xs) ys first second = (first.0, texts-append xs ys first.1 second)

texts_behind : (xs ys : List (List ℕ × Option ℕ)) → AreTexts (xs ++ ys) → AreTexts ys
texts_behind [] ys all = all
texts_behind (x ∷ xs) ys all = texts_behind xs ys all.1

pub blobs_in-append : (a b : List ℕ) → joined (rows_in a) ≡ a → blobs_in (a ++ b) ≡ blobs_in a ++ blobs_in b
blobs_in-append a b whole = ap blobs_of (rows_in-append a b whole) ∙ blobs_of-append (rows_in a) (rows_in b)

pub names_in-append : (a b : List ℕ) → joined (rows_in a) ≡ a → names_in (a ++ b) ≡ names_in a ++ names_in b
names_in-append a b whole = ap names_of (rows_in-append a b whole) ∙ names_of-append (rows_in a) (rows_in b)

-- no rows
pub whole_nil : AreWhole 0 []
unfolding rows_in cut_rows joined blobs_of names_of total
whole_nil = record { whole = refl; texts = tt; sized = refl }

pub whole-append : (m n : ℕ) (a b : List ℕ) → AreWhole m a → AreWhole n b → AreWhole (m + n) (a ++ b)
whole-append m n a b first second = record {
  whole = ap joined (rows_in-append a b first.whole) ∙ joined-append (rows_in a) (rows_in b) ∙ ap₂ (λ (x y : List ℕ). x ++ y) first.whole second.whole;
  texts = subst AreTexts (sym (names_in-append a b first.whole)) (texts-append (names_in a) (names_in b) first.texts second.texts);
  sized = ap total (blobs_in-append a b first.whole) ∙ total-append (blobs_in a) (blobs_in b) ∙ omega (arith, first.sized, second.sized);
}

-- what stands behind whole rows is whole if all is
pub whole_behind : (m n : ℕ) (a b : List ℕ) → AreWhole m a → AreWhole n (a ++ b) → AreWhole (n - m) b
whole_behind m n a b first all = record {
  whole = append_cancel a (joined (rows_in b)) b (ap (λ (l : List ℕ). l ++ joined (rows_in b)) (sym first.whole)
      ∙ sym (joined-append (rows_in a) (rows_in b)) ∙ sym (ap joined (rows_in-append a b first.whole)) ∙ all.whole);
  texts = texts_behind (names_in a) (names_in b) (subst AreTexts (names_in-append a b first.whole) all.texts);
  sized = omega (arith, first.sized, all.sized, ap total (blobs_in-append a b first.whole), total-append (blobs_in a) (blobs_in b));
}
  where
    append_cancel : (x y z : List ℕ) → x ++ y ≡ x ++ z → y ≡ z
    append_cancel [] y z e = e
    append_cancel (k ∷ x) y z e = append_cancel x y z (ap (drop 1) e)

-- the places once the rows behind whole ones are taken too
pub placed_behind : (first m : ℕ) (a b : List ℕ) (known : ℕ → Option Place) (key : ℕ) → AreWhole m a
    → placed first (blobs_in (a ++ b)) known key ≡ placed (first + m) (blobs_in b) (placed first (blobs_in a) known) key
placed_behind first m a b known key whole =
    let there : first + total (blobs_in a) ≡ first + m = omega (arith, whole.sized) in
    ap (λ (rs : List Row). placed first rs known key) (blobs_in-append a b whole.whole)
    ∙ placed-append first (blobs_in a) (blobs_in b) known key
    ∙ ap (λ (k : ℕ). placed k (blobs_in b) (placed first (blobs_in a) known) key) there

pub told_behind : (m : ℕ) (a b : List ℕ) (known : List ℕ → Option ℕ) (name : List ℕ) → AreWhole m a
    → told (names_in (a ++ b)) known name ≡ told (names_in b) (told (names_in a) known) name
told_behind m a b known name whole =
    ap (λ (ns : List (List ℕ × Option ℕ)). told ns known name) (names_in-append a b whole.whole) ∙ told-append (names_in a) (names_in b) known name

-- no rows say nothing
pub placed_nothing : (first : ℕ) (known : ℕ → Option Place) (key : ℕ) → placed first (blobs_in []) known key ≡ known key
unfolding rows_in cut_rows blobs_of placed
placed_nothing first known key = refl

pub told_nothing : (known : List ℕ → Option ℕ) (name : List ℕ) → told (names_in []) known name ≡ known name
unfolding rows_in cut_rows names_of told
told_nothing known name = refl

pub learns_nil : (first : ℕ) (index : Index) → Learns first [] index index
learns_nil first index = record {
  places = λ key. sym (placed_nothing first (get nat_eq index.places) key);
  names = λ name. sym (told_nothing (get_by_text index.names) name);
}

pub learns-append : (first m : ℕ) (a b : List ℕ) (old mid new : Index) → AreWhole m a → Learns first a old mid → Learns (first + m) b mid new
    → Learns first (a ++ b) old new
learns-append first m a b old mid new whole one two = record {
  places = λ key.
      two.places key
      ∙ placed_same (first + m) (blobs_in b) (get nat_eq mid.places) (placed first (blobs_in a) (get nat_eq old.places)) one.places key
      ∙ sym (placed_behind first m a b (get nat_eq old.places) key whole);
  names = λ name.
      two.names name
      ∙ told_same (names_in b) (get_by_text mid.names) (told (names_in a) (get_by_text old.names)) one.names name
      ∙ sym (told_behind m a b (get_by_text old.names) name whole);
}

-- a row that isn't whole makes the rows not whole
pub not_short : (n : ℕ) (b : List ℕ) → 0 < length b → length b < row_len b → AreWhole n b → ⊥
unfolding joined
not_short n b some short all = absurd (omega (arith, ap (λ (l : List ℕ). length l) (sym (ap joined (rows_in_short b short)) ∙ all.whole), some))

-- the first row, and the rest
pub rows_first : (b : List ℕ) → row_len b ≤ length b → rows_in b ≡ take (row_len b) b ∷ rows_in (drop (row_len b) b)
rows_first b within =
    let e = take (row_len b) b in
    let is = first_row b within in
    ap rows_in (sym (take-append-drop (row_len b) b)) ∙ rows_in-append e (drop (row_len b) b) (joined_one e is)
    ∙ ap (λ (l : List (List ℕ)). l ++ rows_in (drop (row_len b) b)) (rows_in_one e is)

-- what one row says
pub one_name : (e : List ℕ) → IsRow e → is_name (row_of e) ≡ true → (blobs_in e ≡ []) × (names_in e ≡ naming_of e ∷ [])
unfolding blobs_of names_of
one_name e is name = (
  ap blobs_of (rows_in_one e is) ∙ ap (λ (t : Bool). if t then [] else row_of e ∷ []) name,
  ap names_of (rows_in_one e is) ∙ ap (λ (t : Bool). if t then naming_of e ∷ [] else []) name,
)

pub one_blob : (e : List ℕ) → IsRow e → is_name (row_of e) ≡ false → (blobs_in e ≡ row_of e ∷ []) × (names_in e ≡ [])
unfolding blobs_of names_of
one_blob e is blob = (
  ap blobs_of (rows_in_one e is) ∙ ap (λ (t : Bool). if t then [] else row_of e ∷ []) blob,
  ap names_of (rows_in_one e is) ∙ ap (λ (t : Bool). if t then naming_of e ∷ [] else []) blob,
)

pub whole_name : (e : List ℕ) → IsRow e → is_name (row_of e) ≡ true → IsUtf8 (drop 24 e) → AreWhole 0 e
unfolding total
whole_name e is name text = record {
  whole = joined_one e is;
  texts = subst AreTexts (sym (one_name e is name).1) (is_utf8-from_IsUtf8 (drop 24 e) text, tt);
  sized = ap total (one_name e is name).0;
}

pub whole_blob : (e : List ℕ) → IsRow e → is_name (row_of e) ≡ false → AreWhole (size_of_row (row_of e)) e
unfolding total
whole_blob e is blob = record {
  whole = joined_one e is;
  texts = subst AreTexts (sym (one_blob e is blob).1) tt;
  sized = ap total (one_blob e is blob).0 ∙ omega arith;
}

-- what is told by one row
pub told_name : (e : List ℕ) (known : List ℕ → Option ℕ) (q : List ℕ) → IsRow e → is_name (row_of e) ≡ true
    → told (names_in e) known q ≡ update bytes_eq known (drop 24 e) (key_given (row_of e).key) q
unfolding told
told_name e known q is name = ap (λ (ns : List (List ℕ × Option ℕ)). told ns known q) (one_name e is name).1

pub told_blob : (e : List ℕ) (known : List ℕ → Option ℕ) (q : List ℕ) → IsRow e → is_name (row_of e) ≡ false → told (names_in e) known q ≡ known q
unfolding told
told_blob e known q is blob = ap (λ (ns : List (List ℕ × Option ℕ)). told ns known q) (one_blob e is blob).1

pub placed_name : (at : ℕ) (e : List ℕ) (known : ℕ → Option Place) (q : ℕ) → IsRow e → is_name (row_of e) ≡ true → placed at (blobs_in e) known q ≡ known q
unfolding placed
placed_name at e known q is name = ap (λ (rs : List Row). placed at rs known q) (one_name e is name).0

pub placed_blob : (at : ℕ) (e : List ℕ) (known : ℕ → Option Place) (q : ℕ) → IsRow e → is_name (row_of e) ≡ false
    → placed at (blobs_in e) known q ≡ update nat_eq known (row_of e).key (Some (place_at at (row_of e))) q
unfolding placed
placed_blob at e known q is blob = ap (λ (rs : List Row). placed at rs known q) (one_blob e is blob).0

-- the first of whole rows
pub text_of_first : (n : ℕ) (b : List ℕ) → row_len b ≤ length b → is_name (row_of b) ≡ true → AreWhole n b → IsUtf8 (drop 24 (take (row_len b) b))
unfolding names_of
text_of_first n b within name all =
    let e = take (row_len b) b in
    let is : is_name (row_of e) ≡ true = ap is_name (first_row_of b within) ∙ name in
    let says : names_in b ≡ naming_of e ∷ names_in (drop (row_len b) b) =
    ap names_of (rows_first b within) ∙ ap (λ (t : Bool). if t then naming_of e ∷ names_in (drop (row_len b) b) else names_in (drop (row_len b) b)) is in
    IsUtf8-from_is_utf8 (drop 24 (take (row_len b) b)) (subst AreTexts says all.texts).0

pub size_of_first : (n : ℕ) (b : List ℕ) → row_len b ≤ length b → is_name (row_of b) ≡ false → AreWhole n b → size_of_row (row_of b) ≤ n
unfolding blobs_of total
size_of_first n b within blob all =
    let e = take (row_len b) b in
    let is : is_name (row_of e) ≡ false = ap is_name (first_row_of b within) ∙ blob in
    let says : blobs_in b ≡ row_of e ∷ blobs_in (drop (row_len b) b) =
    ap blobs_of (rows_first b within) ∙ ap (λ (t : Bool). if t then blobs_in (drop (row_len b) b) else row_of e ∷ blobs_in (drop (row_len b) b)) is in
    omega (arith, all.sized, ap total says, ap size_of_row (first_row_of b within))
