-- How often a test holds, and the rows that are left after a set of handles is removed.
use Rattle.pagable_pager_spec.proofs.Elements.{sum-none}
use Rattle.pagable_tables.proofs.{
  Words.{AreNewEntries, Bool, HandleNumber, HandleRow, Handles, List, Mode, NodeNumber, None, Option, Owner, RefCounts, ReleasesWithoutCascade},
  Words.{RemovesOrUnpins, Some, ap, append-nil, arith, basics, entries_of, entry, false, filter, if_there, if◌then◌else◌, is_handle, is_owned_by, is_owner},
  Words.{left_rows, length, live, not, one, only_handle, refl, rows_of, sum_by, sum_by-append, sum_by-cons, sum_by_push, times, true, unpinned, ℕ, [], ◌&&◌},
  Words.{◌++◌, ◌+◌, ◌==◌, ◌||◌, ◌∙◌, ◌∷◌, ◌≡◌, ◌≤◌},
}

pub and-left : (a b : Bool) → (a && b) ≡ true → a ≡ true
and-left a b e = grind basics

pub one-le : (b : Bool) → one b ≤ 1
one-le b = grind basics

pub there-is : {X : Type 0} (test : X → Bool) (o : Option X) → if_there test false o ≡ true → (x : X) × (o ≡ Some x) × (test x ≡ true)
there-is test (Some x) is = (x, refl, is)
there-is test None is = absurd (cc)

-- ---- rows that are left when a set of handles goes, counted and listed, and handles that leave

pub sum-most : {X : Type 0} (f g h : X → ℕ) (xs : List X) → ((x : X) → f x ≤ g x + h x) → sum_by f xs ≤ sum_by g xs + sum_by h xs
sum-most f g h [] le = omega arith
sum-most f g h (x ∷ xs) le = omega (arith, le x, sum_by-cons f x xs, sum_by-cons g x xs, sum_by-cons h x xs, sum-most f g h xs le)

-- one handle more is in the set
abbrev pub and_one : (ℕ → Bool) → ℕ → ℕ → Bool
and_one gone q r = gone r || r == q

pub times-left : (f : HandleRow → Bool) (gone : ℕ → Bool) (rows : List HandleRow) → times f (left_rows gone rows)
    ≡ times (λ h. f h && not (gone h.number.0)) rows
times-left f gone [] = refl
times-left f gone (x ∷ xs) = grind (
  basics,
  times-left f gone xs,
  sum_by-cons (λ h. one (f h && not (gone h.number.0))) x xs,
  sum_by-cons (λ h. one (f h)) x (left_rows gone xs),
)

pub left-more : (gone : ℕ → Bool) (q : ℕ) (rows : List HandleRow) → left_rows (λ r. r == q) (left_rows gone rows) ≡ left_rows (and_one gone q) rows
left-more gone q [] = refl
left-more gone q (x ∷ xs) = grind (basics, left-more gone q xs)

pub left-none : (q : ℕ) (rows : List HandleRow) → times (is_handle q) rows ≡ 0 → left_rows (λ r. r == q) rows ≡ rows
left-none q [] none = refl
left-none q (x ∷ xs) none = let a = sum_by-cons (λ h. one (is_handle q h)) x xs in grind (basics, left-none q xs (omega arith))

pub ones : (rows : List HandleRow) → sum_by (λ (h : HandleRow). 1) rows ≡ length rows
ones [] = refl
ones (x ∷ xs) = omega (arith, sum_by-cons (λ h. 1) x xs, ones xs)

pub all-kept : {X : Type 0} (list : List X) → filter (λ (x : X). true) list ≡ list
all-kept [] = refl
all-kept (x ∷ xs) = ap (λ r. x ∷ r) (all-kept xs)

-- nor is it in the list
pub kept-more : (gone : ℕ → Bool) (q : ℕ) (list : List HandleNumber) → times (λ (h : HandleNumber). h.0 == q) list ≡ 0
    → filter (λ (h : HandleNumber). not (and_one gone q h.0)) list ≡ filter (λ (h : HandleNumber). not (gone h.0)) list
kept-more gone q [] none = refl
kept-more gone q (x ∷ xs) none = let a = sum_by-cons (λ h. one (h.0 == q)) x xs in grind (basics, kept-more gone q xs (omega arith))

-- new entries pin nothing, and only the list owns them
pub entries-none : (f : HandleRow → Bool) → ((h : HandleRow) → h.mode ≡ Mode.LooseUnpinned → h.owner ≡ Owner.List → f h ≡ false)
    → (last : ℕ) (entries : List HandleRow)
    → AreNewEntries last entries → times f entries ≡ 0
entries-none f none last [] e = refl
entries-none f none last (x ∷ xs) e = grind (basics, entries-none f none (last + 1) xs e.3)

pub entries-more : (last : ℕ) (entries : List HandleRow) (x : HandleRow) → AreNewEntries last entries → x.number.0 ≡ last + length entries + 1 → x.mode
    ≡ Mode.LooseUnpinned
    → x.owner ≡ Owner.List → AreNewEntries last (entries ++ x ∷ [])
entries-more last [] x e number mode owner = (omega arith, mode, owner, tt)
entries-more last (y ∷ ys) x e number mode owner = (e.0, e.1, e.2, entries-more (last + 1) ys x e.3 (omega arith) mode owner)

pub with-entry : (f : HandleRow → ℕ) (rows : List HandleRow) (listed : Bool) (k : ℕ) (node : NodeNumber)
    → sum_by f (rows ++ entries_of listed k node) ≡ sum_by f rows + (if listed then f (entry k node) else 0)
with-entry f rows x2 k node = grind (basics, sum_by_push, append-nil)

pub gives-sums : {old new : RefCounts} {stack : List ℕ} {x : HandleRow} {stays lists : Bool} (g : ReleasesWithoutCascade old stack x stays lists new)
    (f : HandleRow → ℕ)
    → sum_by f (rows_of new) + f x
    ≡ sum_by f (rows_of old) + (if stays then f (unpinned x) else 0) + (if g.listed then f (entry (old.last_handle + 1) x.node) else 0)
gives-sums {old} {new} {x = x} g f = grind (basics, with-entry)

abbrev pub of_list : ℕ → HandleRow → Bool
of_list q h = is_handle q h && is_owned_by Owner.List h

pub none-listed : {old new : Handles} {x : HandleRow} → RemovesOrUnpins old x false new → is_owned_by Owner.List x ≡ false
    → times (of_list x.number.0) (live old.places.items) ≡ 0
none-listed {old} {x = x} leaves owner =
    let left = ap (times (of_list x.number.0)) leaves.becomes.rows ∙ times-left (of_list x.number.0) (only_handle x.number) _ in
    grind (basics, sum-none, leaves.sums (λ h. one (of_list x.number.0 h)), left)

pub none-entered : (q last : ℕ) (rows left entries : List HandleRow) → rows ≡ left ++ entries → AreNewEntries last entries → times (of_list q) rows ≡ 0
    → times (is_handle q) entries ≡ 0
none-entered q last rows left entries is new none =
    let other = λ (h : HandleRow). is_handle q h && not (is_owned_by Owner.List h) in
    let e = entries-none other (λ h mode owner. grind (basics, ap (is_owner Owner.List) owner)) _
    _ new in
    omega (
      arith,
      ap (times (of_list q)) is,
      sum_by-append (λ h. one (of_list q h)) left entries,
      sum-most (λ h. one (is_handle q h)) (λ h. one (of_list q h)) (λ h. one (other h)) entries (λ h. grind basics),
    )
