-- What is copied of versions and roots.
use Rattle.blobctl.specs.{Kept.{AreCopied, IsAmong, Keeps, kept_rows, rows_of}, Shown.{Stays, View}}
use Rattle.blobctl.specs.declared.keep.KeptVersion.{KeptVersion}
use Rattle.pagable_file.specs.declared.root_log.LoggedRoot.{LoggedRoot}
use Rattle.std.proofs.lemmas.Bool.Decides.{nat_tests}
use Rattle.pagable_core.specs.Roots.{ListsEach}
use Rattle.pagable_file.specs.Copies.{IsCopiedKey, IsCopiedRoot}
use Rattle.pagable_value_spec.specs.{Blob.Blob, Stored.Keeps as KeepsBlobs}
use Rattle.std.proofs.{
  Common.{Bool, Contains, IsTrue, List, None, Option, Some, String, arith, bytes_eq, drop, false, get_or, if◌then◌else◌, length, map, nat_lt, refl, string_bytes, sym, true, ℕ, [], ◌++◌, ◌+◌, ◌<◌, ◌∙◌, ◌∷◌, ◌≡◌, ◌≤◌},
  lemmas.{List.{Elements.{All-contains, All-from_recursion, All-map, Contains-append_left}, Sums.sum_by-cons, drop_more, map_push}, Slice.Eq.bytes_eq-Decides},
}
use Rattle.std.specs.{List.AllByRecursion as Each, Map.update, Prelude.unwrap_or, Str.IsUtf8, declared.alloc.Global.Global}

-- a copied key stays copied where the copy grows
copied_stays : (from to next : ℕ → Option Blob) (root : ℕ) → KeepsBlobs to next → IsCopiedKey from to root → IsCopiedKey from next root
copied_stays from to next root keeps all key reaches =
    let it = all key reaches in
    (it.0, it.1, keeps key it.0 it.2)

-- what holds of keys holds of their versions
pub of_versions : (P : ℕ → Type 0) (kept : List KeptVersion) → Each P (map (λ it. it.key) kept) → Each (λ it. P it.key) kept
of_versions P [] all = tt
of_versions P (x ∷ xs) all = (all.0, of_versions P xs all.1)

pub versions_stay : (from to next : ℕ → Option Blob) (kept : List KeptVersion) → KeepsBlobs to next → AreCopied from to kept → AreCopied from next kept
versions_stay from to next [] keeps all = tt
versions_stay from to next (x ∷ xs) keeps all = (copied_stays from to next x.key keeps all.0, versions_stay from to next xs keeps all.1)

-- each name that stands for a key was copied
pub roots_copied : (from to : View) (names : List (String Global)) → ListsEach from.key (map string_bytes names)
    → Each (λ name. IsCopiedRoot from.blob to.blob from.key to.key (string_bytes name)) names
    → (name : List ℕ) → IsUtf8 name → IsCopiedRoot from.blob to.blob from.key to.key name
roots_copied from to names lists all name text root is =
    let each = All-map (λ n. IsCopiedRoot from.blob to.blob from.key to.key n) string_bytes names (All-from_recursion _ names all) in
    All-contains (λ n. IsCopiedRoot from.blob to.blob from.key to.key n) (map string_bytes names) name each (lists.all name text (rw is refl)) root is

-- one row of a name was counted
pub counted : (name q : List ℕ) (old new : List ℕ → Option ℕ) (count : ℕ) → new q ≡ update bytes_eq old name (Some (count + 1)) q
    → count ≡ unwrap_or (old name) 0 → unwrap_or (new q) 0 ≡ (if bytes_eq name q then 1 else 0) + unwrap_or (old q) 0
counted name q old new count is has = rw is (go (bytes_eq name q) refl)
  where
    go : (b : Bool) → bytes_eq name q ≡ b → unwrap_or (if b then Some (count + 1) else old q) 0 ≡ (if b then 1 else 0) + unwrap_or (old q) 0
    go true e = let same : name ≡ q = (bytes_eq-Decides name q).0 e in rw (← same) (omega (arith, has))
    go false e = omega arith

-- the versions that were among the others still are once one was added
pub stay_pushed : (old new : List KeptVersion) (version : KeptVersion) → new ≡ old ++ version ∷ [] → (key : ℕ)
    → Contains (map (λ it. it.key) old) key → Contains (map (λ it. it.key) new) key
stay_pushed old new version is key there =
    rw (is, map_push (λ (it : KeptVersion). it.key) old version)
    (Contains-append_left (map (λ (it : KeptVersion). it.key) old) (version.key ∷ []) key there)

-- one row more, in front of those that were counted
pub count_more : (rows : List LoggedRoot) (at : ℕ) (row : LoggedRoot) (name q : List ℕ) (was now : ℕ) → at < length rows → row ≡ get_or rows at row
    → name ≡ string_bytes row.name → was ≡ rows_of q (drop (at + 1) rows) → now ≡ (if bytes_eq name q then 1 else 0) + was → now ≡ rows_of q (drop at rows)
count_more rows at row name q was now within is called before more =
    rw (drop_more rows at row within, ← is, more, before, called)
    (sym (sum_by-cons (λ (x : LoggedRoot). if bytes_eq (string_bytes x.name) q then 1 else 0) row (drop (at + 1) rows)))

among_stay : (old new : List KeptVersion) (rows : List LoggedRoot) → ((key : ℕ) → Contains (map (λ it. it.key) old) key → Contains (map (λ it. it.key) new) key)
    → Each (IsAmong old) rows → Each (IsAmong new) rows
among_stay old new [] stay all = tt
among_stay old new (x ∷ xs) stay all = ((λ key is. stay key (all.0 key is)), among_stay old new xs stay all.1)

-- the next row is among the versions if it is kept
pub kept_more : (keep : ℕ) (rows : List LoggedRoot) (at behind : ℕ) (row : LoggedRoot) (old new : List KeptVersion) → at < length rows → row ≡ get_or rows at row
    → behind ≡ rows_of (string_bytes row.name) (drop (at + 1) rows) → (behind < keep → IsAmong new row)
    → ((key : ℕ) → Contains (map (λ it. it.key) old) key → Contains (map (λ it. it.key) new) key)
    → Each (IsAmong old) (kept_rows keep (drop (at + 1) rows)) → Each (IsAmong new) (kept_rows keep (drop at rows))
unfolding kept_rows
kept_more keep rows at behind row old new within is counted added stay all =
    rw (drop_more rows at row within, ← is) (go (nat_lt (rows_of (string_bytes row.name) (drop (at + 1) rows)) keep) refl)
  where
    go : (b : Bool) → nat_lt (rows_of (string_bytes row.name) (drop (at + 1) rows)) keep ≡ b
        → Each (IsAmong new) (if b then row ∷ kept_rows keep (drop (at + 1) rows) else kept_rows keep (drop (at + 1) rows))
    go true less = (added (grind (arith, nat_tests)), among_stay old new (kept_rows keep (drop (at + 1) rows)) stay all)
    go false more = among_stay old new (kept_rows keep (drop (at + 1) rows)) stay all

-- no row is kept of none
pub kept_none : (keep : ℕ) (kept : List KeptVersion) (rows : List LoggedRoot) → rows ≡ [] → Each (IsAmong kept) (kept_rows keep rows)
unfolding kept_rows
kept_none keep kept rows none = rw none tt

-- all that is kept was copied, step by step: the versions, then the roots
pub kept_all : (from from1 from2 from3 to1 to2 to3 : View) (kept : List KeptVersion) (names : List (String Global)) → Stays from from1 → Stays from1 from2
    → Stays from2 from3 → Stays to2 to3 → (IsTrue from1.is_honest → IsTrue to1.is_honest → AreCopied from.blob to1.blob kept)
    → (IsTrue from2.is_honest → ListsEach from1.key (map string_bytes names))
    → (IsTrue from3.is_honest → IsTrue to2.is_honest → Each (λ name. IsCopiedRoot from2.blob to2.blob from2.key to2.key (string_bytes name)) names)
    → (IsTrue to2.is_honest → KeepsBlobs to1.blob to2.blob) → (IsTrue to2.is_honest → IsTrue to1.is_honest) → IsTrue from3.is_honest → IsTrue to3.is_honest
    → Keeps from to3 kept
kept_all from from1 from2 from3 to1 to2 to3 kept names s1 s2 s3 st versions lists roots keeps honest h3 h =
    let e3 : from3 ≡ from2 = s3 h3 in
    let h2 : IsTrue from2.is_honest = rw (← e3) h3 in
    let e2 : from2 ≡ from1 = s2 h2 in
    let h1 : IsTrue from1.is_honest = rw (← e2) h2 in
    let e1 : from1 ≡ from = s1 h1 in
    let t : to3 ≡ to2 = st h in
    let ht : IsTrue to2.is_honest = rw (← t) h in
    let both : from2 ≡ from = e2 ∙ e1 in
    let each : ListsEach from2.key (map string_bytes names) = rw e2 (lists h2) in
    let copied = roots_copied from2 to2 names each (roots h3 ht) in
    record {
      roots = λ name text. rw (← both, t) (copied name text);
      versions = rw t (versions_stay from.blob to1.blob to2.blob kept (keeps ht) (versions h1 (honest ht)));
    }
