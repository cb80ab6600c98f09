-- Copying what roots reach.
use Rattle.pagable_core.specs.Roots.{Sets}
use Rattle.pagable_file.proofs.Each.{each_so}
use Rattle.pagable_file.specs.Copies.{AreCopied, CountsCopied, HasCopied, HasWantedRoot, IsCopied, IsCopiedKey, IsCopiedRoot, IsInBoth, IsPath, KeySet, Reaches, StaysOrCopies, StaysOrSets, end_of, is_among}
use Rattle.pagable_value_spec.specs.{Blob.Blob, Stored.{Adds, Keeps}, declared.error.Error.Error}
use Rattle.std.proofs.{
  Common.{Bool, Err, IsSome, IsTrue, List, None, Ok, Option, Result, Some, String, arith, false, get_or, inl, inr, length, map, refl, string_bytes, subst, sym},
  Common.{take, true, ℕ, [], ◌++◌, ◌+◌, ◌<◌, ◌∙◌, ◌∷◌, ◌≡◌, ◌⊎◌},
  lemmas.{
    Bool.{Decides.{Decides-eqb, nat_tests}, eqb-true},
    Map.{Entries.length-keys_of, Made.AllPairs-from_IsDistinct, Views.{Contains-keys_from_lookup, IsSome-lookup_from_Contains}},
    List.{Elements.{All-contains, All-from_recursion}, Folds.list_any_at, get_or-map, map_more},
    Slice.Eq.bytes_eq-Decides,
  },
}
use Rattle.std.specs.{Cmp.nat_eq_equiv, HashMap.{IsUnique, get, hash_map_len}, Map.keys_of, List.AllByRecursion as Each, Prelude.{OnErr, OnOk, if◌then◌else◌, nat_eq}, Str.bytes_eq}

-- a blob that was added stands under its key, and what stood elsewhere still does
pub adds_stored : (key : ℕ) (blob : Blob) (old new : ℕ → Option Blob) → Adds key blob old new → new key ≡ Some blob
adds_stored key blob old new a = grind (arith, nat_tests, a.each key)

pub adds_keeps : (key : ℕ) (blob : Blob) (old new : ℕ → Option Blob) → Adds key blob old new → Keeps old new
adds_keeps key blob old new a q other h = grind (arith, nat_tests, a.each q)

pub same_keeps : (old new : ℕ → Option Blob) → new ≡ old → Keeps old new
same_keeps old new same q other h = cc

pub keeps_then : (a b c : ℕ → Option Blob) → Keeps a b → Keeps b c → Keeps a c
keeps_then a b c f g key blob h = g key blob (f key blob h)

-- what stays where the copy grows
pub copied_stays : (from to next : ℕ → Option Blob) (copied : KeySet) → Keeps to next → AreCopied from to copied → AreCopied from next copied
copied_stays from to next copied keeps all key h = let it = all key h in
    record { blob = it.blob; there = it.there; stored = keeps key it.blob it.stored; children = it.children }

-- one more key was copied
pub copied_more : (from to next : ℕ → Option Blob) (copied more : KeySet) (key : ℕ) (blob : Blob)
    → ((q : ℕ) → get nat_eq more q ≡ (if nat_eq key q then Some tt else get nat_eq copied q)) → from key ≡ Some blob → next key ≡ Some blob
    → Each (HasCopied copied) blob.keys → Keeps to next → AreCopied from to copied → AreCopied from next more
copied_more from to next copied more key blob each there stored children keeps all q h =
    if_same (nat_eq key q) refl (each q)
  where
    grows : (keys : List ℕ) → Each (HasCopied copied) keys → Each (HasCopied more) keys
    grows keys = each_so (HasCopied copied) (HasCopied more) keys (λ r was. grind (arith, each r))

    if_same : (b : Bool) → nat_eq key q ≡ b → get nat_eq more q ≡ (if b then Some tt else get nat_eq copied q) → IsCopied from next more q
    if_same true e f =
        let same : key ≡ q = grind (arith, nat_tests) in
        rw (← same) (record { blob = blob; there = there; stored = stored; children = grows blob.keys children })
    if_same false e f =
        let it = all q (cc) in
        record { blob = it.blob; there = it.there; stored = keeps q it.blob it.stored; children = grows it.blob.keys it.children }

pub none_copied : (from to : ℕ → Option Blob) (copied : KeySet) → ((q : ℕ) → get nat_eq copied q ≡ None) → AreCopied from to copied
none_copied from to copied none key h = absurd (cc (none key))

-- what a copied key reaches was copied
reached : (from to : ℕ → Option Blob) (copied : KeySet) → AreCopied from to copied → (key : ℕ) (path : List ℕ) → IsPath from key path → HasCopied copied key
    → HasCopied copied (end_of key path)
reached from to copied all key [] h has = has
reached from to copied all key (child ∷ path) h has =
    let it = all key has in
    let same : it.blob ≡ h.0.0 = cc in
    reached from to copied all child path h.1 (All-contains (HasCopied copied) h.0.0.keys child
    (All-from_recursion (HasCopied copied) h.0.0.keys (rw same at it.children)) h.0.2)

pub in_both : (from to : ℕ → Option Blob) (copied : KeySet) → AreCopied from to copied → (root key : ℕ) → HasCopied copied root → Reaches from root key
    → IsInBoth from to key
in_both from to copied all root key has r =
    let it = all key (rw r.2 at (reached from to copied all root r.0 r.1 has)) in
    (it.blob, it.there, it.stored)

pub are_copied_keys : (from to : ℕ → Option Blob) (copied : KeySet) (keys : List ℕ) → AreCopied from to copied → Each (HasCopied copied) keys
    → Each (IsCopiedKey from to) keys
are_copied_keys from to copied keys all = each_so (HasCopied copied) (IsCopiedKey from to) keys (λ root has key r. in_both from to copied all root key has r)

pub is_copied_root : (from to : ℕ → Option Blob) (copied : KeySet) (wanted copies : List ℕ → Option ℕ) (name : List ℕ) → AreCopied from to copied
    → HasWantedRoot copied wanted copies name → IsCopiedRoot from to wanted copies name
is_copied_root from to copied wanted copies name all m root is =
    let it = m root is in
    record { set = it.0; blobs = λ key r. in_both from to copied all root key it.1 r }

pub all_roots : {A : Type 0} (text : A → List ℕ) (from to : ℕ → Option Blob) (copied : KeySet) (wanted copies : List ℕ → Option ℕ) (names : List A)
    → AreCopied from to copied
    → Each (λ n. HasWantedRoot copied wanted copies (text n)) names → Each (λ n. IsCopiedRoot from to wanted copies (text n)) names
all_roots text from to copied wanted copies names all = each_so (λ n. HasWantedRoot copied wanted copies (text n))
    (λ n. IsCopiedRoot from to wanted copies (text n)) names (λ n. is_copied_root from to copied wanted copies (text n) all)

-- a name was set to the key that is wanted
pub matches_set : (copied : KeySet) (wanted old new : List ℕ → Option ℕ) (name : List ℕ) (root : ℕ) → Some root ≡ wanted name → HasCopied copied root
    → Sets name (Some root) old new → HasWantedRoot copied wanted new name
matches_set copied wanted old new name root is has sets other h =
    let one : root ≡ other = cc in
    (sets name ∙ rw ((bytes_eq-Decides name name).1 refl, one) refl, subst (HasCopied copied) one has)

pub others_stay : (copied : KeySet) (wanted old new : List ℕ → Option ℕ) (name : List ℕ) (root : ℕ) → Some root ≡ wanted name → HasCopied copied root
    → Sets name (Some root) old new → (q : List ℕ) → HasWantedRoot copied wanted old q → HasWantedRoot copied wanted new q
others_stay copied wanted old new name root is has sets q m = go (bytes_eq name q) refl
  where
    go : (b : Bool) → bytes_eq name q ≡ b → HasWantedRoot copied wanted new q
    go true e = subst (λ (n : List ℕ). HasWantedRoot copied wanted new n) ((bytes_eq-Decides name q).0 e)
        (matches_set copied wanted old new name root is has sets)
    go false e = λ other h. let it = m other h in (sets q ∙ (rw e it.0), it.1)

pub matches_none : (copied : KeySet) (wanted roots : List ℕ → Option ℕ) (name : List ℕ) → None ≡ wanted name → HasWantedRoot copied wanted roots name
matches_none copied wanted roots name none root h = absurd (cc)

-- the keys of the names so far, with one more
pub named_more : {A : Type 0} (f : A → Option ℕ) (names : List A) (i : ℕ) (x : A) (keys after : List (Option ℕ)) (key : Option ℕ) → i < length names → x
    ≡ get_or names i x → keys ≡ map f (take i names) → key ≡ f x → after ≡ keys ++ key ∷ []
    → after ≡ map f (take (i + 1) names)
named_more f names i x keys after key h is e k a = cc (map_more f names i x h)

-- the key at a name's place is the one that the name stands for
pub key_at_name : {A : Type 0} (f : A → Option ℕ) (names : List A) (keys : List (Option ℕ)) (i : ℕ) (x : A) (key : Option ℕ) → i < length names → x
    ≡ get_or names i x → key ≡ get_or keys i key → keys ≡ map f names → key ≡ f x
key_at_name f names keys i x key h is at e = cc (get_or-map f names i x key h)

-- what was copied is counted
pub counted : {A : Type 0} (from to : ℕ → Option Blob) (copied : KeySet) (wanted copies : List ℕ → Option ℕ) (names : List (String A)) (count : ℕ)
    → count ≡ hash_map_len copied → IsUnique nat_eq copied → AreCopied from to copied
    → Each (λ n. HasWantedRoot copied wanted copies (string_bytes n)) names → CountsCopied from to wanted names count
counted from to copied wanted copies names count many unique all roots = record {
  keys = keys_of copied.entries;
  once = AllPairs-from_IsDistinct Decides-eqb (keys_of copied.entries) unique;
  both = λ key among. let it = all key (IsSome-lookup_from_Contains nat_eq_equiv key copied.entries among) in (it.blob, it.there, it.stored);
  all = λ key r.
      let own = All-contains (λ n. HasWantedRoot copied wanted copies (string_bytes n)) names r.0
      (All-from_recursion (λ n. HasWantedRoot copied wanted copies (string_bytes n)) names roots) r.1 r.2.0 r.2.1 in
      Contains-keys_from_lookup eqb-true key copied.entries (rw r.2.2.2 at (reached from to copied all r.2.0 r.2.2.0 r.2.2.1 own.1));
  many = many ∙ sym (length-keys_of copied.entries);
}

-- names that stay
pub stays_all : {A : Type 0} (names : List (String A)) (wanted old new : List ℕ → Option ℕ) → new ≡ old → StaysOrCopies names wanted old new
stays_all names wanted old new same q = inl (cc)

pub stays_one : (name : List ℕ) (wanted old new : List ℕ → Option ℕ) → new ≡ old → StaysOrSets name wanted old new
stays_one name wanted old new same q = inl (cc)

-- a name that was set
pub sets_one : (name : List ℕ) (root : ℕ) (wanted old new : List ℕ → Option ℕ) → Some root ≡ wanted name → Sets name (Some root) old new
    → StaysOrSets name wanted old new
sets_one name root wanted old new is sets q = go (bytes_eq name q) refl (sets q)
  where
    go : (b : Bool) → bytes_eq name q ≡ b → new q ≡ (if b then Some root else old q)
        → (new q ≡ old q) ⊎ (IsTrue (bytes_eq q name) × IsSome (wanted q) × (new q ≡ wanted q))
    go true e h =
        let one : name ≡ q = (bytes_eq-Decides name q).0 e in
        let own : wanted q ≡ Some root = cc in
        inr ((bytes_eq-Decides q name).1 (sym one), rw own refl, h ∙ sym own)
    go false e h = inl h

pub sets_if : (r : Result (Unit {0}) Error) (name : List ℕ) (root : ℕ) (wanted old new : List ℕ → Option ℕ) → Some root ≡ wanted name
    → OnOk r (Sets name (Some root) old new) → OnErr r (new ≡ old) → StaysOrSets name wanted old new
sets_if (Ok _) name root wanted old new is sets stays = sets_one name root wanted old new is sets
sets_if (Err e) name root wanted old new is sets stays = stays_one name wanted old new stays

among_at : {A : Type 0} (names : List (String A)) (i : ℕ) (x : String A) (q : List ℕ) → i < length names → x ≡ get_or names i x
    → IsTrue (bytes_eq q (string_bytes x)) → IsTrue (is_among q names)
among_at names i x q within at is = list_any_at (λ n. bytes_eq q (string_bytes n)) names i x within (rw (← at) is)

-- with one name more
pub copies_more : {A : Type 0} (names : List (String A)) (i : ℕ) (x : String A) (text : List ℕ) (wanted old mid new : List ℕ → Option ℕ) → i < length names
    → x ≡ get_or names i x → text ≡ string_bytes x
    → StaysOrCopies names wanted old mid → StaysOrSets text wanted mid new → StaysOrCopies names wanted old new
copies_more names i x text wanted old mid new within at own was sets q = go (was q) (sets q)
  where
    go : (mid q ≡ old q) ⊎ (IsTrue (is_among q names) × IsSome (wanted q) × (mid q ≡ wanted q))
        → (new q ≡ mid q) ⊎ (IsTrue (bytes_eq q text) × IsSome (wanted q) × (new q ≡ wanted q))
        → (new q ≡ old q) ⊎ (IsTrue (is_among q names) × IsSome (wanted q) × (new q ≡ wanted q))
    go (inl a) (inl b) = inl (b ∙ a)
    go (inr a) (inl b) = inr (a.0, a.1, b ∙ a.2)
    go a (inr b) = inr (among_at names i x q within at (rw own at b.0), b.1, b.2)

-- blobs were copied before any name was set
pub copies_from : {A : Type 0} (names : List (String A)) (wanted old mid new : List ℕ → Option ℕ) → mid ≡ old → StaysOrCopies names wanted mid new
    → StaysOrCopies names wanted old new
copies_from names wanted old mid new same copies = rw (← same) copies

pub ruleset copying = (adds_stored, adds_keeps, same_keeps, keeps_then, copied_stays, copied_more, none_copied)

pub ruleset naming = (matches_set, others_stay, matches_none, stays_one, stays_all, sets_one, sets_if)

pub ruleset whole = (copied_stays, same_keeps, keeps_then, stays_all, copies_from)
