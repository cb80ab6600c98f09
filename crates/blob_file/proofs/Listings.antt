-- What is listed of a map: each key once, and no other.
use Rattle.std.proofs.Common.{Bool, List, Option, None, Some, ap, append-nil, arith, inl, inr, length, map, nat_eq, refl, subst, sym, true, zero, suc}
use Rattle.std.proofs.Common.{ℕ, [], ◌++◌, ◌∙◌, ◌∷◌, ◌≡◌}
use Rattle.std.specs.Bool.{Decides}
use Rattle.std.specs.Cmp.{IsEquivalence, unsigned_Decides}
use Rattle.std.specs.Cmp.Lexicographic.{nat_list_eq_equiv}
use Rattle.std.specs.HashMap.{HashMap, IsUnique, get, get_by_text, hash_map_len, keys}
use Rattle.std.specs.List.{AllByRecursion, Contains, IsDistinct, list_any}
use Rattle.std.specs.Prelude.{IsSome, IsSomeAnd, String, false, option_map, string_bytes, string_eq, ◌||◌}
use Rattle.std.specs.Set.{is_member}
use Rattle.std.specs.Str.{bytes_eq}
use Rattle.std.proofs.lemmas.Bool.{cases_Bool}
use Rattle.std.proofs.lemmas.Cmp.{nat_eq_equiv}
use Rattle.std.proofs.lemmas.Map.Entries.{length-keys_of}
use Rattle.std.proofs.lemmas.Map.Made.{AllPairs-from_IsDistinct, IsDistinct-from_AllPairs, is_member-Decides, is_some-lookup, length-from_same_keys}
use Rattle.std.proofs.lemmas.Map.Views.{Contains-from_any, hash_map_contains_key_iff, hash_map_get_iff, list_any-from_Contains}
use Rattle.std.proofs.lemmas.Slice.Eq.{bytes_eq-Decides}
use Rattle.blob_file.specs.File.{IsListedAs, Lists, ListsBlobs, listed_entry}
use Rattle.blob_file.specs.Rows.{Body}
use Rattle.blob_file.specs.declared.listing.ListedBlob.{ListedBlob}
use Rattle.blob_file.specs.declared.rows.Place.{Place}
use Rattle.blob_file.proofs.Placing.{AllKnown}

-- a test of each text's bytes
any_of_bytes : {A : Type 0} (p : List ℕ → Bool) (texts : List (String A)) → list_any (λ t. p (string_bytes t)) texts ≡ list_any p (map string_bytes texts)
any_of_bytes p [] = refl
any_of_bytes p (t ∷ ts) = ap (λ b. p (string_bytes t) || b) (any_of_bytes p ts)

apart_bytes : {A : Type 0} (t : String A) (ts : List (String A)) → AllByRecursion (λ y. string_eq t y ≡ false) ts
    → AllByRecursion (λ y. bytes_eq (string_bytes t) y ≡ false) (map string_bytes ts)
apart_bytes t [] h = tt
apart_bytes t (y ∷ ys) h = (h.0, apart_bytes t ys h.1)

distinct_bytes : {A : Type 0} (texts : List (String A)) → IsDistinct string_eq texts → IsDistinct bytes_eq (map string_bytes texts)
unfolding IsDistinct
distinct_bytes [] h = tt
distinct_bytes (t ∷ ts) h = (apart_bytes t ts h.0, distinct_bytes ts h.1)

-- the keys of a map are all its names, each once
pub keys_are_names : {A S : Type 0} (roots : HashMap (String A) ℕ S) → IsUnique string_eq roots
    → Lists (get_by_text roots) (map string_bytes (keys roots))
keys_are_names roots unique = record {
  once = AllPairs-from_IsDistinct bytes_eq-Decides (map string_bytes (keys roots)) (distinct_bytes (keys roots) unique);
  all = λ name stands. Contains-from_any (λ x y. (bytes_eq-Decides x y).0) name (map string_bytes (keys roots))
      (sym (any_of_bytes (bytes_eq name) (keys roots)) ∙ sym (is_some-lookup (λ k. bytes_eq name (string_bytes k)) roots.entries) ∙ stands);
  only = λ name among. is_some-lookup (λ k. bytes_eq name (string_bytes k)) roots.entries ∙ any_of_bytes (bytes_eq name) (keys roots)
      ∙ list_any-from_Contains nat_list_eq_equiv name (map string_bytes (keys roots)) among;
}

-- where no key is left
pub all_listed : {A S : Type 0} (roots : HashMap (String A) ℕ S) (names left : List (String A)) → left ≡ []
    → map string_bytes names ++ map string_bytes left ≡ map string_bytes (keys roots) → IsUnique string_eq roots
    → Lists (get_by_text roots) (map string_bytes names)
all_listed roots names left none all unique =
    let is : map string_bytes names ≡ map string_bytes (keys roots) = sym (append-nil (map string_bytes names)) ∙ rw none at all in
    subst (Lists (get_by_text roots)) (sym is) (keys_are_names roots unique)

-- two lists of the same keys are as long
pub same_length : {K X : Type 0} {eq : K → K → Bool} → IsEquivalence eq → ((a b : K) → Decides (eq a b) (a ≡ b)) → (found : K → Option X) (xs ys : List K)
    → Lists found xs → Lists found ys → length xs ≡ length ys
same_length {eq = eq} laws same found xs ys first second =
    length-from_same_keys laws xs ys (IsDistinct-from_AllPairs same xs first.once) (IsDistinct-from_AllPairs same ys second.once) λ q.
    alike (is_member eq xs q) (is_member eq ys q)
    (λ is. (is_member-Decides same ys q).1 (second.all q (first.only q ((is_member-Decides same xs q).0 is))))
    (λ is. (is_member-Decides same xs q).1 (first.all q (second.only q ((is_member-Decides same ys q).0 is))))
  where
    alike : (a b : Bool) → (a ≡ true → b ≡ true) → (b ≡ true → a ≡ true) → a ≡ b
    alike true b to from = sym (to refl)
    alike false b to from = elim (cases_Bool b) [ inl is ↦ from is ∙ sym is | inr not ↦ sym not ]

-- what is found of the same keys is listed alike
pub lists_alike : {K X Y : Type 0} (f : K → Option X) (g : K → Option Y) (xs : List K) → ((q : K) → IsSome (g q) → IsSome (f q))
    → ((q : K) → IsSome (f q) → IsSome (g q)) → Lists f xs → Lists g xs
lists_alike f g xs to from lists = record { once = lists.once; all = λ q some. lists.all q (to q some); only = λ q among. from q (lists.only q among) }

pub some_mapped : {X Y : Type 0} (f : X → Y) (o : Option X) → IsSome o → IsSome (option_map f o)
some_mapped f None none = none
some_mapped f (Some x) some = refl

pub mapped_some : {X Y : Type 0} (f : X → Y) (o : Option X) → IsSome (option_map f o) → IsSome o
mapped_some f None none = none
mapped_some f (Some x) some = refl

-- the keys of a map are listed
pub lists_keys : {X S : Type 0} (m : HashMap ℕ X S) → IsUnique nat_eq m → Lists (get nat_eq m) (keys m)
lists_keys m unique = record {
  once = AllPairs-from_IsDistinct unsigned_Decides (keys m) unique;
  all = λ key. (hash_map_contains_key_iff nat_eq_equiv (λ x y. (unsigned_Decides x y).0) m key).0;
  only = λ key. (hash_map_contains_key_iff nat_eq_equiv (λ x y. (unsigned_Decides x y).0) m key).1;
}

-- how many blobs there are
pub count_keys : {X Y S : Type 0} (f : X → Y) (m : HashMap ℕ X S) (listed : List ℕ) → IsUnique nat_eq m → Lists (λ key. option_map f (get nat_eq m key)) listed
    → hash_map_len m ≡ length listed
count_keys f m listed unique lists =
    sym (length-keys_of m.entries)
    ∙ same_length nat_eq_equiv unsigned_Decides (get nat_eq m) (keys m) listed (lists_keys m unique)
    (lists_alike (λ key. option_map f (get nat_eq m key)) (get nat_eq m) listed (λ q. some_mapped f (get nat_eq m q))
    (λ q. mapped_some f (get nat_eq m q)) lists)

-- how many names there are
pub count_names : {A S : Type 0} (m : HashMap (String A) ℕ S) (listed : List (List ℕ)) → IsUnique string_eq m → Lists (get_by_text m) listed
    → hash_map_len m ≡ length listed
count_names m listed unique lists =
    sym (length-keys_of m.entries) ∙ sym (length_mapped (keys m))
    ∙ same_length nat_list_eq_equiv bytes_eq-Decides (get_by_text m) (map string_bytes (keys m)) listed (keys_are_names m unique) lists
  where
    length_mapped : {A : Type 0} (texts : List (String A)) → length (map string_bytes texts) ≡ length texts
    length_mapped [] = refl
    length_mapped (t ∷ ts) = ap suc (length_mapped ts)

-- the keys of what is listed
listed_keys : (es : List (ℕ × Place)) → map (λ (it : ListedBlob). it.key) (map listed_entry es) ≡ map (λ (e : ℕ × Place). e.0) es
listed_keys [] = refl
listed_keys (e ∷ es) = ap (λ (l : List ℕ). e.0 ∷ l) (listed_keys es)

-- what is listed is that of an entry
listed_from : (es : List (ℕ × Place)) (it : ListedBlob) → Contains (map listed_entry es) it → (e : ℕ × Place) × Contains es e × (listed_entry e ≡ it)
listed_from [] it (k, low, is) = absurd (omega arith)
listed_from (e ∷ es) it (zero, low, is) = (e, (0, omega arith, refl), is)
listed_from (e ∷ es) it (suc k, low, is) =
    let (x, (j, under, at), same) = listed_from es it (k, omega arith, is) in
    (x, (suc j, omega arith, at), same)

-- each blob of an index is listed as it is
pub lists_blobs : {S : Type 0} (blob : Place → Body) (m : HashMap ℕ Place S) (listed : List ListedBlob) → IsUnique nat_eq m
    → listed ≡ map listed_entry m.entries
    → AllKnown (λ p. IsListedAs (listed_entry (0, p)) (blob p)) (get nat_eq m) → ListsBlobs (λ key. option_map blob (get nat_eq m key)) listed
lists_blobs blob m listed unique is known = record {
  keys = subst (Lists (λ key. option_map blob (get nat_eq m key))) (sym (ap (map (λ (it : ListedBlob). it.key)) is ∙ listed_keys m.entries))
      (lists_alike (get nat_eq m) (λ key. option_map blob (get nat_eq m key)) (keys m) (λ q. mapped_some blob (get nat_eq m q))
      (λ q. some_mapped blob (get nat_eq m q)) (lists_keys m unique));
  each = λ it among.
      let (e, at, same) = listed_from m.entries it (subst (λ (l : List ListedBlob). Contains l it) is among) in
      let found : get nat_eq m e.0 ≡ Some e.1 = (hash_map_get_iff nat_eq_equiv (λ x y. (unsigned_Decides x y).0) m unique e.0 e.1).1 at in
      let as_it = known e.0 e.1 found in
      subst (λ (x : ListedBlob). IsSomeAnd (option_map blob (get nat_eq m x.key)) (IsListedAs x)) same
      (subst (λ (o : Option Place). IsSomeAnd (option_map blob o) (IsListedAs (listed_entry e))) (sym found)
      (record { children = as_it.children; bytes = as_it.bytes }));
}
