-- Keys as bytes, and back.
use Rattle.blob_file.proofs.KeyBytes.{read_back}
use Rattle.pagable_file.proofs.Each.{all_with}
use Rattle.pagable_file.specs.Bodies.{CanBeKey, key_in, keys_from, keys_in, with_key}
use Rattle.std.proofs.{Common.{Bool, List, None, Option, Some, ap, append-nil, append_assoc, arith, drop, false, get_or, length, length-append, refl, suc, take, true, ℕ}, Common.{[], ◌*◌, ◌++◌, ◌+◌, ◌/◌, ◌<◌, ◌∷◌, ◌≡◌}, lemmas.{Bool.Decides.nat_tests, List.{flat_map_more, take_more}}}
use Rattle.std.specs.{Int.{to_le_bytes, w128}, List.{AllByRecursion as Each, flat_map}, Prelude.{option_map, ◌==◌}}

pub key_back : (n : ℕ) → CanBeKey n → key_in (to_le_bytes w128 n) ≡ Some n
unfolding key_in
key_back n h = grind (arith, nat_tests, read_back n h.1)

pub keys_back : (ks : List ℕ) → Each CanBeKey ks → keys_from (length ks) (flat_map (to_le_bytes w128) ks) ≡ Some ks
unfolding keys_from
keys_back [] h = refl
keys_back (k ∷ ks) h = rw (key_back k h.0, keys_back ks h.1) refl

pub keys-length : (ks : List ℕ) → length (flat_map (to_le_bytes w128) ks) ≡ 16 * length ks
keys-length [] = refl
keys-length (k ∷ ks) = omega (arith, length-append (to_le_bytes w128 k) (flat_map (to_le_bytes w128) ks), keys-length ks)

pub all_back : (ks : List ℕ) → Each CanBeKey ks → keys_in (flat_map (to_le_bytes w128) ks) ≡ Some ks
all_back ks h = let count : length (flat_map (to_le_bytes w128) ks) / 16 ≡ length ks = omega (arith, keys-length ks) in rw count (keys_back ks h)

-- the keys so far go before those that are left
abbrev pub joined : List ℕ → Option (List ℕ) → Option (List ℕ)
joined front rest = option_map (λ more. front ++ more) rest

pub one_more : (front : List ℕ) (left key : ℕ) (bytes : List ℕ) → key_in (take 16 bytes) ≡ Some key
    → joined (front ++ key ∷ []) (keys_from left (drop 16 bytes)) ≡ joined front (keys_from (suc left) bytes)
unfolding keys_from
one_more front left key bytes is = rw is (go (keys_from left (drop 16 bytes)))
  where
    go : (rest : Option (List ℕ)) → joined (front ++ key ∷ []) rest ≡ joined front (with_key (Some key) rest)
    go None = refl
    go (Some more) = ap Some (append_assoc front (key ∷ []) more)

pub no_key : (front : List ℕ) (left : ℕ) (bytes : List ℕ) → key_in (take 16 bytes) ≡ None → joined front (keys_from (suc left) bytes) ≡ None
unfolding keys_from
no_key front left bytes is = rw is refl

pub at_end : (front bytes : List ℕ) → length bytes ≡ 0 → joined front (keys_from 0 bytes) ≡ Some front
unfolding keys_from
at_end front [] h = ap Some (append-nil front)
at_end front (b ∷ bytes) h = absurd (omega arith)

pub more_behind : (front bytes : List ℕ) → 0 < length bytes → joined front (keys_from 0 bytes) ≡ None
unfolding keys_from
more_behind front [] h = absurd (omega arith)
more_behind front (b ∷ bytes) h = refl

pub is_zero : (n : ℕ) (b : Bool) → b ≡ (n == 0) → b ≡ true → n ≡ 0
is_zero n b h g = grind (arith, nat_tests)

pub not_zero : (n : ℕ) (b : Bool) → b ≡ (n == 0) → b ≡ false → 0 < n
not_zero n b h g = grind (arith, nat_tests)

-- one key more
pub continues : (f : ℕ → List ℕ) (keys : List ℕ) (i key : ℕ) (front more : List ℕ) → i < length keys → key ≡ get_or keys i key → more ≡ f key
    → (front ++ flat_map f (take i keys)) ++ more ≡ front ++ flat_map f (take (i + 1) keys)
continues f keys i key front more h is e = rw (e, take_more keys i key h, ← is) (flat_map_more f front (take i keys) key)

pub more_fit : (keys : List ℕ) (i key : ℕ) → i < length keys → key ≡ get_or keys i key → CanBeKey key → Each CanBeKey (take i keys)
    → Each CanBeKey (take (i + 1) keys)
more_fit keys i key h is here all = rw (take_more keys i key h, ← is) (all_with CanBeKey CanBeKey key (λ k fits. fits) here (take i keys) all)
