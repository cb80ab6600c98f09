-- Adding a blob to what is stored, and how many blobs a map holds.
use Rattle.pagable_core.specs.{Data.{Blobs, blob_of, stored_in}, declared.storage.data.PagableData.PagableData}
use Rattle.pagable_value_spec.specs.{Blob.Blob, Stored.{Adds, AreNamed, IsCount, Keeps}, declared.error.Error.Error}
use Rattle.std.proofs.{
  Common.{Bool, None, Option, Result, Some, arith, cond, false, inl, inr, sym, ℕ, ◌∙◌, ◌≡◌},
  lemmas.Bool.{Decides.{Decides-eqb, nat_tests}, eqb-true},
  lemmas.Map.{Entries.length-keys_of, Made.AllPairs-from_IsDistinct, Views.{Contains-keys_from_lookup, IsSome-lookup_from_Contains}},
}
use Rattle.std.specs.{
  Arc.arc_value,
  Cmp.nat_eq_equiv,
  Global.Global,
  HashMap.{IsUnique, get, hash_map_len},
  Map.keys_of,
  Prelude.{IsSome, IsTrue, OnErr, OnOk, if◌then◌else◌, nat_eq, option_map, ◌==◌, ◌↔◌, ◌≢◌},
  declared.sync.Arc.Arc,
}

-- a blob that stands there already adds nothing
pub adds_nothing : (stored : ℕ → Option Blob) (key : ℕ) (blob : Blob) → stored key ≡ Some blob → Adds key blob stored stored
adds_nothing stored key blob h = record { each = λ q. grind (arith, nat_tests, eqb-true); free = inr h }

pub adds_one : (old new : ℕ → Option Blob) (key : ℕ) (blob : Blob) → old key ≡ None → ((q : ℕ) → new q ≡ (if q == key then Some blob else old q))
    → Adds key blob old new
adds_one old new key blob h each = record { each = each; free = inl h }

-- another blob stands there
pub taken : (stored : ℕ → Option Blob) (key : ℕ) (other blob : Blob) (same : Bool) → Some other ≡ stored key → (IsTrue same ↔ (other ≡ blob)) → same ≡ false
    → (o : Blob) × (stored key ≡ Some o) × (o ≢ blob)
taken stored key other blob same e means differs = (other, sym e, λ is. let yes = means.1 is in absurd cc)

-- what stands under each key after an insertion
pub stored_more : (m n : Blobs) (key : ℕ) (v : Arc PagableData Global) (blob : Blob)
    → ((q : ℕ) → get nat_eq n q ≡ cond (nat_eq key q) (Some v) (get nat_eq m q)) → blob_of (arc_value v) ≡ blob
    → (q : ℕ) → stored_in n q ≡ (if q == key then Some blob else stored_in m q)
stored_more m n key v blob each is q = let here = each q in grind (arith, nat_tests)

-- what a function makes of a value is there exactly if the value is
some-mapped : {A B : Type 0} (f : A → B) (o : Option A) → IsSome (option_map f o) ↔ IsSome o
some-mapped f x0 = grind arith

pub counts : (m : Blobs) (count : ℕ) → count ≡ hash_map_len m → IsUnique nat_eq m → IsCount (stored_in m) count
counts m count many unique = record {
  keys = keys_of m.entries;
  once = AllPairs-from_IsDistinct Decides-eqb (keys_of m.entries) unique;
  all = λ q. (
    λ h. (some-mapped (λ (d : Arc PagableData Global). blob_of (arc_value d)) _).1 (IsSome-lookup_from_Contains nat_eq_equiv q m.entries h),
    λ h. Contains-keys_from_lookup eqb-true q m.entries ((some-mapped (λ (d : Arc PagableData Global). blob_of (arc_value d)) _).0 h),
  );
  many = many ∙ sym (length-keys_of m.entries);
}

-- each blob stays under its own key, whether one came or not
pub all_named : {key_of : Blob → ℕ} {old : ℕ → Option Blob} {key : ℕ} (new : ℕ → Option Blob) (blob : Blob) (r : Result (Unit {0}) Error) → key ≡ key_of blob
    → AreNamed key_of old
    → OnOk r ((q : ℕ) → new q ≡ (if q == key then Some blob else old q)) → OnErr r (new ≡ old) → AreNamed key_of new
all_named new blob r own named comes stays q b is = let here = named q b in grind (arith, nat_tests, eqb-true)

pub keeps_same : {old new : ℕ → Option Blob} → new ≡ old → Keeps old new
keeps_same same key blob is = rw same is

pub ruleset adding = (adds_nothing, adds_one, taken)
