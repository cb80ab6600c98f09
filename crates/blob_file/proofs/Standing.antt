-- That each name stands for a key under which there is a blob.
use Rattle.std.proofs.Common.{◌≡◌, inl, inr, refl, sym, subst, ℕ, Bool, List, Option, Some, None, cond, nat_eq}
use Rattle.std.specs.Prelude.{IfSome, IsSome, option_map}
use Rattle.std.specs.Map.{update}
use Rattle.std.specs.Str.{bytes_eq}
use Rattle.std.proofs.lemmas.Bool.{cases_Bool}
use Rattle.blob_file.specs.File.{Content, NamesStand, Same, SameBlobs}
use Rattle.blob_file.specs.Rows.{Body}

-- for the key if there is one
for_key : (blobs now : ℕ → Option Body) (key : Option ℕ) → ((k : ℕ) → IsSome (blobs k) → IsSome (now k)) → IfSome key (λ k. IsSome (blobs k))
    → IfSome key (λ k. IsSome (now k))
for_key blobs now None more stands = stands
for_key blobs now (Some k) more stands = more k stands

pub stand_same : (old new : Content) → Same old new → NamesStand old → NamesStand new
stand_same old new same stand name =
    subst (λ (key : Option ℕ). IfSome key (λ k. IsSome (new.blob k))) (sym (same.names name))
    (for_key old.blob new.blob (old.key name) (λ k some. subst IsSome (sym (same.blobs k)) some) (stand name))

-- a place that is known is that of a blob
pub has_blob : {X : Type 0} (blob : X → Body) (known : ℕ → Option X) (key : Option ℕ) → IfSome key (λ k. IsSome (known k))
    → IfSome key (λ k. IsSome (option_map blob (known k)))
has_blob blob known None stands = stands
has_blob {X = X} blob known (Some k) stands = there (known k) stands
  where
    there : (o : Option X) → IsSome o → IsSome (option_map blob o)
    there None none = none
    there (Some p) some = refl

-- once a name is set
pub stand_named : (blobs now : ℕ → Option Body) (names later : List ℕ → Option ℕ) (set : List ℕ) (key : Option ℕ) → SameBlobs blobs now
    → IfSome key (λ k. IsSome (blobs k))
    → ((q : List ℕ) → later q ≡ update bytes_eq names set key q) → NamesStand (record { blob = blobs; key = names })
    → NamesStand (record { blob = now; key = later })
stand_named blobs now names later set key same stands named stand name =
    subst (λ (k : Option ℕ). IfSome k (λ x. IsSome (now x))) (sym (named name))
    (for_key blobs now (cond (bytes_eq set name) key (names name)) (λ k some. subst IsSome (sym (same k)) some) (elim (cases_Bool (bytes_eq set name)) [
      | inl it ↦ subst (λ (t : Bool). IfSome (cond t key (names name)) (λ k. IsSome (blobs k))) (sym it) stands
      | inr other ↦ subst (λ (t : Bool). IfSome (cond t key (names name)) (λ k. IsSome (blobs k))) (sym other) (stand name)
    ]))

-- once a blob is added
pub stand_added : (blobs now : ℕ → Option Body) (names later : List ℕ → Option ℕ) (key : ℕ) (body : Body)
    → ((k : ℕ) → now k ≡ update nat_eq blobs key (Some body) k)
    → ((q : List ℕ) → later q ≡ names q) → NamesStand (record { blob = blobs; key = names }) → NamesStand (record { blob = now; key = later })
stand_added blobs now names later key body added same stand name =
    subst (λ (k : Option ℕ). IfSome k (λ x. IsSome (now x))) (sym (same name)) (for_key blobs now (names name) more (stand name))
  where
    more : (k : ℕ) → IsSome (blobs k) → IsSome (now k)
    more k some = subst IsSome (sym (added k)) (elim (cases_Bool (nat_eq key k)) [
      | inl it ↦ subst (λ (t : Bool). IsSome (cond t (Some body) (blobs k))) (sym it) refl
      | inr other ↦ subst (λ (t : Bool). IsSome (cond t (Some body) (blobs k))) (sym other) some
    ])
