-- Finite trees of results. Each value was written in some environment of the caller's type, since a table of claims
-- names none.
use Rattle.pagable_pager_spec.specs.{
  Basics.{ArcRef, Identity, type_of},
  Kinds.identity_of,
  World.{HasForm, Values, Written},
}
use Rattle.pagable_value_spec.specs.{Blob.key_of, Merkle.blob_of}
use Rattle.std.specs.Prelude.{List, ℕ, [], ◌∷◌, ◌≡◌}

-- some value of the identity's type has this form in some environment: these bytes and these references, in their order
pub record HasFormOf {N E : Type 0} (values : E → Values N) (i : Identity) (written : Written) : Type 0 where
  pub environment : E
  pub x : N
  pub typed : (values environment).node_type x ≡ type_of i.kind.0
  pub form : HasForm (values environment) x written

mutual
  -- A finite tree of results stands below the identity and its key: some value of the identity's type has a form, and
  -- the key is that of the form over the keys of one result for each of its references.
  pub data ResultStands {N E : Type 0} (hash : List ℕ → List ℕ) (values : E → Values N) : Identity → ℕ → Type 0 where
    stands-over : (i : Identity) (written : Written) (keys : List ℕ) → HasFormOf values i written
        → ResultsStand hash values written.references keys
        → ResultStands hash values i (key_of hash (blob_of written.bytes keys))

  -- one such tree for each of these references, of its identity
  pub data ResultsStand {N E : Type 0} (hash : List ℕ → List ℕ) (values : E → Values N) : List ArcRef → List ℕ
      → Type 0 where
    no-results : ResultsStand hash values [] []
    more-results : (r : ArcRef) (key : ℕ) (references : List ArcRef) (keys : List ℕ)
        → ResultStands hash values (identity_of r) key → ResultsStand hash values references keys
        → ResultsStand hash values (r ∷ references) (key ∷ keys)

-- The key is that of this data over the keys of results, one for each of its references.
pub record IsKeyOverResults {N E : Type 0} (hash : List ℕ → List ℕ) (values : E → Values N) (item : Written)
    (key : ℕ) : Type 0 where
  pub keys : List ℕ
  pub below : ResultsStand hash values item.references keys
  pub key_is : key ≡ key_of hash (blob_of item.bytes keys)
