-- What is stored, and what names stand for, after a blob was stored, a name was set, and the storage was flushed.
use Rattle.pagable_core.specs.Roots.{Sets}
use Rattle.pagable_pager_spec.specs.{Basics.Blob, Calls.{Asked, StoreCall}, World.Core}
use Rattle.std.proofs.{
  Common.{Bool, Ok, Option, List, Some, ap, arith, refl, ℕ, ◌∙◌, ◌≡◌},
  lemmas.{Bool.Decides.nat_tests, Slice.Eq.bytes_eq-Decides},
}
use Rattle.std.specs.{Prelude.if◌then◌else◌, Str.bytes_eq}

-- a blob that was stored stays stored under its key
pub stays-stored : {digest : Blob → ℕ} {w mid named new : Core} {blob : Blob} {key : ℕ} → StoreCall digest w blob (Ok key) mid → Asked mid named
    → Asked named new → new.stored key ≡ Some blob
stays-stored {mid = mid} {blob = blob} {key} stores sets flushes =
    let stored : mid.stored key ≡ Some blob = grind (arith, nat_tests, stores.stores.1.adds.each key) in
    flushes.leaves.stored key ∙ sets.leaves.stored key ∙ stored

-- a name that was set stands for its key
pub stands-so : (name : List ℕ) (key : Option ℕ) (old new : List ℕ → Option ℕ) → Sets name key old new → new name ≡ key
stands-so name key old new sets = sets name ∙ ap (λ (b : Bool). if b then key else old name) ((bytes_eq-Decides name name).1 refl)

-- what names stand for after a store, and durably stand for after a flush
pub sets-so : (name : List ℕ) (key : Option ℕ) (old mid named new : List ℕ → Option ℕ) → mid ≡ old → Sets name key mid named → new ≡ named
    → Sets name key old new
sets-so name key old mid named new stored sets flushed q =
    ap (λ (f : List ℕ → Option ℕ). f q) flushed ∙ sets q ∙ ap (λ (f : List ℕ → Option ℕ). if bytes_eq name q then key else f q) stored
