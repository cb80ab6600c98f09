-- What a collection holds after items were put in one after another.
use Rattle.pagable_value_spec.specs.{Composite.MeanAll, Meaning.Meaning, declared.numbers.ArcRef.ArcRef}
use Rattle.std.specs.Prelude.{List, [], ◌∷◌, ◌≡◌}

-- The items xs were put in one after another: `acc` was there before, and `now` after. `puts` may allow several results
-- of one item, as a hash map may put an entry anywhere.
unfoldable pub PutInTurn : {X : Type 0} → (List X → X → List X → Type 0) → List X → List X → List X → Type 0
PutInTurn puts acc [] now = now ≡ acc
PutInTurn {X} puts acc (x ∷ xs) now = (mid : List X) × puts acc x mid × PutInTurn puts mid xs now

-- `now` may result if items with these meanings are put, one after another, into an empty collection
pub record Collected {T : Type 0} (M : T → Meaning ArcRef → Type 0) (puts : List T → T → List T → Type 0) (now : List T)
    (ms : List (Meaning ArcRef)) : Type 0 where
  pub xs : List T
  pub each : MeanAll M xs ms
  pub is : PutInTurn puts [] xs now
