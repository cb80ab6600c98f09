-- Vectors of four words, lane by lane.
use Rattle.sha2.specs.Sha256.{schedule}
use Rattle.std.specs.Prelude.{List, slice_index, slice_index_or, suc, zero, ℕ, [], ◌<◌, ◌∷◌, ◌≡◌}

-- the vector whose lane i is f i
abbrev pub lanes : (ℕ → ℕ) → List ℕ
lanes f = f 0 ∷ f 1 ∷ f 2 ∷ f 3 ∷ []

-- the states of four messages, each of eight words: vector j has the word j of each state
abbrev pub in_lanes : (ℕ → List ℕ) → List (List ℕ)
in_lanes s =
    lanes (λ i. slice_index (s i) 0) ∷ lanes (λ i. slice_index (s i) 1) ∷ lanes (λ i. slice_index (s i) 2)
    ∷ lanes (λ i. slice_index (s i) 3) ∷ lanes (λ i. slice_index (s i) 4) ∷ lanes (λ i. slice_index (s i) 5)
    ∷ lanes (λ i. slice_index (s i) 6) ∷ lanes (λ i. slice_index (s i) 7) ∷ []

-- what belongs to each lane
abbrev pub four : {A : Type 0} → A → A → A → A → ℕ → A
four a b c d zero = a
four a b c d (suc zero) = b
four a b c d (suc (suc zero)) = c
four a b c d _ = d

-- the first t vectors have the first t words of the schedules of these blocks
abbrev pub HasWords : List (List ℕ) → (ℕ → List ℕ) → ℕ → Type 0
HasWords words b t =
    (k : ℕ) → k < t → slice_index_or words k [] ≡ lanes (λ i. slice_index (schedule (b i) 48) k)
