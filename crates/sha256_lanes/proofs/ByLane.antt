-- Vectors are equal if their lanes are, and the words of a schedule come one after another.
use Rattle.sha2.proofs.Schedule256.{slice_index-schedule_first}
use Rattle.sha2.specs.Sha256.{schedule, word_at}
use Rattle.sha256_lanes.specs.Lanes.{HasWords, in_lanes, lanes}
use Rattle.std.proofs.{
  Common.{List, arith, inl, inr, length, slice_index, slice_set, sym, ℕ, [], ◌*◌, ◌+◌, ◌<◌, ◌∙◌, ◌≡◌},
  lemmas.{Bool.cases_lt, List.{get_or-set_other, get_or-set_same}},
}

pub same_lanes : (f g : ℕ → ℕ) → ((i : ℕ) → f i ≡ g i) → lanes f ≡ lanes g
same_lanes f g each = λ j. lanes (λ i. each i j)

pub same_states : (s r : ℕ → List ℕ) → ((i : ℕ) → s i ≡ r i) → in_lanes s ≡ in_lanes r
same_states s r each = λ j. in_lanes (λ i. each i j)

-- one more word
pub one_more_word : (words : List (List ℕ)) (b : ℕ → List ℕ) (t : ℕ) (word : List ℕ) → length words ≡ 64 → t < 64 → HasWords words b t
    → word ≡ lanes (λ i. slice_index (schedule (b i) 48) t) → HasWords (slice_set words t word) b (t + 1)
one_more_word words b t word long low before is = λ k lt. elim (cases_lt k t) [
  | inl less ↦ get_or-set_other words t k word [] (omega arith) ∙ before k less
  | inr most ↦
      let here : t ≡ k = omega arith in
      rw (← here) (get_or-set_same words t word [] (omega arith) ∙ is)
]

-- the first 16 words are those of the block
pub first_word : (b : ℕ → List ℕ) (t : ℕ) → t < 16 → lanes (λ i. word_at (b i) (4 * t)) ≡ lanes (λ i. slice_index (schedule (b i) 48) t)
first_word b t low = same_lanes _ _ (λ i. sym (slice_index-schedule_first (b i) 48 t low))
