-- Taking the next answer of a list of references.
use Rattle.pagable_core.specs.Context.{answers_from, input_state_at}
use Rattle.pagable_value_spec.specs.{
  Cursor.{Answer, MovesOn, answer_at, rest_at},
  Meaning.Meaning,
  Outcomes.{MatchesReading, no_own_causes},
  Progress.ReaderState,
  ReadSteps.◌>>=◌,
  Reading.{Rest, reference_at},
  declared.{error.Error.Error, numbers.ArcRef.ArcRef},
}
use Rattle.std.proofs.{
  Common.{Err, List, Ok, Option, Result, Some, ap, arith, drop, inl, length, refl, suc, zero, ℕ, [], ◌+◌, ◌<◌, ◌∷◌, ◌≡◌, ◌≤◌},
  lemmas.List.drop_all,
}
use Rattle.std.specs.Prelude.{slice_get}
use Rattle.pagable_value_spec.specs.declared.error.Error.TheVariants as errors
use Rattle.pagable_value_spec.specs.Meaning as meanings

module _ (answer : ℕ → ℕ → ℕ → Result ArcRef Error) where
  pub length_of_answers : (place : ℕ) (keys : List ℕ) → length (answers_from answer place keys) ≡ length keys
  length_of_answers place [] = refl
  length_of_answers place (key ∷ keys) = ap (λ (n : ℕ). suc n) (length_of_answers (place + 1) keys)

  none_from : (place at : ℕ) (keys : List ℕ) → length keys ≤ at → drop at (answers_from answer place keys) ≡ []
  none_from place at keys h = drop_all at (answers_from answer place keys) (omega (arith, h, length_of_answers place keys))

  some_from : (place at key : ℕ) (keys : List ℕ) → slice_get keys at ≡ Some key
      → drop at (answers_from answer place keys) ≡ (λ kind. answer (place + at) key kind) ∷ drop (at + 1) (answers_from answer place keys)
  some_from place at key [] h = absurd cc
  some_from place zero key (first ∷ keys) h = grind arith
  some_from place (suc at) key (first ∷ keys) h = grind (arith, some_from (place + 1) at key keys h)

  -- no key is left
  pub none_left : (kind at : ℕ) (keys : List ℕ) (rest : Rest Answer) → length keys ≤ at
      → reference_at answer_at kind (drop at (answers_from answer 0 keys)) rest ≡ Err errors.NoMoreKeys
  none_left kind at keys rest h = rw (none_from 0 at keys h) refl

-- of no key, none is used; of a key that was taken, that one, whatever was answered
pub used_of_none : {N : Type 0} (answer : ℕ → ℕ → ℕ → Result ArcRef Error) (lent : ℕ → Option (ArcRef × N)) (old new reader : ReaderState) → new ≡ old
    → length old.all ≤ old.position
    → rest_at (input_state_at answer lent new reader) ≡ record (rest_at (input_state_at answer lent old reader))
    { refs = drop 1 (rest_at (input_state_at answer lent old reader)).refs }
used_of_none answer lent old new reader same h = rw (same, none_from answer 0 old.position old.all h) refl

-- what was answered is what reading gives
pub gives_answer : (r : Result ArcRef Error) (read : Result (Meaning ArcRef × Rest Answer) Error) (after : Rest Answer) → read
    ≡ (r >>= λ b. Ok (meanings.reference b, after)) → MatchesReading no_own_causes (λ b. (meanings.reference b, after)) r read
gives_answer (Ok x) read after e = e
gives_answer (Err x) read after e = inl e

-- what taking a key answers, and where that leads
module _ {N : Type 0} (before after : ℕ → ℕ → ℕ → Result ArcRef Error) (lent lent_after : ℕ → Option (ArcRef × N)) (old new reader : ReaderState) (key : ℕ)
    (same : after ≡ before) (kept : lent_after ≡ lent) (found : slice_get old.all old.position ≡ Some key)
    (moved : new ≡ record old { position = old.position + 1 }) where
  from : drop old.position (answers_from before 0 old.all) ≡ (λ kind. before old.position key kind) ∷ drop (old.position + 1) (answers_from before 0 old.all)
  from = let none : 0 + old.position ≡ old.position = omega arith in rw none at (some_from before 0 old.position key old.all found)

  pub took : (kind place : ℕ) (r : Result ArcRef Error) → place ≡ old.position → r ≡ before place key kind
      → MatchesReading no_own_causes (λ x. (meanings.reference x, rest_at (input_state_at after lent_after new reader))) r
      (reference_at answer_at kind (rest_at (input_state_at before lent old reader)).refs (rest_at (input_state_at before lent old reader)))
  took kind place r at is = let answered : r ≡ before old.position key kind = rw (← at) is in rw (same, moved) (gives_answer r _ _ (rw (from, answered) refl))

  pub took_one : rest_at (input_state_at after lent_after new reader) ≡ record (rest_at (input_state_at before lent old reader))
      { refs = drop 1 (rest_at (input_state_at before lent old reader)).refs }
  took_one = rw (same, moved, from) refl

  pub took_moves : old.position < length old.all → MovesOn (input_state_at before lent old reader) (input_state_at after lent_after new reader)
  took_moves h = grind (arith, length_of_answers)
