-- What reading a part gives, and where a deserializer stands then.
use Rattle.pagable_flavors.specs.Calls.{Reads}
use Rattle.pagable_value_spec.specs.{
  Cursor.{Answer, Gave, InputState, MovesOn},
  Meaning.Meaning,
  Numbers.Read,
  Outcomes.{MatchesReading, no_own_causes},
  Progress.{MovesForward, ReaderState, left},
  Reading.{Rest, bytes_of},
  declared.{error.Error.Error, numbers.ArcRef.ArcRef},
}
use Rattle.std.proofs.Common.{List, Ok, Result, arith, refl, ℕ, ◌∙◌, ◌≡◌}

pub moves_trans : {N : Type 0} (a b c : InputState N) → MovesOn a b → MovesOn b c → MovesOn a c
moves_trans a b c g h = record {
  whole = h.whole ∙ g.whole;
  lent = h.lent ∙ g.lent;
  bytes = omega (arith, g.bytes, h.bytes);
  refs = omega (arith, g.refs, h.refs);
  within = λ w. h.within (g.within w);
}

pub moves_refl : {N : Type 0} (a : InputState N) → MovesOn a a
moves_refl a = record { whole = refl; lent = refl; bytes = omega arith; refs = omega arith; within = λ w. w }

-- the one meaning of a value
pub gave_is : {R : Type 0} (meaning : Meaning ArcRef) (after : R) (read : Result (Meaning ArcRef × R) Error) → read ≡ Ok (meaning, after)
    → Gave (λ m. m ≡ meaning) after read
gave_is meaning after read e = record { m = meaning; is = refl; gave = e }

-- a part of a value, by what a deserializer says of itself with another reader
pub part_read : {X E N : Type 0} (at : List ℕ → Read X) (r : Result X Error) {rest last : Rest Answer} {old new : InputState N} {env env_after : E}
    {levels levels_after : ℕ} {given used : ReaderState}
    → rest.bytes ≡ left given → last ≡ record rest { bytes = left used } → (MovesForward given used → MovesOn old new) → env_after ≡ env → levels_after ≡ levels
    → Reads at r given used
    → record {
      gives : MatchesReading no_own_causes (λ x. (x, last)) r (bytes_of at (λ x. x) rest);
      moves : MovesOn old new;
      same_env : env_after ≡ env;
      same_levels : levels_after ≡ levels;
    }
part_read at r {rest = rest} {used = used} e f moves same_env same_levels told = record {
  gives = let h : MatchesReading no_own_causes (λ x. (x, left used)) r (at rest.bytes) = rw e told.gives in rw f (grind arith);
  moves = moves told.moves;
  same_env = same_env;
  same_levels = same_levels;
}

pub ruleset parts = (gave_is, moves_trans, moves_refl)
