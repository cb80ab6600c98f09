-- What the calls of readers and writers of basic values owe.
use Rattle.pagable_value_spec.specs.{
  BasicValues.longest,
  Lengths.long_or_memory,
  Numbers.Read,
  Outcomes.{Extends, IsOutOfMemory, MatchesReading, no_own_causes},
  Progress.{MovesForward, ReaderState, left},
  declared.error.Error.Error,
}
use Rattle.std.specs.Prelude.{IfErr, List, OnOk, Result, ℕ, ◌++◌, ◌<◌, ◌≡◌, ◌≤◌}

-- The call returned what reading gives here, or the first fault; the position is between the old one and the end.
pub record Reads {X : Type 0} (at : List ℕ → Read X) (result : Result X Error) (old new : ReaderState) : Type 0 where
  pub gives : MatchesReading no_own_causes (λ x. (x, left new)) result (at (left old))
  pub moves : MovesForward old new

-- The form was appended. The call fails only with OutOfMemory, and may then have appended some bytes.
pub record Appends {X : Type 0} (form : List ℕ) (result : Result X Error) (old new : List ℕ) : Type 0 where
  pub ok : OnOk result (new ≡ old ++ form)
  pub only : IfErr result IsOutOfMemory
  pub grows : Extends old new

-- The form of something with a length was appended. Above the greatest length the call fails and appends nothing.
pub record AppendsCounted {X : Type 0} (len : ℕ) (form : List ℕ) (result : Result X Error)
    (old new : List ℕ) : Type 0 where
  pub ok : OnOk result (new ≡ old ++ form)
  pub fits : OnOk result (len ≤ longest)
  pub only : IfErr result (long_or_memory len)
  pub grows : Extends old new
  pub unwritten : longest < len → new ≡ old
