-- How a load has ended, in terms of the specification, and what its outcome gives.
use Rattle.pagable_load.specs.declared.reading.LoadOutcome.{LoadOutcome}
use Rattle.pagable_pager_spec.specs.{Pager.{PagerState, ValueCall}, declared.events.LoadAnswer.LoadAnswer}
use Rattle.std.specs.{Arc.arc_value, Prelude.{None, Ok, Option, Some}}

abbrev pub answer_of : {N : Type 0} → LoadOutcome N → LoadAnswer N
answer_of (LoadOutcome.Pinned k read) = LoadAnswer.Pinned k
answer_of (LoadOutcome.Read x) = LoadAnswer.Read x
answer_of (LoadOutcome.Refused e) = LoadAnswer.Refused e

-- the value that a pin's load has brought is the one that the new handle pins
abbrev pub GivesValue : {N E : Type 0} → PagerState N E → LoadOutcome N → Type 0
GivesValue s (LoadOutcome.Pinned k (Some read)) = ValueCall s k (Ok (Some (arc_value read)))
GivesValue s (LoadOutcome.Pinned k None) = Unit {0}
GivesValue s (LoadOutcome.Read x) = Unit {0}
GivesValue s (LoadOutcome.Refused e) = Unit {0}

abbrev pub GivesValueIf : {N E : Type 0} → PagerState N E → Option (LoadOutcome N) → Type 0
GivesValueIf s (Some outcome) = GivesValue s outcome
GivesValueIf s None = Unit {0}
