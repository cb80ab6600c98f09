-- What a load's step does, with or without what follows its failure, in terms of the specification.
use Rattle.pagable_load.specs.{
  Frames.{IsLoadOf, frame_of, frames_of, frames_onto, reading_of},
  Outcomes.answer_of,
  declared.reading.{Frame.Frame as Held, LoadOutcome.LoadOutcome, Reading.Reading as Own},
}
use Rattle.pagable_pager_spec.specs.{
  Access.{LoadRun, MakesCall, ReadingStep},
  LoadCalls.DropCall,
  Loads.Meets,
  Pager.{HoldsItsNodes, IsPagerWhole, Moves, PagerState, ReadingBrings},
  World.{Frame, Reading, Values},
  declared.{events.LoadAnswer.LoadAnswer, handle_row.Owner.Owner},
}
use Rattle.pagable_value_spec.specs.declared.{error.Error.Error, numbers.LoadNumber.LoadNumber}
use Rattle.std.specs.{
  Option.option_map,
  Prelude.{IfErr, IfOk, List, None, Option, Result, Some, vec_capacity, vec_len, ℕ, [], ◌<◌, ◌∷◌, ◌≡◌},
}

-- a step failed, and the load is still open
pub record Met {N E : Type 0} (v : Values N) (me : Owner) (reading : Reading) (s : PagerState N E) (e : Error)
    (t : PagerState N E) : Type 0 where
  pub meets : Meets v s.core me reading e t.core
  pub moves : Moves (ReadingBrings v s.core reading) s t
  pub holds : IsPagerWhole v s → Moves (λ n x. HoldsItsNodes v s x) s t

-- A whole step, or one up to its failure, if the load is open and is as `own` says.
pub record TriesStep {N E : Type 0} (v : Values N) (me : Owner) (own : Own) (s : PagerState N E)
    (r : Result (Option (LoadOutcome N)) Error) (frames : List Frame) (t : PagerState N E) : Type 0 where
  pub does : IsLoadOf s.core me own
      → IfOk r (λ outcome. ReadingStep v me (reading_of own) s (option_map answer_of outcome) frames t)
  pub meets : IsLoadOf s.core me own → IfErr r (λ e. Met v me (reading_of own) s e t)

-- the load is dropped, whatever the call returned
pub record Drops {N E : Type 0} (v : Values N) (me : Owner) (l : LoadNumber) (s t : PagerState N E) : Type 0 where
  pub told : Result (Unit {0}) Error
  pub call : MakesCall v (λ w'. DropCall s.core me l told w') s t

-- the same load, after `count` steps
pub record IsSameLoad (old new : Own) (count : ℕ) : Type 0 where
  pub load : new.load ≡ old.load
  pub key : new.key ≡ old.key
  pub node_type : new.node_type ≡ old.node_type
  pub for_cell : new.for_cell ≡ old.for_cell
  pub steps : new.steps ≡ count

-- the innermost frame was taken off; there is room in it for one more reference, and for one more frame below
pub record TakenOff (old new : Own) (top : Held) : Type 0 where
  pub frames : frames_of old.top old.below.items ≡ frame_of top ∷ frames_onto [] new.below.items
  pub room : vec_len top.got < vec_capacity top.got
  pub place : vec_len new.below < vec_capacity new.below

-- the two innermost frames were taken off; there is room in the lower one for one more reference
pub record TakenTwo (old new : Own) (top under : Held) : Type 0 where
  pub frames : frames_of old.top old.below.items ≡ frame_of top ∷ frame_of under ∷ frames_onto [] new.below.items
  pub room : vec_len under.got < vec_capacity under.got

-- all steps of a load, if it is open and is as `own` says
pub record RunsLoad {N E : Type 0} (v : Values N) (me : Owner) (own : Own) (s : PagerState N E) (outcome : LoadOutcome N)
    (t : PagerState N E) : Type 0 where
  pub run : IsLoadOf s.core me own → LoadRun v me (reading_of own) s (answer_of outcome) t

-- Some steps have been made: the load is still open, and a run from here continues to a run from the beginning.
pub record HasGone {N E : Type 0} (v : Values N) (me : Owner) (own now : Own) (s t : PagerState N E) : Type 0 where
  pub open_still : IsLoadOf s.core me own → IsLoadOf t.core me now
  pub then : IsLoadOf s.core me own → (answer : LoadAnswer N) (u : PagerState N E)
      → LoadRun v me (reading_of now) t answer u → LoadRun v me (reading_of own) s answer u

-- all steps up to the load's end; or some, if it hasn't ended yet
abbrev pub RunsLoadOrPart : {N E : Type 0} → Values N → Owner → Own → Own → PagerState N E → Option (LoadOutcome N)
    → PagerState N E → Type 0
RunsLoadOrPart v me own now s (Some outcome) t = RunsLoad v me own s outcome t
RunsLoadOrPart v me own now s None t = HasGone v me own now s t
