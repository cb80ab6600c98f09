-- A pin in parts.
use Rattle.pagable_load.specs.{
  Frames.{IsLoadOf, reading_of},
  PinStart.Shares,
  declared.{access.PinStart.PinStart, pin.BegunPin.BegunPin, reading.Reading.Reading as Own},
}
use Rattle.pagable_pager_spec.specs.{
  Access.LoadRun,
  Loads.root_frame,
  Pager.PagerState,
  World.{Reading, Values},
  declared.{events.LoadAnswer.LoadAnswer, handle_row.Owner.Owner},
}
use Rattle.pagable_value_spec.specs.{Blob.Blob, declared.{error.Error.Error, numbers.HandleNumber.HandleNumber}}
use Rattle.std.specs.{Arc.arc_value, Prelude.{Err, IfErr, IfOk, Ok, Result, [], ◌∷◌}}

-- how the pin began, as numbers only
abbrev pub begun_as : {N : Type 0} → BegunPin N → PinStart
begun_as (BegunPin.Pinned k was_unpinned shared) = PinStart.Pinned k was_unpinned
begun_as (BegunPin.Reading r) = PinStart.Load r.reading.load r.reading.key r.reading.node_type

abbrev pub start_of : {N : Type 0} → Result (BegunPin N) Error → Result PinStart Error
start_of (Ok b) = Ok (begun_as b)
start_of (Err e) = Err e

-- the value of the pinned node is shared, or sharing it fails
abbrev pub SharesBegun : {N E : Type 0} → PagerState N E → BegunPin N → Type 0
SharesBegun s (BegunPin.Pinned k was_unpinned shared) = Shares arc_value s k shared
SharesBegun s (BegunPin.Reading r) = Unit {0}

-- the reading with this blob as its root's
abbrev pub with_root : Own → Blob → Reading
with_root own blob = record (reading_of own) { frames = root_frame own.key own.node_type blob ∷ [] }

-- The load's steps from its root's blob up to its end, if the load is open and is as `own` says.
pub record PinsFrom {N E : Type 0} (v : Values N) (me : Owner) (own : Own) (blob : Blob) (s : PagerState N E)
    (r : Result HandleNumber Error) (t : PagerState N E) : Type 0 where
  pub pinned : IfOk r (λ k. IsLoadOf s.core me own → LoadRun v me (with_root own blob) s (LoadAnswer.Pinned k) t)
  pub refused : IfErr r (λ e. IsLoadOf s.core me own → LoadRun v me (with_root own blob) s (LoadAnswer.Refused e) t)
