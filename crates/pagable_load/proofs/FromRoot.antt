-- A load's steps from its root's blob, which the caller has fetched.
use Rattle.pagable_load.specs.{
  Frames.{IsLoadOf, frames_of, reading_of},
  LoadSteps.{IsSameLoad, RunsLoad},
  Outcomes.answer_of,
  PolledPin.{PinsFrom, with_root},
  declared.reading.{LoadOutcome.LoadOutcome, Reading.Reading as Own},
}
use Rattle.pagable_pager_spec.specs.{
  Access.LoadRun,
  Loads.root_frame,
  Pager.PagerState,
  Refusals.OwnsLoad,
  World.{Core, Reading, Values},
  declared.handle_row.Owner.Owner,
}
use Rattle.pagable_value_spec.specs.{Blob.Blob, declared.{error.Error.Error, numbers.HandleNumber.HandleNumber}}
use Rattle.std.proofs.Common.{Err, Ok, Option, refl, subst, sym, [], ◌∙◌, ◌∷◌, ◌≡◌}
use Rattle.std.specs.{Global.Global, declared.sync.Arc.Arc}

module _ {N : Type 0} (v : Values N) (me : Owner) (own now : Own) (blob : Blob) (same : IsSameLoad own now own.steps)
    (root : frames_of now.top now.below.items ≡ root_frame own.key own.node_type blob ∷ []) where
  rooted : reading_of now ≡ with_root own blob
  rooted = rw (same.load, same.node_type, same.steps, root) refl

  still-open : {w : Core} → IsLoadOf w me own → IsLoadOf w me now
  still-open {w} o = record {
    load = o.load;
    owned = subst (λ l. OwnsLoad w me l o.load) (sym same.load) o.owned;
    key = o.key ∙ sym same.key;
    sort = o.sort ∙ sym same.for_cell;
  }

  goes : {E : Type 0} {s t : PagerState N E} (outcome : LoadOutcome N) → RunsLoad v me now s outcome t → IsLoadOf s.core me own
      → LoadRun v me (with_root own blob) s (answer_of outcome) t
  goes {s = s} {t = t} outcome runs o = subst (λ (r : Reading). LoadRun v me r s (answer_of outcome) t) rooted (runs.run (still-open o))

  pub root_pins : {E : Type 0} (k : HandleNumber) (read : Option (Arc N Global)) (s t : PagerState N E) → RunsLoad v me now s (LoadOutcome.Pinned k read) t
      → PinsFrom v me own blob s (Ok k) t
  root_pins k read s t runs = record { pinned = goes (LoadOutcome.Pinned k read) runs; refused = tt }

  pub root_fails : {E : Type 0} (e : Error) (s t : PagerState N E) → RunsLoad v me now s (LoadOutcome.Refused e) t → PinsFrom v me own blob s (Err e) t
  root_fails e s t runs = record { pinned = tt; refused = goes (LoadOutcome.Refused e) runs }

pub ruleset rooting = (root_pins, root_fails)
