use Rattle.pagable_load.proofs.Keyed.{pin_stays}
use Rattle.pagable_load.specs.Frames.{reading_of}
use Rattle.pagable_load.proofs.LoadSteps.{acts_from, acts_map, end_closed, end_pins, end_refused}
use Rattle.std.proofs.Common.{refl, ◌∙◌}
use Rattle.pagable_load.proofs.reading.Reading.finish_cell.Goals.{else-ended, then-ended}
use Rattle.pagable_load.proofs.reading.Reading.finish_cell.Goals as goal

pub returns-in-Ok-clause-acts : goal.returns-in-Ok-clause-acts
returns-in-Ok-clause-acts g c = acts_from c.requires.holds (rw c.in_ok-read.ensures.ok at c.in-Ok.ensures.acts)
    (end_pins _ _ _ c.args.self.now c.args.value c.requires.root c.requires.cell c.in-Ok.ended.handle c.if-ended.brought _ refl)

pub returns-in-Some-clause-acts : goal.returns-in-Some-clause-acts
returns-in-Some-clause-acts g c = acts_map (rw (c.in_ok-read.ensures.ok, c.in-Some.is) at c.in-Err.ensures.acts)
    (end_refused _ _ _ c.args.self.now c.args.value c.requires.root c.requires.cell c.in-Err.e _ _)

pub returns-clause-acts : goal.returns-clause-acts
returns-clause-acts g c = acts_from c.requires.holds (rw (c.in_ok-read.ensures.ok, c.in-None.is) at c.in-Err.ensures.acts)
    (end_closed _ _ _ c.args.self.now c.args.value c.requires.root c.requires.cell c.in-Err.e _ refl)

pub returns-in-Ok-clause-keyed : goal.returns-in-Ok-clause-keyed
returns-in-Ok-clause-keyed g c = pin_stays _ _ _ _ _ (reading_of c.args.self.now) c.args.value c.in-Ok.ended.handle c.if-ended.brought refl
    c.requires.root (elim c.if-ended.branch [
      | then-ended w ↦ rw w.brought-is (c.in_ok-kept.ensures.cases ∙ c.in_ok-read.ensures.ok)
      | else-ended w ↦ rw w.brought-is tt
    ])
