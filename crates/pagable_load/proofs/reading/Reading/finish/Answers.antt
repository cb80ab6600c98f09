use Rattle.pagable_load.proofs.Keyed.{read_stays}
use Rattle.pagable_load.specs.Frames.{reading_of}
use Rattle.pagable_load.proofs.LoadSteps.{acts_map, hand_over_refused}
use Rattle.pagable_pager_spec.specs.Loads.{handles_of}
use Rattle.std.proofs.{Common.{ap, refl, rules, ◌∙◌}, lemmas.Result.err_from_is_err_and}
use Rattle.pagable_load.proofs.reading.Reading.finish.Goals as goal

pub returns-in_err-load_take-clause-acts : goal.returns-in_err-load_take-clause-acts
returns-in_err-load_take-clause-acts g c =
    let named = c.as_slice-2.ensures.value ∙ c.in_ok-named.ensures.ok ∙ ap handles_of (c.as_slice.ensures.value ∙ c.in_ok-references.ensures.ok) in
    let p = err_from_is_err_and c.from_residual-in_err-load_take.result c.from_residual-in_err-load_take.ensures.1 in
    rw (p.1, p.2) (acts_map c.in_err-load_take.ensures (hand_over_refused _ _ _ c.args.self.now c.args.value c.requires.root (search rules) _ named _ _))

pub returns-clause-keyed : goal.returns-clause-keyed
returns-clause-keyed g c = read_stays _ _ _ _ _ (reading_of c.args.self.now) c.args.value refl c.requires.root
