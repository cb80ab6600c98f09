use Rattle.pagable_load.proofs.Keyed.{then_stays}
use Rattle.pagable_load.specs.AccessView.{values_at}
use Rattle.pagable_load.proofs.{LoadSteps.{acts_map, acts_then, environment-is}, PinsAndReads.{ends_so, goes_or_ends, none_gone, went_on}}
use Rattle.std.proofs.Common.{refl}
use Rattle.pagable_load.proofs.reading.Reading.run_first_steps.Goals as goal

pub returns-in-Some-clause-acts : goal.returns-in-Some-clause-acts
returns-in-Some-clause-acts g c =
    let own = c.args.self.now in acts_map c.in-Some.ensures.acts (λ s t step. ends_so _ _ own own s s t (none_gone own s) c.in-Some.answer _ step)

pub returns-then-has_references-clause-acts : goal.returns-then-has_references-clause-acts
returns-then-has_references-clause-acts g c =
    let own = c.args.self.now in acts_map c.in_default.ensures.acts (λ s t step. went_on _ _ own own s s t (none_gone own s) c.step_for.new.self _
    c.step_for.ensures.same refl step)

pub returns-clause-acts : goal.returns-clause-acts
returns-clause-acts g c =
    let own = c.args.self.now in
    let now = c.step_for.new.self in
    acts_then c.in_default.ensures.acts c.step.ensures.acts
    (λ s mid t one two. goes_or_ends _ _ own now s mid t (went_on _ _ own own s s mid (none_gone own s) now _ c.step_for.ensures.same refl one) c.step.new.self
    _ c.step.result c.step.ensures.same refl two)

pub returns-clause-keyed : goal.returns-clause-keyed
returns-clause-keyed g c =
    then_stays (values_at g.E.Node.NodeSet g.E.Env g.E.Hash.KeyHash) (environment-is c.in_default.ensures.acts.acting)
    c.step_for.ensures.same.key c.step_for.ensures.same.node_type c.in_default.ensures.keyed c.step.ensures.keyed
