use Rattle.pagable_traits.proofs.{
  JsonSteps.{read-err, then-err, then-ok},
  Words.{failure, inl, inr, means-err, means-ok, read, read_with, refl, success},
}
use Rattle.pagable_traits.proofs.impls.holders.ResultPagableDeserialize.pagable_deserialize.Goals as goal

pub returns-in_err-good-clause-reads : goal.returns-in_err-good-clause-reads
unfolding read read_with
returns-in_err-good-clause-reads g c = read-err c.from_residual.ensures.1 c.in_err-good.ensures (λ no. absurd no) (λ h. rw h refl)

pub returns-in_err-value-clause-reads : goal.returns-in_err-value-clause-reads
unfolding read read_with
returns-in_err-value-clause-reads g c =
    let told = c.in_ok-good.ensures in
    then-err success c.from_residual-in_err-value.ensures.1 told (rw told.same_env at c.in_err-value.ensures.reads)
    (rw (told.gives, c.if-good.true) refl) (λ h. inl h)

pub returns-then-good-clause-reads : goal.returns-then-good-clause-reads
unfolding read read_with
returns-then-good-clause-reads g c =
    let told = c.in_ok-good.ensures in
    then-ok success told (rw told.same_env at c.in_ok-value.ensures.reads) (rw (told.gives, c.if-good.true) refl) (λ m is. means-ok _ m is)

pub returns-in_err-failure-clause-reads : goal.returns-in_err-failure-clause-reads
unfolding read read_with
returns-in_err-failure-clause-reads g c =
    let told = c.in_ok-good.ensures in
    then-err failure c.from_residual-in_err-failure.ensures.1 told (rw told.same_env at c.in_err-failure.ensures.reads)
    (rw (told.gives, c.if-good.false) refl) (λ h. inr h)

pub returns-clause-reads : goal.returns-clause-reads
unfolding read read_with
returns-clause-reads g c =
    let told = c.in_ok-good.ensures in
    then-ok failure told (rw told.same_env at c.in_ok-failure.ensures.reads) (rw (told.gives, c.if-good.false) refl) (λ m is. means-err _ m is)
