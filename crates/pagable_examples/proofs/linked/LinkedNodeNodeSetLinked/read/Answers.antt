use Rattle.pagable_examples.proofs.Listed.{refused_so}
use Rattle.std.proofs.Common.{inr}
use Rattle.pagable_examples.proofs.linked.LinkedNodeNodeSetLinked.read.Goals as goal

pub returns-in_err-bundle-in-2-clause-gives : goal.returns-in_err-bundle-in-2-clause-gives
returns-in_err-bundle-in-2-clause-gives g c =
    let left = c.from_residual-in_err-bundle-in-2 in
    rw c.in-2.is (refused_so _ _ left.result left.ensures.1 c.in_err-bundle-in-2.ensures.reads.gives (λ e own. inr own))
