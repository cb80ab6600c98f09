use Rattle.pagable_pageout.proofs.{Words.{None, Ok, Some, ap, written_of, ◌∙◌, ◌≡◌}, WorkerTurns.{forms-from, forms-none, forms-other, forms-unshared}}
use Rattle.pagable_pageout.proofs.turns.write_shared.Goals as goal

pub returns-else-node_type-clause-forms : goal.returns-else-node_type-clause-forms
returns-else-node_type-clause-forms g c s pin shared =
    let form = rw c.as_ref.ensures at c.write_value.ensures.form in
    let refused = rw c.as_ref.ensures at c.write_value.ensures.refused in
    let is : c.args.shared ≡ Ok (Some c.in-Ok-Some.node) = c.in-Ok-Some.is ∙ ap (λ x. Ok x) c.in-Ok-Some.field-0-is in
    forms-from written_of c.write_value.result form refused (rw is at shared)

pub returns-then-node_type-clause-forms : goal.returns-then-node_type-clause-forms
returns-then-node_type-clause-forms g c s pin shared =
    let typed = c.node_type.ensures.value ∙ ap g.E.Node.NodeSet.type_of c.deref.ensures in
    let is : c.args.shared ≡ Ok (Some c.in-Ok-Some.node) = c.in-Ok-Some.is ∙ ap (λ x. Ok x) c.in-Ok-Some.field-0-is in
    forms-other typed (rw c.node_type-in-Ok-Some.ensures at c.if-node_type.true) (rw is at shared)

pub returns-in-Ok-None-clause-forms : goal.returns-in-Ok-None-clause-forms
returns-in-Ok-None-clause-forms g c s pin shared =
    let is : c.args.shared ≡ Ok None = c.in-Ok-None.is ∙ ap (λ x. Ok x) c.in-Ok-None.field-0-is in
    forms-none (rw is at shared)

pub returns-in-Err-clause-forms : goal.returns-in-Err-clause-forms
returns-in-Err-clause-forms g c s pin shared = forms-unshared (rw c.in-Err.is at shared)
