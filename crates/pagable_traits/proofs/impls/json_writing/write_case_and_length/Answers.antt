use Rattle.pagable_traits.proofs.{JsonSteps.wrote-err, Words.inr}

pub returns-in_err-write_case : Rattle.pagable_traits.proofs.impls.json_writing.write_case_and_length.Goals.returns-in_err-write_case
returns-in_err-write_case g c = wrote-err c.from_residual.ensures.1 c.in_err-write_case.ensures (λ n l h. tt) (λ h. inr h)
