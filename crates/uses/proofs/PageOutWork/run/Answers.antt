use Rattle.uses.proofs.Working.{paged-out}
use Rattle.uses.proofs.PageOutWork.run.Goals as goal

pub returns-in-Err-Failed-clause-operates : goal.returns-in-Err-Failed-clause-operates
returns-in-Err-Failed-clause-operates g c = λ honest. paged-out (c.page_out_pending.ensures.pages honest)

pub returns-in_default-clause-operates : goal.returns-in_default-clause-operates
returns-in_default-clause-operates g c = λ honest. paged-out (c.page_out_pending.ensures.pages honest)
