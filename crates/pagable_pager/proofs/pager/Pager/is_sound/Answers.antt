use Rattle.pagable_pager.proofs.Invariant.{kept-in}
use Rattle.pagable_pager.proofs.pager.Pager.is_sound.Goals as goal

pub returns-clause-always : goal.returns-clause-always
returns-clause-always g c = c.is_sound.ensures.always c.self.invariant.tables (kept-in c.self.invariant)
