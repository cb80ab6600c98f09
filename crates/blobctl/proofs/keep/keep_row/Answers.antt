use Rattle.blobctl.proofs.Keeping.{stay_pushed}
use Rattle.blobctl.proofs.keep.keep_row.Goals as goal

pub returns-clause-stay : goal.returns-clause-stay
returns-clause-stay c key there = stay_pushed _ _ _ c.in_ok-push.ensures.items key there
