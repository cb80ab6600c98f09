use Rattle.std.proofs.Common.{length}
use Rattle.pagable_pager.proofs.lent.Lent.+put_back.Given as goal

abbrev pub decreases-put_back : goal.decreases-put_back
decreases-put_back g l = length l.taken.now
