use Rattle.std.proofs.Common.{length, ◌-◌}
use Rattle.pagable_locked.proofs.locked.Locked.+page_out_taken.Given as goal

abbrev pub decreases-page_out_taken : goal.decreases-page_out_taken
decreases-page_out_taken g l = length l.taken.now - l.place
