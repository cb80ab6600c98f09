use Rattle.std.proofs.Common.{length}
use Rattle.pagable_pager.proofs.pager.leaf_page_out.+write_leaves.Given as goal

abbrev pub decreases-write_leaves : goal.decreases-write_leaves
decreases-write_leaves g l = length l.shared.items
