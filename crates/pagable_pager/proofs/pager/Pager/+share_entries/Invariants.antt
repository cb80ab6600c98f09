use Rattle.pagable_pager.proofs.pager.Pager.+share_entries.Given as goal

abbrev pub decreases-share_entries : goal.decreases-share_entries
decreases-share_entries g l = l.most
