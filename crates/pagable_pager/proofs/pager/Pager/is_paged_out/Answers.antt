pub returns : Rattle.pagable_pager.proofs.pager.Pager.is_paged_out.Goals.returns
returns g c = rw (← c.self.view_is) (c.is_paged_out.ensures _)
