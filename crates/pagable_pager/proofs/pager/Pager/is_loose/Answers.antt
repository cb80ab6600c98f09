pub returns : Rattle.pagable_pager.proofs.pager.Pager.is_loose.Goals.returns
returns g c = rw (← c.self.view_is) (c.is_loose.ensures _)
