pub returns : Rattle.pagable_pager.proofs.pager.Pager.key.Goals.returns
returns g c = rw (← c.self.view_is) (c.key.ensures _)
