pub returns : Rattle.pagable_pager.proofs.pager.Pager.count.Goals.returns
returns g c = rw (← c.self.view_is) (c.pin_count.ensures _)
