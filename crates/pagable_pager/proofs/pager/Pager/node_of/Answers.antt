pub returns : Rattle.pagable_pager.proofs.pager.Pager.node_of.Goals.returns
returns g c = rw (← c.self.view_is) (c.node_of.ensures _)
