use Rattle.pagable_pager.proofs.LentCalls.{load_starts}

pub returns-in-Ok-true : Rattle.pagable_pager.proofs.pager.Pager.begin_pin_for.Goals.returns-in-Ok-true
returns-in-Ok-true g c = let step = rw c.in-Load.is at c.in_ok-load.ensures.step in
    record { step = load_starts step c.in-Some.node_type c.in-Some.ensures; only = c.in_ok-load.ensures.only }
