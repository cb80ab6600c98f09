use Rattle.pagable_calls.proofs.Driven.{serves, serves-less}
use Rattle.pagable_calls.proofs.events.make_call.Goals as goal

pub returns-in-LoadAdopt-clause-serves : goal.returns-in-LoadAdopt-clause-serves
returns-in-LoadAdopt-clause-serves g c = rw c.in-LoadAdopt.is (λ is. serves c.load_adopt.ensures.step c.load_adopt.ensures.moves)

pub returns-in-LoadEnd-clause-serves : goal.returns-in-LoadEnd-clause-serves
returns-in-LoadEnd-clause-serves g c = rw c.in-LoadEnd.is (λ is. serves c.load_end.ensures.step c.load_end.ensures.moves)

pub returns-in-LoadTake-clause-serves : goal.returns-in-LoadTake-clause-serves
returns-in-LoadTake-clause-serves g c = rw c.in-LoadTake.is (λ is. serves-less (rw c.deref.ensures.value at c.load_take.ensures.step) c.load_take.ensures.only)
