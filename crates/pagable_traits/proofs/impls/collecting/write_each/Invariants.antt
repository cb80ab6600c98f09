use Rattle.pagable_traits.proofs.Words.{Error, MeanAll, Ok, Result, Wrote, item_forms}
use Rattle.pagable_traits.proofs.impls.collecting.write_each.Given as goal

abbrev pub invariant-loop-item : goal.invariant-loop-item
invariant-loop-item g l = Wrote g.E.Env g.S.PagableSerializer (item_forms (MeanAll g.T.Carried.means.of l.yielded)
    (g.T.Carried.shape (g.S.PagableSerializer.environment l.fn.serializer)))
    g.T.PagableSerialize.write_causes.are l.fn.serializer l.serializer (let r : Result (Unit {0}) Error = Ok tt in r)
