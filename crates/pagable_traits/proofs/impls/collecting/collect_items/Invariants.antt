use Rattle.pagable_traits.proofs.{JsonSteps.SoFar, Words.{Collected, read}}
use Rattle.pagable_traits.specs.HeldValues.{CollectsHeld}
use Rattle.pagable_traits.proofs.impls.collecting.collect_items.Given as goal

abbrev pub invariant-loop-index : goal.invariant-loop-index
invariant-loop-index g l =
    SoFar g.E.Env g.D.PagableDeserializer (λ ms. Collected g.T.Carried.means.of g.C.Collects.puts (g.C.Collects.held l.collected) ms)
    (λ x. read x (g.T.Carried.shape (g.D.PagableDeserializer.environment l.fn.deserializer))) l.count l.index l.fn.deserializer l.deserializer
    × CollectsHeld (g.D.PagableDeserializer.input_state l.fn.deserializer) g.T.Carried.beside g.C.Collects.puts (g.C.Collects.held l.collected)
