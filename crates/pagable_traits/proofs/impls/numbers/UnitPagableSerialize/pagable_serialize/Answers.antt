use Rattle.pagable_traits.proofs.{JsonSteps.wrote-nothing, Words.writes_nothing}

pub returns : Rattle.pagable_traits.proofs.impls.numbers.UnitPagableSerialize.pagable_serialize.Goals.returns
returns g c = wrote-nothing (writes_nothing _ _)
