use Rattle.pagable_core.proofs.Weighing.{continues, preimage_is}
use Rattle.std.proofs.{Common.{arith, rules}, lemmas.List.{append-nil, take_all}}

pub loop-key-init : Rattle.pagable_core.proofs.storage.data.PagableData.compute_key.Goals.loop-key-init
loop-key-init g c = simp append-nil (search rules)

pub loop-key-preserved : Rattle.pagable_core.proofs.storage.data.PagableData.compute_key.Goals.loop-key-preserved
loop-key-preserved g c = grind (arith, continues)

pub returns : Rattle.pagable_core.proofs.storage.data.PagableData.compute_key.Goals.returns
returns g c = grind (arith, preimage_is, take_all)
