use Rattle.pagable_core.proofs.Weighing.{continues, preimage_is}
use Rattle.std.proofs.{Common.{arith, rules}, lemmas.List.{append-nil, take_all}}
use Rattle.pagable_core.proofs.storage.data.PagableData.preimage.Goals as goal

pub loop-key-init : goal.loop-key-init
loop-key-init c = simp append-nil (search rules)

pub loop-key-preserved : goal.loop-key-preserved
loop-key-preserved c = grind (arith, continues)

pub returns-clause-ok : goal.returns-clause-ok
returns-clause-ok c = grind (arith, preimage_is, take_all)
