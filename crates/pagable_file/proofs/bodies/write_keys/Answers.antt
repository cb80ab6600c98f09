use Rattle.pagable_file.proofs.Keys.{continues, more_fit}
use Rattle.std.proofs.Common.{arith}
use Rattle.pagable_file.proofs.bodies.write_keys.Goals as goal

pub loop-key-preserved : goal.loop-key-preserved
loop-key-preserved c = grind (arith, continues, more_fit)
