use Rattle.pagable_codec.proofs.Writing.{grows_refl}
use Rattle.std.proofs.Common.{refl}
use Rattle.vectors.proofs.links.RefusingNodeValue.write.Goals as goal

-- src/links.rt:103:5
pub returns-clause-wrote : goal.returns-clause-wrote
returns-clause-wrote g c = record { ok = tt; refused = λ h. cc; only = refl; grows = grows_refl _; same_env = refl; same_levels = refl }
