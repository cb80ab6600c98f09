use Rattle.blobctl.proofs.Caching.{entry_back}
use Rattle.std.proofs.Common.{arith, rules}
use Rattle.std.proofs.lemmas.Grind.{common_steps}
use Rattle.blobctl.proofs.entry.write_entry.Goals as goal

pub returns : goal.returns
returns c = entry_back c.args.facts c.args.content.now _ (grind (arith, common_steps)) (search rules) (search rules)
