-- What was done at one name changes no other.
use Rattle.std.proofs.{Common.arith, lemmas.Map.Text.text_keys}
use Rattle.named_texts.proofs.names.Names.free_name.Goals as goal

pub returns-clause-others : goal.returns-clause-others
returns-clause-others c = grind (arith, text_keys)
