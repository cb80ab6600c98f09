use Rattle.pagable_changes.specs.Changes.{no-memory-for-key, target-has-no-key, target-is-lost}
use Rattle.std.proofs.Common.{sym, ◌∙◌}
use Rattle.pagable_changes.proofs.keys.append_key.Goals as goal

pub returns-in-Err-clause-fails : goal.returns-in-Err-clause-fails
returns-in-Err-clause-fails g c = target-is-lost _ c.in-Err.ensures.refused

pub returns-in-Ok-add_key-clause-adds : goal.returns-in-Ok-add_key-clause-adds
returns-in-Ok-add_key-clause-adds g c = record {
  key = c.in-Some.key.key;
  has = rw c.in-Some.is at c.in-Ok.ensures.found;
  added = c.in-Ok-add_key.ensures.adds;
  tall = c.height_above.ensures ∙ rw c.in-Some.is at c.in-Ok.ensures.height;
}

pub returns-in-Err-add_key-clause-fails : goal.returns-in-Err-add_key-clause-fails
returns-in-Err-add_key-clause-fails g c = rw c.in-Err-add_key.ensures.refused no-memory-for-key

pub returns-in-None-clause-fails : goal.returns-in-None-clause-fails
returns-in-None-clause-fails g c = target-has-no-key (rw c.in-None.is at c.in-Ok.ensures.found)
