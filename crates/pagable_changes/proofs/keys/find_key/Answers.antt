use Rattle.pagable_changes.proofs.Changing.{found-by, height-by}
use Rattle.pagable_changes.specs.Changes.{cell-has-key, cell-has-none}
use Rattle.pagable_tables.specs.NumberTable.{row_by}
use Rattle.std.proofs.Common.{refl, sym}
use Rattle.pagable_changes.proofs.keys.find_key.Goals as goal

pub returns-then-not-is_loose-clause-found : goal.returns-then-not-is_loose-clause-found
returns-then-not-is_loose-clause-found g c = found-by _ _ _ c.found_at.result c.found_at.ensures (sym c.if-not-is_loose.ensures)

pub returns-then-not-is_loose-clause-height : goal.returns-then-not-is_loose-clause-height
returns-then-not-is_loose-clause-height g c = height-by (λ n. row_by c.args.found.now n) c.args.reference c.found_at.result c.found_at.ensures (sym c.if-not-is_loose.ensures)

pub returns-in-Err-clause-refused : goal.returns-in-Err-clause-refused
returns-in-Err-clause-refused g c = record {
  is = c.in-Err.ensures.refused.0;
  lost = record { loose = sym c.if-not-is_loose.ensures; away = c.in-Err.ensures.refused.1 };
}

pub returns-in-Some-clause-found : goal.returns-in-Some-clause-found
returns-in-Some-clause-found g c = cell-has-key c.in-Some.key (sym c.if-not-is_loose.ensures) c.in-Ok.ensures.of_node
    (rw c.in-Some.is at c.in-Ok.ensures.key)

pub returns-in-Some-clause-height : goal.returns-in-Some-clause-height
returns-in-Some-clause-height g c = rw (← c.if-not-is_loose.ensures) refl

pub returns-in-None-clause-found : goal.returns-in-None-clause-found
returns-in-None-clause-found g c = cell-has-none (sym c.if-not-is_loose.ensures) c.in-Ok.ensures.of_node (rw c.in-None.is at c.in-Ok.ensures.key)
