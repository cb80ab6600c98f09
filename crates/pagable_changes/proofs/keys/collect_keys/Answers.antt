use Rattle.pagable_changes.proofs.Changing.{all-taken, higher, is-there, no-height-yet, no-keys-yet, no-memory, one-taken, whole-height}
use Rattle.pagable_changes.specs.Changes.{a-key-fails, no-memory-for-keys}
use Rattle.pagable_tables.specs.NumberTable.{row_by}
use Rattle.std.proofs.Common.{arith, sym}
use Rattle.pagable_changes.proofs.keys.collect_keys.Goals as goal

pub loop-at-init : goal.loop-at-init
loop-at-init g c = record {
  within = omega arith;
  so = no-keys-yet c.args.references.now.items c.in_ok-keys.ensures.items;
  tall = no-height-yet (λ n. row_by c.args.found.now n) c.args.references.now.items;
}

pub loop-at-preserved : goal.loop-at-preserved
loop-at-preserved g c = record {
  within = omega (arith, c.loop-at-test.true);
  so = one-taken c.args.references.now.items c.loop-at.at (sym c.in-Some.ensures) c.loop-at.invariant.so c.in-Ok.ensures.adds;
  tall = higher c.args.references.now.items c.loop-at.at (sym c.in-Some.ensures) c.in-Ok.ensures.adds c.loop-at.invariant.tall c.max-height.ensures;
}

pub returns-in_err-keys-clause-fails : goal.returns-in_err-keys-clause-fails
returns-in_err-keys-clause-fails g c = no-memory _ c.from_residual.result c.from_residual.ensures.1 no-memory-for-keys

pub returns-in_default-clause-fails : goal.returns-in_default-clause-fails
returns-in_default-clause-fails g c = absurd (is-there c.args.references.now.items c.loop-at.at (omega (arith, c.loop-at-test.true)) (sym c.in_default.ensures))

pub returns-in-Err-clause-fails : goal.returns-in-Err-clause-fails
returns-in-Err-clause-fails g c = a-key-fails c.in-Some.reference _ (c.loop-at.at, sym c.in-Some.ensures) c.in-Err.ensures.fails

pub returns-clause-keys : goal.returns-clause-keys
returns-clause-keys g c = all-taken c.args.references.now.items {at = c.loop-at.at} (omega (arith, c.loop-at-test.false)) c.loop-at.invariant.so

pub returns-clause-height : goal.returns-clause-height
returns-clause-height g c = whole-height _ c.args.references.now.items {at = c.loop-at.at} (omega (arith, c.loop-at-test.false)) c.loop-at.invariant.tall
