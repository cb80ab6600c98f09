use Rattle.pagable_tables.proofs.Words.{List, core_of, drop, false, is_in, is_named_by, references_fault, take, ℕ, [], ◌<◌, ◌≡◌}
use Rattle.pagable_tables.specs.Core.{StorageView}
use Rattle.pagable_tables.proofs.checks.references_fault.Given as goal

abbrev pub invariant-loop-i : goal.invariant-loop-i
invariant-loop-i l = record {
  seen : List ℕ;
  same : (q : ℕ) → is_in seen q ≡ is_named_by (take l.i l.references) q;
  lowest : (q : ℕ) → q < l.lowest → is_named_by (take l.i l.references) q ≡ false;
  highest : (q : ℕ) → l.highest < q → is_named_by (take l.i l.references) q ≡ false;
  rest : (storage : StorageView) → references_fault (core_of l.t storage) l.me [] l.references
      ≡ references_fault (core_of l.t storage) l.me seen (drop l.i l.references);
}
