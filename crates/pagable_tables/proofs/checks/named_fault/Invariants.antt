use Rattle.pagable_tables.proofs.Words.{Core, drop, earlier, false, is_in, live, named_fault, seen, ℕ, [], ◌<◌, ◌≡◌}
use Rattle.pagable_tables.proofs.checks.named_fault.Given as goal

abbrev pub invariant-loop-i : goal.invariant-loop-i
invariant-loop-i l = record {
  lowest : (q : ℕ) → q < l.lowest → is_in (seen l.named l.i) q ≡ false;
  highest : (q : ℕ) → l.highest < q → is_in (seen l.named l.i) q ≡ false;
  rest : (w : Core) → w.rows ≡ live l.handles.places.items → earlier l.fault (named_fault w l.owner (seen l.named l.i) (drop l.i l.named))
      ≡ named_fault w l.owner [] l.named;
}
