use Rattle.pagable_file.specs.Copies.{HasWantedRoot, StaysOrCopies}
use Rattle.std.proofs.Common.{IsTrue, List, Option, map, take, ℕ, ◌≡◌}
use Rattle.std.specs.{List.AllByRecursion, String.string_bytes}
use Rattle.pagable_file.proofs.copy.set_roots.Given as goal

-- the names so far stand for what is wanted
abbrev pub invariant-loop-at : goal.invariant-loop-at
invariant-loop-at g l = record {
  set : IsTrue (g.T.PagableStorage.is_honest l.to) → (wanted : List ℕ → Option ℕ) → l.keys ≡ map (λ name. wanted (string_bytes name)) l.names
      → AllByRecursion (λ name. HasWantedRoot l.copied wanted (g.T.PagableStorage.roots l.to) (string_bytes name)) (take l.at l.names);
  named : IsTrue (g.T.PagableStorage.is_honest l.to) → (wanted : List ℕ → Option ℕ) → l.keys ≡ map (λ name. wanted (string_bytes name)) l.names
      → StaysOrCopies l.names wanted (g.T.PagableStorage.roots l.fn.to) (g.T.PagableStorage.roots l.to);
  same : IsTrue (g.T.PagableStorage.is_honest l.to) → g.T.PagableStorage.stored l.to ≡ g.T.PagableStorage.stored l.fn.to;
  honest : IsTrue (g.T.PagableStorage.is_honest l.to) → IsTrue (g.T.PagableStorage.is_honest l.fn.to);
}
