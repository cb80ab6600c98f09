use Rattle.std.proofs.Common.{IsTrue, map, take, ◌≡◌}
use Rattle.std.specs.String.{string_bytes}
use Rattle.pagable_file.proofs.copy.read_roots.Given as goal

-- the keys of the names so far
abbrev pub invariant-loop-name : goal.invariant-loop-name
invariant-loop-name g l = record {
  read : IsTrue (g.S.PagableStorage.is_honest l.from) → l.keys.items ≡ map (λ name. g.S.PagableStorage.roots l.fn.from (string_bytes name)) (take l.name-index l.names);
  roots : IsTrue (g.S.PagableStorage.is_honest l.from) → g.S.PagableStorage.roots l.from ≡ g.S.PagableStorage.roots l.fn.from;
  same : IsTrue (g.S.PagableStorage.is_honest l.from) → g.S.PagableStorage.stored l.from ≡ g.S.PagableStorage.stored l.fn.from;
  honest : IsTrue (g.S.PagableStorage.is_honest l.from) → IsTrue (g.S.PagableStorage.is_honest l.fn.from);
}
