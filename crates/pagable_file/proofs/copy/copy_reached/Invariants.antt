use Rattle.pagable_file.specs.Copies.{AreCopied}
use Rattle.pagable_value_spec.specs.Stored.{Keeps}
use Rattle.std.proofs.Common.{IsTrue, ◌≡◌}
use Rattle.pagable_file.proofs.copy.copy_reached.Given as goal

-- each key that was copied so far has its children copied
abbrev pub invariant-keys : goal.invariant-keys
invariant-keys g l = record {
  copied : IsTrue (g.S.PagableStorage.is_honest l.from) → IsTrue (g.T.PagableStorage.is_honest l.to)
      → AreCopied (g.S.PagableStorage.stored l.fn.from) (g.T.PagableStorage.stored l.to) l.copied;
  same : IsTrue (g.S.PagableStorage.is_honest l.from) → g.S.PagableStorage.stored l.from ≡ g.S.PagableStorage.stored l.fn.from;
  keeps : IsTrue (g.T.PagableStorage.is_honest l.to) → Keeps (g.T.PagableStorage.stored l.fn.to) (g.T.PagableStorage.stored l.to);
  same_names : IsTrue (g.S.PagableStorage.is_honest l.from) → g.S.PagableStorage.roots l.from ≡ g.S.PagableStorage.roots l.fn.from;
  names_stay : IsTrue (g.T.PagableStorage.is_honest l.to) → g.T.PagableStorage.roots l.to ≡ g.T.PagableStorage.roots l.fn.to;
  honest : IsTrue (g.S.PagableStorage.is_honest l.from) → IsTrue (g.S.PagableStorage.is_honest l.fn.from);
  honest_copy : IsTrue (g.T.PagableStorage.is_honest l.to) → IsTrue (g.T.PagableStorage.is_honest l.fn.to);
}
