use Rattle.pagable_file.proofs.Copying.{all_roots, copies_from, counted}
use Rattle.std.proofs.Common.{String, ◌∙◌}
use Rattle.std.specs.{String.string_bytes, declared.alloc.Global.Global}
use Rattle.pagable_file.proofs.copy.copy.Goals as goal

pub returns-clause-copied : goal.returns-clause-copied
returns-clause-copied g c from_honest to_honest =
    let read_honest = c.in_ok-copied.ensures.honest from_honest in
    let wanted = g.S.PagableStorage.roots c.args.from.now in
    all_roots (λ (name : String Global). string_bytes name) (g.S.PagableStorage.stored c.args.from.now) (g.T.PagableStorage.stored c.set_roots.new.to)
    c.in_ok-copied.copied wanted (g.T.PagableStorage.roots c.set_roots.new.to) c.args.names.now
    (rw (c.in_ok-keys.ensures.same read_honest, ← c.in_ok-set_roots.ensures.same to_honest) at
    (c.in_ok-copied.ensures.copied from_honest (c.in_ok-set_roots.ensures.honest to_honest)))
    (c.in_ok-set_roots.ensures.set to_honest wanted (c.as_slice-2.ensures.value ∙ c.in_ok-keys.ensures.read read_honest))

pub returns-clause-counts : goal.returns-clause-counts
returns-clause-counts g c from_honest to_honest =
    let read_honest = c.in_ok-copied.ensures.honest from_honest in
    let wanted = g.S.PagableStorage.roots c.args.from.now in
    counted (g.S.PagableStorage.stored c.args.from.now) (g.T.PagableStorage.stored c.set_roots.new.to) c.in_ok-copied.copied wanted
    (g.T.PagableStorage.roots c.set_roots.new.to) c.args.names.now c.len.result c.len.ensures.len c.len.ensures.unique
    (rw (c.in_ok-keys.ensures.same read_honest, ← c.in_ok-set_roots.ensures.same to_honest) at
    (c.in_ok-copied.ensures.copied from_honest (c.in_ok-set_roots.ensures.honest to_honest)))
    (c.in_ok-set_roots.ensures.set to_honest wanted (c.as_slice-2.ensures.value ∙ c.in_ok-keys.ensures.read read_honest))

pub returns-clause-names : goal.returns-clause-names
returns-clause-names g c from_honest to_honest =
    let read_honest = c.in_ok-copied.ensures.honest from_honest in
    let wanted = g.S.PagableStorage.roots c.args.from.now in
    copies_from c.args.names.now wanted (g.T.PagableStorage.roots c.args.to.now) (g.T.PagableStorage.roots c.copy_reached.new.to)
    (g.T.PagableStorage.roots c.set_roots.new.to) (c.in_ok-copied.ensures.names_stay (c.in_ok-set_roots.ensures.honest to_honest))
    (c.in_ok-set_roots.ensures.named to_honest wanted (c.as_slice-2.ensures.value ∙ c.in_ok-keys.ensures.read read_honest))
