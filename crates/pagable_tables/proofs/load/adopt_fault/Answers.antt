use Rattle.pagable_tables.proofs.Words.{Error, is_loose_kind, not, refl, refused_if, type_of, ◌==◌, ◌≡◌, basics}

pub returns : Rattle.pagable_tables.proofs.load.adopt_fault.Goals.returns
returns c storage =
    let mode : c.then_some-mode.result ≡ refused_if (is_loose_kind c.args.kind.0) Error.WrongMode = grind basics in
    let typed : c.then_some-typed.result ≡ refused_if (not (c.args.node_type == type_of c.args.kind.0)) Error.WrongKind = grind basics in
    rw (
      c.earlier-3.ensures,
      c.earlier-2.ensures,
      c.earlier.ensures,
      c.load_fault-own.ensures,
      c.load_of.ensures,
      mode,
      typed,
      c.references_fault-fit.ensures storage,
    ) refl
