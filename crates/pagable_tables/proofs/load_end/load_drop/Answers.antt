use Rattle.pagable_tables.proofs.{
  LastHandles.{above-noted, core-same, noted-release_at},
  OwnedByLoad.nothing-release_at,
  SameViews.{failed, still},
  Words.{inl, refl},
}

pub returns-in_err-row : Rattle.pagable_tables.proofs.load_end.load_drop.Goals.returns-in_err-row
returns-in_err-row g c = rw (failed _ c.from_residual.ensures.1)
    (nothing-release_at c.requires.whole (λ storage e. record {
      does = inl
          (record { e = c.in_err-row.field-0.0; why = c.in_err-row.ensures.fault storage; told = refl; stays = still _ });
    }))

pub drop_until-requires-clause-own : Rattle.pagable_tables.proofs.load_end.load_drop.Goals.drop_until-requires-clause-own
drop_until-requires-clause-own g c storage =
    let n = c.handle_bound_of-until.ensures.notes in
    rw (core-same c.args.t.now c.handle_bound_of-until.new.t n.same n.rows storage)
    (c.in_ok-row.ensures.own storage)

pub drop_until-requires-clause-above : Rattle.pagable_tables.proofs.load_end.load_drop.Goals.drop_until-requires-clause-above
drop_until-requires-clause-above g c =
    above-noted _ _ c.handle_bound_of-until.ensures.notes
    (λ q own. c.requires.later.since c.args.load.0 c.in_ok-row.row q c.in_ok-row.ensures.row own)

pub returns : Rattle.pagable_tables.proofs.load_end.load_drop.Goals.returns
returns g c = noted-release_at c.handle_bound_of-until.ensures.notes c.drop_until.ensures
