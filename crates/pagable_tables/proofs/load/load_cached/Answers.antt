use Rattle.pagable_tables.proofs.{
  OwnedByLoad.{does-as, nothing-does},
  SameViews.{failed, no-load-fault, not-own, spent-late},
  Words.{arith, basics, core_of, is_usable},
}

pub returns-in_err-_row-clause-does : Rattle.pagable_tables.proofs.load.load_cached.Goals.returns-in_err-_row-clause-does
returns-in_err-_row-clause-does c =
    rw (failed _ c.from_residual.ensures.1) (nothing-does c.requires.whole (λ storage. let w = core_of c.args.t.now storage in record {
      gives = tt;
      refused = not-own w _ _ _ _ (c.in_err-_row.ensures.fault storage)
          (λ f so. omega (arith, spent-late w.last.handle (is_usable w c.args.kind c.args.key) f so));
    }))

pub returns-clause-does : Rattle.pagable_tables.proofs.load.load_cached.Goals.returns-clause-does
returns-clause-does c = does-as c.cache_get.ensures.does (λ storage call. grind (basics, no-load-fault, c.in_ok-_row.ensures.own storage))
