use Rattle.pagable_tables.proofs.{CascadeStep.some-held, OwnedByLoad.does-so, RowCounts.held-some, Views.makes-goes, Words.{ap, arith, core_of, refl}}

pub add_handle-requires-clause-live : Rattle.pagable_tables.proofs.create.make_handle.Goals.add_handle-requires-clause-live
add_handle-requires-clause-live c =
    let d = c.requires.whole.steady.fits.holding c.args.node.0 in
    let e = held-some _ _ _ c.requires.suits.there
    (ap (λ k. k.0) c.requires.suits.at) in
    some-held _ (omega arith)

pub returns-clause-does : Rattle.pagable_tables.proofs.create.make_handle.Goals.returns-clause-does
returns-clause-does c = does-so (λ storage. c.add_handle.ensures.made (core_of c.args.t.now storage)) c.add_handle.ensures.steady
    (makes-goes _ _ _ _ c.requires.whole.core c.requires.suits c.requires.holder) refl refl refl
