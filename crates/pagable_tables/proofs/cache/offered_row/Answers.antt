use Rattle.pagable_tables.proofs.{
  SameViews.{failed, handle-first, late, spent-late},
  Words.{Core, Error, HandleNumber, Kind, Owner, Some, arith, core_of, fits_mode, handle_fault, offer_fault, ℕ, ◌≡◌},
}

-- a handle that can't be used is refused first
offer-first : (w : Core) (me : Owner) (kind : Kind) (key : ℕ) (h : HandleNumber) (e : Error) → handle_fault w me h (fits_mode kind.0) ≡ Some e
    → offer_fault w me kind key h ≡ Some e
offer-first w me kind key h e is = search (arith, handle-first, late, spent-late)

pub returns-in_err-at-clause-fault : Rattle.pagable_tables.proofs.cache.offered_row.Goals.returns-in_err-at-clause-fault
returns-in_err-at-clause-fault c =
    rw (failed _ c.from_residual.ensures.1) (λ storage key. offer-first (core_of c.args.t.now storage) c.args.me c.args.kind key
    c.args.handle _ (c.in_err-at.ensures.fault storage (fits_mode c.args.kind.0)))
