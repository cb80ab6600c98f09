use Rattle.pagable_tables.proofs.{
  CallsKeepWhole.loaded-whole,
  OwnedByLoad.{does-by, later-less, later-opened, still-reaches},
  SameViews.{failed, same-cache},
  Views.{alike-goes, newer-alike, settles},
  Words.{arith, basics, inl, of_key, refl, sym, ◌+◌, ◌∙◌},
}

pub returns : Rattle.pagable_tables.proofs.load.load_key.Goals.returns
returns c =
    let t = c.args.t.now in
    let l = t.last_load + 1 in
    does-by (λ storage. grind (basics, same-cache, c.in_ok-add_row.ensures.here, c.in_ok-add_row.ensures.others)) c.requires.whole.steady
    (λ begins. settles (loaded-whole _ of_key _ c.requires.whole.core c.requires.owner begins.begins.1.is_left (λ node t h is. absurd (cc)))
    begins.begins.2)
    (λ begins later. later-opened c.requires.whole.core later (record { last = omega arith; kept = λ o q gives own. inl own }) l _ (grind basics)
    c.in_ok-add_row.ensures.here refl c.in_ok-add_row.ensures.others refl refl)

pub returns-in_err-add_row : Rattle.pagable_tables.proofs.load.load_key.Goals.returns-in_err-add_row
returns-in_err-add_row c = rw (failed _ c.from_residual.ensures.1)
    (does-by (λ storage. grind (basics, same-cache, c.in_err-add_row.ensures.err)) c.requires.whole.steady
    (λ begins. (alike-goes c.requires.whole.core begins.refused.stays).whole)
    (λ begins later. later-less later (newer-alike begins.refused.stays) refl (λ l load is. sym (c.in_err-add_row.ensures.err l) ∙ is) (still-reaches refl)))
