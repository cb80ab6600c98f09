use Rattle.pagable_tables.proofs.{
  OwnedByLoad.{does-as, nothing-does},
  SameViews.{failed, handle-first, owner-same, spent-late, still},
  Words.{Owns, ap, arith, basics, core_of, false, if_there, inl, inr, is_here, is_loose, pin_fault, rules, spent, true, ◌∙◌, ◌≡◌},
}
use Rattle.pagable_tables.proofs.create.pin.Goals as goal

pub returns-in_err-at : goal.returns-in_err-at
returns-in_err-at c = rw (failed _ c.from_residual.ensures.1) (nothing-does c.requires.whole
    (λ storage.
    let w = core_of c.args.t.now storage in
    let why = handle-first w c.args.me c.args.handle is_loose c.in_err-at.field-0.0 _ (c.in_err-at.ensures.fault storage is_loose)
    (λ f so. let a = spent-late w.last.handle _ f so in omega arith) in
    record { pins = tt; refused = record { why = inl why; stays = still _ } }))

pub returns : goal.returns
returns c =
    let row = c.in_ok-at.at.row in
    does-as c.in_ok-pin_at.ensures.does
    (λ storage m.
    let w = core_of c.args.t.now storage in
    let here : is_here w row.node.0 ≡ true = search rules in
    let owns : Owns w c.args.me c.args.handle is_loose row = record {
      live = c.in_ok-at.ensures.found;
      own = owner-same _ _ c.in_ok-at.ensures.owner;
      as_asked = search rules;
    } in
    record { pins = (row, owns, (here, m.pinned.0, rw c.in_ok-at.ensures.number at m.pinned.1)); refused = tt })

pub returns-in_err-pin_at : goal.returns-in_err-pin_at
returns-in_err-pin_at c =
    let row = c.in_ok-at.at.row in
    rw (failed _ c.from_residual-in_err-pin_at.ensures.1) (does-as c.in_err-pin_at.ensures.does
    (λ storage m.
    let w = core_of c.args.t.now storage in
    let here : is_here w row.node.0 ≡ true = search rules in
    let so = ap (if_there (λ row. is_here w row.node.0) false) c.in_ok-at.ensures.found ∙ here in
    let owns : Owns w c.args.me c.args.handle is_loose row = record {
      live = c.in_ok-at.ensures.found;
      own = owner-same _ _ c.in_ok-at.ensures.owner;
      as_asked = search rules;
    } in
    let cause : pin_fault w c.args.me c.args.handle ≡ spent w.last.handle = grind basics in
    record {
      pins = tt;
      refused = record {
        why = elim m.refused.why [ inl a ↦ inl (cause ∙ a) | inr b ↦ inr (b.0, cause ∙ b.1, (so, b.2)) ];
        stays = m.refused.stays;
      };
    }))
