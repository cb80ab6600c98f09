use Rattle.pagable_tables.proofs.{
  OwnedByLoad.{does-as, nothing-does},
  RowCounts.found-among,
  SameViews.{failed, owner-same, still},
  Words.{basics, is_pinned, rules, true, ◌≡◌},
}
use Rattle.pagable_tables.proofs.create.into_pagable.Goals as goal

pub returns-in_err-at : goal.returns-in_err-at
returns-in_err-at c = rw (failed _ c.from_residual.ensures.1)
    (nothing-does c.requires (λ storage. record { turned = tt; refused = (c.in_err-at.ensures.fault storage is_pinned, still _) }))

pub returns : goal.returns
returns c =
    let row = c.in_ok-at.at.row in
    let number = c.in_ok-at.ensures.number in
    does-as c.set_loose_pinned.ensures.does (λ storage turned. record {
      turned = (
        row,
        record { live = c.in_ok-at.ensures.found; own = owner-same _ _ c.in_ok-at.ensures.owner; as_asked = search rules },
        number,
        rw number at turned,
      );
      refused = tt;
    })

pub set_loose_pinned-requires-clause-unlisted : goal.set_loose_pinned-requires-clause-unlisted
set_loose_pinned-requires-clause-unlisted c =
    let pinned : is_pinned c.in_ok-at.at.row.mode ≡ true = search rules in
    grind (
      basics,
      c.requires.core.owners_there.waiting c.in_ok-at.at.row
          (found-among c.args.handle.0 _ c.in_ok-at.at.row c.in_ok-at.ensures.found).0,
    )
