use Rattle.pagable_tables.proofs.{
  CascadeEnd.{given-none, given-one},
  SameViews.owner-same,
  Words.{Owner, ap, false, if_there, inl, is_owned_by, is_owner, sym, ◌∙◌},
}
use Rattle.pagable_tables.proofs.release.release_if_owned.Goals as goal

pub returns-in_default-clause-so_far : goal.returns-in_default-clause-so_far
returns-in_default-clause-so_far g c before w given f few =
    given-none _ _ f
    (ap (if_there (is_owned_by (Owner.Load c.args.load)) false) (c.in_default.ensures.none))

pub returns-else-is_owner-clause-so_far : goal.returns-else-is_owner-clause-so_far
returns-else-is_owner-clause-so_far g c before w given f few =
    given-none _ _ f
    (ap (if_there (is_owned_by (Owner.Load c.args.load)) false) c.in-Some.ensures.found ∙ sym c.if-is_owner.ensures)

pub returns-then-is_owner-clause-so_far : goal.returns-then-is_owner-clause-so_far
returns-then-is_owner-clause-so_far g c before w given f few =
    let load = c.args.load in
    let own = owner-same (Owner.Load load) _ (sym c.if-is_owner.ensures) in
    let some = ap (if_there (is_owned_by (Owner.Load load)) false) c.in-Some.ensures.found ∙ sym c.if-is_owner.ensures in
    let on = c.release_at.ensures.so_far before w given f few (inl (ap (is_owner Owner.List) own)) in
    let here = rw c.in-Some.ensures.number at on in
    given-one load _ f some here
