use Rattle.pagable_tables.proofs.{LastHandles.{above-noted, core-same, noted-does}, Words.ap}
use Rattle.pagable_tables.proofs.load_end.install.Goals as goal

pub install_until-requires-clause-ready : goal.install_until-requires-clause-ready
install_until-requires-clause-ready g c storage =
    let n = c.handle_bound_of-until.ensures.notes in
    rw (core-same c.args.t.now c.handle_bound_of-until.new.t n.same n.rows storage)
    (c.requires.ready storage)

pub install_until-requires-clause-place : goal.install_until-requires-clause-place
install_until-requires-clause-place g c =
    rw (ap (λ u. u.ref_counts) c.handle_bound_of-until.ensures.notes.same) c.requires.place.place

pub install_until-requires-clause-above : goal.install_until-requires-clause-above
install_until-requires-clause-above g c =
    above-noted _ _ c.handle_bound_of-until.ensures.notes
    (λ q own. c.requires.later.since c.args.load.0 c.args.ending.load q c.requires.place.load own)

pub returns-clause-does : goal.returns-clause-does
returns-clause-does g c = noted-does c.handle_bound_of-until.ensures.notes c.install_until.ensures.does

pub returns-clause-drops : goal.returns-clause-drops
returns-clause-drops g c =
    rw (ap (λ u. u.ref_counts) c.handle_bound_of-until.ensures.notes.same) at c.install_until.ensures.drops
