use Rattle.pagable_tables.proofs.{OwnedByLoad.owned-given, Words.{Owner, ap, arith, core_alone, is_owned_in, sym, ◌∙◌}}
use Rattle.pagable_tables.proofs.load_handles.handle_bound_of.Goals as goal

pub returns-then-saturating_sub-lt16-clause-last : goal.returns-then-saturating_sub-lt16-clause-last
returns-then-saturating_sub-lt16-clause-last c q own = owned-given (Owner.Load c.args.load) q c.requires.whole.core.handles own

pub returns-in-Some-clause-last : goal.returns-in-Some-clause-last
returns-in-Some-clause-last c q own =
    let n = c.note_all.ensures.notes in
    let before = sym (ap (λ u. is_owned_in (core_alone u) (Owner.Load c.args.load) q) n.same) ∙ own in
    let given = owned-given (Owner.Load c.args.load) q c.requires.whole.core.handles before in
    let all = c.note_all.ensures.all in
    n.later.until c.args.load.0 c.in-Some.row q (sym c.load_of.ensures ∙ c.in-Some.is) own (omega arith)

pub returns-in-None-clause-last : goal.returns-in-None-clause-last
returns-in-None-clause-last c q own =
    let n = c.note_all.ensures.notes in
    let before = sym (ap (λ u. is_owned_in (core_alone u) (Owner.Load c.args.load) q) n.same) ∙ own in
    owned-given (Owner.Load c.args.load) q c.requires.whole.core.handles before
