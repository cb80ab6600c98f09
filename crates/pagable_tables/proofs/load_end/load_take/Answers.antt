use Rattle.pagable_pager_spec.specs.LoadCalls.{hand_over_fault}
use Rattle.pagable_tables.proofs.{CallsKeepWhole.{MayHand, may-hand}, LastHandles.{core-same, noted-release_at}, Words.{ap, basics, core_alone, sym, ◌∙◌}}
use Rattle.pagable_tables.specs.Core.{no_blobs}
use Rattle.pagable_tables.proofs.load_end.load_take.Goals as goal

pub unwrap-row-requires : goal.unwrap-row-requires
unwrap-row-requires g c =
    let can : MayHand (core_alone c.args.t.now) c.args.me c.args.load c.args.named.now = may-hand c.requires.whole.core _ _ _
    (sym (c.hand_over_fault.ensures no_blobs) ∙ c.in_default.is) in
    grind (basics, c.load_of.ensures, can.own)

pub take_until-requires-clause-no_fault : goal.take_until-requires-clause-no_fault
take_until-requires-clause-no_fault g c storage =
    let n = c.handle_bound_of-until.ensures.notes in
    ap (λ w. hand_over_fault w c.args.me c.args.load c.args.named.now) (core-same c.args.t.now _ n.same n.rows storage)
    ∙ sym (c.hand_over_fault.ensures storage) ∙ c.in_default.is

pub returns : goal.returns
returns g c = noted-release_at c.handle_bound_of-until.ensures.notes c.take_until.ensures
