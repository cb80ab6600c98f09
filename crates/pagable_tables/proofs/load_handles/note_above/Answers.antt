use Rattle.pagable_tables.proofs.{LastHandles.{raised-same, raised-then, told-on}, Words.{ap, arith, get_or_default, ◌∙◌}}
use Rattle.pagable_tables.proofs.load_handles.note_above.Goals as goal

pub loop-place-init : goal.loop-place-init
loop-place-init c = record {
  rows = λ l. raised-same _;
  noted = λ l row k d at within above own. absurd (omega (arith, c.place_above-start.ensures k d within));
}

pub loop-place-preserved : goal.loop-place-preserved
loop-place-preserved c =
    let i = c.loop-place.invariant in
    let n = c.loop-place.place in
    let places = c.args.handles.now.places.items in
    let p = c.index-found.result.now in
    record {
      rows = λ l. raised-then _ _ _ (i.rows l) (c.note.ensures.rows l);
      noted = told-on c.loop-place.loads c.note.new.loads places _ c.note.ensures.rows n i.noted (λ l row d at own.
          let e = c.index-found.ensures ∙ get_or_default places n p d (omega arith) in
          let number = ap (λ x. x.row.number.0) e in
          omega (
            arith,
            ap (λ x. x.number.0) c.row.ensures,
            c.note.ensures.last l row
                (ap (λ x. x.owner) c.row.ensures ∙ ap (λ x. x.row.owner) e ∙ own) at,
          ));
    }
