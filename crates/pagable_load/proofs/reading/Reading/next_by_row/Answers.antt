use Rattle.pagable_load.proofs.Batches.{row_tells}
use Rattle.pagable_load.specs.{Frames.{frame_of, frames_of, frames_onto}, ResolvedReferences.stand_in}
use Rattle.std.proofs.{Common.{Some, ap, rules, slice_index_or, sym, [], ◌∙◌}, lemmas.Option.slice_get-get_or}

pub returns-clause-tells : Rattle.pagable_load.proofs.reading.Reading.next_by_row.Goals.returns-clause-tells
returns-clause-tells c = λ types ahead.
    let key = c.index-keys-place.result in
    let at = slice_get-get_or c.as_slice-keys.result.now c.len-place.result key (search rules) ∙ ap (λ k. Some k) (sym c.index-keys-place.is) in
    row_tells types (frame_of c.in-Some.top) (frames_onto [] c.args.self.now.below.items)
    (frames_of c.args.self.now.top c.args.self.now.below.items) c.args.row.now
    (slice_index_or c.args.row.now c.len-place.result (stand_in 0)) key c.len-place.result (search rules) (search rules)
    (slice_get-get_or c.args.row.now c.len-place.result (stand_in 0) (search rules)) (rw (c.as_slice-keys.ensures.value, c.as_ref.ensures) at at) ahead
