use Rattle.pagable_load.proofs.Batches.{follows_got, follows_new}
use Rattle.pagable_load.specs.{Decoding.{rows_of, stacked}, Frames.{frame_of, frames_of, frames_onto}, ResolvedReferences.stand_in}
use Rattle.std.proofs.{
  Common.{Some, ap, length, refl, rules, slice_get, slice_index_or, subst, sym, [], ◌-◌, ◌∷◌, ◌≡◌},
  lemmas.{List.nil_from_length, Option.slice_get-get_or},
}
use Rattle.pagable_load.proofs.reading.Reading.update_rows.Goals as goal

pub returns-then-is_empty : goal.returns-then-is_empty
returns-then-is_empty c = follows_new c.args.was_read (frames_of c.args.self.now.top c.args.self.now.below.items) (rows_of c.args.ahead.now)
    (rows_of c.remove_innermost_row_if.new.self) (frame_of c.in-Some.top)
    (frames_onto [] c.args.self.now.below.items) c.remove_innermost_row_if.new.self.top c.add_row.new.self.top c.remove_innermost_row_if.new.self.below
    c.add_row.new.self.below (search rules)
    (search (rules, nil_from_length)) refl c.remove_innermost_row_if.ensures
    c.add_row.ensures.top c.add_row.ensures.below

pub returns : goal.returns
returns c =
    let got = c.as_slice-got.result.now in
    let last = slice_get-get_or got (length got - 1) (stand_in 0) (search rules) in
    follows_got c.args.was_read (frames_of c.args.self.now.top c.args.self.now.below.items) (rows_of c.args.ahead.now)
    (rows_of c.remove_innermost_row_if.new.self)
    (frame_of c.in-Some.top)
    (frames_onto [] c.args.self.now.below.items) c.remove_innermost_row_if.new.self.top.items c.keep_row_if_kind_at.new.self.top.items
    (stacked [] c.keep_row_if_kind_at.new.self.below.items)
    (length got - 1)
    (slice_index_or got (length got - 1) (stand_in 0)) (search rules) (ap (λ xs. c.remove_innermost_row_if.new.self.top.items ∷ stacked [] xs.items)
    (sym c.keep_row_if_kind_at.ensures.below)) c.remove_innermost_row_if.ensures (search rules)
    (subst (λ xs. slice_get xs (length got - 1) ≡ Some (slice_index_or got (length got - 1) (stand_in 0))) c.as_slice-got.ensures.value last)
    c.keep_row_if_kind_at.ensures.top
