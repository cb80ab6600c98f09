use Rattle.pagable_load.proofs.{Batches.row_found, Lending.{lends_row, lent_so}, LoadSteps.tells_both}
use Rattle.pagable_load.specs.{Frames.{frame_of, frames_of, frames_onto}, ResolvedReferences.{Lends, LendsEach}}
use Rattle.std.proofs.Common.{rules, [], ◌++◌}
use Rattle.std.specs.{Arc.arc_value, Option.option_map}
use Rattle.pagable_load.proofs.reading.Reading.plan_batch.Goals as goal

pub decode-next-requires : goal.decode-next-requires
decode-next-requires g c = record {
  each = tells_both
      (λ s lends nobody. lends_row arc_value s c.as_slice-got.result.now c.as_slice-else-is_some.result.now c.as_slice-2.result.now c.in_ok-lent.lent.items
      c.as_slice-3.result.now (search rules) (search rules) lends
      c.in_ok-none.none (search rules) c.stand_in_for.result c.stand_in_for.ensures nobody (c.are_stand_ins.ensures (search rules)))
      (lent_so (λ s y. LendsEach arc_value s c.as_slice-got.result.now y.items) c.values_of.result c.in_ok-lent.lent (search rules) c.values_of.ensures.lends)
      (lent_so (λ s found. Lends s c.stand_in_for.result (option_map arc_value found)) c.value_of.result c.in_ok-none.none
      (search rules) c.value_of.ensures.lends);
}

pub returns-then-is_ok : goal.returns-then-is_ok
returns-then-is_ok g c = row_found _ (frame_of c.in-Some.top) (frames_onto [] c.args.self.now.below.items)
    (frames_of c.args.self.now.top c.args.self.now.below.items)
    c.push.new.self.items
    (c.in-Some.top.got.items ++ c.pop.new.self.items) c.pop.new.self.items c.in_ok-last.last c.in-Wants.kind c.in-Wants.field-1 (search rules) (search rules)
    (search rules) (search rules) (search rules)
