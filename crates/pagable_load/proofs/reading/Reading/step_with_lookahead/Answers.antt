use Rattle.pagable_load.proofs.Batches.{ahead_then, with_top}
use Rattle.pagable_load.specs.Frames.{frames_of}

pub returns-clause-ahead : Rattle.pagable_load.proofs.reading.Reading.step_with_lookahead.Goals.returns-clause-ahead
returns-clause-ahead g c = ahead_then _ c.find_next_need-need.result _ _ _ _ c.is_adoption-was_read.result c.is_adoption-was_read.ensures
    c.in_default.ensures.goes c.update_rows.ensures
    (with_top (frames_of c.args.self.now.top c.args.self.now.below.items) c.requires.ahead c.plan_batch_if_useful.ensures)
