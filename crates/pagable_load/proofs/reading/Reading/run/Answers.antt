use Rattle.pagable_load.proofs.Batches.{none_ahead}

pub loop-answer-init : Rattle.pagable_load.proofs.reading.Reading.run.Goals.loop-answer-init
loop-answer-init g c = record {
  so_far = c.in_default.ensures.acts;
  ahead = none_ahead _ _ _ c.new-ahead.ensures;
  for_cell = c.run_first_steps.ensures.for_cell;
  key = c.run_first_steps.ensures.key;
  node_type = c.run_first_steps.ensures.node_type;
  keyed = c.in_default.ensures.keyed;
}
