use Rattle.pagable_tables.proofs.Words.{basics, ◌∙◌}
use Rattle.pagable_tables.proofs.leaf_entry.find_unkeyed_entry.Goals as goal

pub returns : goal.returns
returns c storage =
    let counted = c.requires.steady.sound.counted in
    let places = c.requires.core.handles.places in
    let last = c.if-t-2.false in
    let worker = c.if-t.false in
    let room = c.room_of.ensures in
    let few = c.if-room_of-lt2.false in
    record {
      listed = c.in_ok-row.ensures.found storage;
      unkeyed = c.in_ok-row.ensures.keyed storage ∙ c.in_default-default-None.is-2;
      worker_left = grind basics;
      handles_left = grind basics;
      room = grind basics;
    }
