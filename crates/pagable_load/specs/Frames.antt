-- The frames of a load, as the specification has them.
use Rattle.pagable_core.specs.Data.{blob_of}
use Rattle.pagable_load.specs.declared.reading.{Frame.Frame as Held, Reading.Reading as Own}
use Rattle.pagable_pager_spec.specs.{
  Refusals.OwnsLoad,
  World.{Core, Frame, OpenLoad, Reading, Root, of_cell, of_key},
  declared.handle_row.Owner.Owner,
}
use Rattle.std.specs.{Arc.arc_value, Prelude.{Bool, List, None, Option, Some, false, true, [], ◌∷◌, ◌≡◌}}

abbrev pub frame_of : Held → Frame
frame_of f = record {
  kind = f.kind;
  key = f.key;
  node_type = f.node_type;
  blob = blob_of (arc_value f.blob);
  got = f.got.items;
}

-- the frames of the list, the last one's first, before these frames
unfoldable pub frames_onto : List Frame → List Held → List Frame
frames_onto below [] = below
frames_onto below (f ∷ fs) = frames_onto (frame_of f ∷ below) fs

abbrev pub frames_of : Option Held → List Held → List Frame
frames_of None below = []
frames_of (Some top) below = frame_of top ∷ frames_onto [] below

abbrev pub reading_of : Own → Reading
reading_of r = record {
  load = r.load;
  node_type = r.node_type;
  frames = frames_of r.top r.below.items;
  steps = r.steps;
}

abbrev pub is_cell : Root → Bool
is_cell (of_cell node t h) = true
is_cell of_key = false

-- the load is open, `me` owns it, and it has the key and the sort that `r` says
pub record IsLoadOf (w : Core) (me : Owner) (r : Own) : Type 0 where
  pub load : OpenLoad
  pub owned : OwnsLoad w me r.load load
  pub key : load.key ≡ r.key
  pub sort : is_cell load.root ≡ r.for_cell
