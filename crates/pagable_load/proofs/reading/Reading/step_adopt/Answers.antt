use Rattle.pagable_load.proofs.Keyed.{node_stays}
use Rattle.pagable_load.specs.Frames.{frame_of, reading_of}
use Rattle.std.proofs.Common.{refl}
use Rattle.pagable_load.proofs.LoadSteps.{acts_from, acts_map, adopt_comes, adopt_refused}

pub returns-in-Ok-clause-acts : Rattle.pagable_load.proofs.reading.Reading.step_adopt.Goals.returns-in-Ok-clause-acts
returns-in-Ok-clause-acts g c =
    acts_from c.requires.holds c.in-Ok.ensures.acts (adopt_comes _ _ _ c.args.self.now c.args.value c.requires.node c.in_ok-top.top c.in_ok-top.under _
    c.in_ok-top.ensures.ok.frames c.in-Ok.reference _ c.push_resolved.ensures.gets)

pub returns-clause-acts : Rattle.pagable_load.proofs.reading.Reading.step_adopt.Goals.returns-clause-acts
returns-clause-acts g c =
    acts_map c.in-Err.ensures.acts (adopt_refused _ _ _ c.args.self.now c.args.value c.requires.node c.in_ok-top.top c.in_ok-top.under _
    c.in_ok-top.ensures.ok.frames (c.in-Err.e, c.in-Err._value) _)

pub returns-in-Ok-clause-keyed : Rattle.pagable_load.proofs.reading.Reading.step_adopt.Goals.returns-in-Ok-clause-keyed
returns-in-Ok-clause-keyed g c = node_stays _ _ _ _ _ (reading_of c.args.self.now) c.args.value refl c.requires.node (frame_of c.in_ok-top.top)
    (frame_of c.in_ok-top.under) _ c.in-Ok.reference c.in_ok-top.ensures.ok.frames c.push_resolved.ensures.gets
    (c.in-Ok.ensures.kind)
