use Rattle.pagable_load.proofs.Keyed.{blob_stays, got_stays, root_stays}
use Rattle.pagable_load.specs.Keyed.{came-known}
use Rattle.pagable_core.specs.Data.{blob_of}
use Rattle.pagable_load.proofs.{
  Batches.{blob_leads, got_leads, root_leads},
  LoadSteps.{acts_map, fails, length_onto, met, nested_blob, nested_deep, nested_known, root-asked, root_comes},
}
use Rattle.pagable_load.specs.Frames.{frame_of, frames_onto}
use Rattle.pagable_pager_spec.specs.Loads.{nested_frame, root_frame}
use Rattle.std.proofs.Common.{arith, inl, inr, refl, []}
use Rattle.std.specs.Arc.{arc_value}
use Rattle.pagable_load.proofs.reading.Reading.act_on_need.Goals as goal

-- ---- the root's blob

pub returns-in-Ok-clause-acts : goal.returns-in-Ok-clause-acts
returns-in-Ok-clause-acts g c = acts_map c.in-Ok.ensures.acts (root_comes _ _ _ c.args.self.now (rw c.in-Root.is at c.requires.need).is
    (λ d. blob_of (arc_value d)) c.in-Ok.blob _ c.put_root.ensures.root)

pub returns-in-Err-clause-acts : goal.returns-in-Err-clause-acts
returns-in-Err-clause-acts g c = let own = c.args.self.now in acts_map c.in-Err.ensures.acts
    (λ s t k. fails _ _ _ own (λ o. met _ _ _ own k
    (inr (inl ((rw c.in-Root.is at c.requires.need).is, root-asked o k.step)))))

pub returns-in-Ok-clause-leads : goal.returns-in-Ok-clause-leads
returns-in-Ok-clause-leads g c =
    root_leads (root_frame c.args.self.now.key c.args.self.now.node_type (blob_of (arc_value c.in-Ok.blob))) refl c.put_root.ensures.few
    (rw c.in-Root.is at c.requires.need).is c.put_root.ensures.root

-- ---- a reference

pub returns-in-Ok-Left-clause-acts : goal.returns-in-Ok-Left-clause-acts
returns-in-Ok-Left-clause-acts g c =
    let n = (rw c.in-Nested.is at c.requires.need).is in
    acts_map (rw c.in-Ok-Left.field-0-is at c.in-Ok-Left.ensures.acts)
    (nested_known _ _ _ c.args.self.now _ _ c.in_ok-top-in-Nested.top _ c.in_ok-top-in-Nested.ensures.ok.frames
    (λ d. blob_of (arc_value d)) n c.in-Ok-Left.reference _ c.push_resolved.ensures.gets)

pub returns-in-Ok-put_blob-clause-acts : goal.returns-in-Ok-put_blob-clause-acts
returns-in-Ok-put_blob-clause-acts g c =
    let n = (rw c.in-Nested.is at c.requires.need).is in
    let e = c.in-Ok-put_blob.ensures in
    acts_map (rw c.in-Ok-Right.field-0-is at c.in-Ok-Right.ensures.acts)
    (nested_blob _ _ _ c.args.self.now _ _ c.in_ok-top-in-Nested.top _ c.in_ok-top-in-Nested.ensures.ok.frames (λ d. blob_of (arc_value d)) n c.in-Ok-Right.blob
    _ e.ok e.short)

pub returns-in-Err-put_blob-clause-acts : goal.returns-in-Err-put_blob-clause-acts
returns-in-Err-put_blob-clause-acts g c =
    let n = (rw c.in-Nested.is at c.requires.need).is in
    let e = c.in-Err-put_blob.ensures in
    acts_map (rw c.in-Ok-Right.field-0-is at c.in-Ok-Right.ensures.acts)
    (nested_deep _ _ _ c.args.self.now _ _ c.in_ok-top-in-Nested.top _ c.in_ok-top-in-Nested.ensures.ok.frames (λ d. blob_of (arc_value d)) n c.in-Ok-Right.blob
    c.in-Err-put_blob.e _ e.deep e.long)

pub returns-in-Err-load_nested-clause-acts : goal.returns-in-Err-load_nested-clause-acts
returns-in-Err-load_nested-clause-acts g c =
    let own = c.args.self.now in
    let n = (rw c.in-Nested.is at c.requires.need).is in
    acts_map c.in-Err-load_nested.ensures.acts (λ s t k. fails _ _ _ own (λ o. met _ _ _ own k
    (inr (inr (inl (c.in-Nested.kind, c.in-Nested.key, n, inl k.step.asked))))))

pub returns-in-Ok-Left-clause-leads : goal.returns-in-Ok-Left-clause-leads
returns-in-Ok-Left-clause-leads g c =
    got_leads _ (frame_of c.in_ok-top-in-Nested.top) (frames_onto [] c.pop_frame.new.self.below.items) c.in-Ok-Left.reference c.in-Nested.kind c.in-Nested.key
    (inl (rw c.in-Nested.is at c.requires.need).is)
    c.in_ok-top-in-Nested.ensures.ok.frames c.push_resolved.ensures.gets

pub returns-in-Ok-put_blob-clause-leads : goal.returns-in-Ok-put_blob-clause-leads
returns-in-Ok-put_blob-clause-leads g c =
    let e = c.in-Ok-put_blob.ensures in
    let l = length_onto [] c.pop_frame.new.self.below.items in
    blob_leads _ (nested_frame c.in-Nested.kind c.in-Nested.key (blob_of (arc_value c.in-Ok-Right.blob))) (frame_of c.in_ok-top-in-Nested.top)
    (frames_onto [] c.pop_frame.new.self.below.items)
    c.in-Nested.kind c.in-Nested.key refl e.few (omega (arith, l, e.short)) (inl (rw c.in-Nested.is at c.requires.need).is)
    c.in_ok-top-in-Nested.ensures.ok.frames e.ok

-- ---- by the hash alone

pub returns-in-Ok-clause-keyed : goal.returns-in-Ok-clause-keyed
returns-in-Ok-clause-keyed g c = root_stays _ _ _ _ _ (blob_of (arc_value c.in-Ok.blob)) c.put_root.ensures.root c.in-Ok.ensures.named

pub returns-in-Ok-Left-clause-keyed : goal.returns-in-Ok-Left-clause-keyed
returns-in-Ok-Left-clause-keyed g c =
    got_stays _ _ _ _ _ (frame_of c.in_ok-top-in-Nested.top) (frames_onto [] c.pop_frame.new.self.below.items) c.in-Ok-Left.reference c.in-Nested.kind
    c.in-Nested.key (inl (rw c.in-Nested.is at c.requires.need).is) c.in_ok-top-in-Nested.ensures.ok.frames c.push_resolved.ensures.gets (came-known _ _)

pub returns-in-Ok-put_blob-clause-keyed : goal.returns-in-Ok-put_blob-clause-keyed
returns-in-Ok-put_blob-clause-keyed g c =
    let e = c.in-Ok-put_blob.ensures in
    blob_stays _ _ _ _ _ (frame_of c.in_ok-top-in-Nested.top) (frames_onto [] c.pop_frame.new.self.below.items) (blob_of (arc_value c.in-Ok-Right.blob))
    c.in-Nested.kind c.in-Nested.key (rw c.in-Nested.is at c.requires.need).is c.in_ok-top-in-Nested.ensures.ok.frames e.ok
    (rw c.in-Ok-Right.field-0-is at c.in-Ok-Right.ensures.named)
