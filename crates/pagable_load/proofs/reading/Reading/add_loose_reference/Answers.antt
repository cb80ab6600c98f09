use Rattle.pagable_load.proofs.Keyed.{got_stays, lazy_kind}
use Rattle.pagable_load.specs.Keyed.{came-loose}
use Rattle.pagable_load.proofs.{Batches.got_leads, LoadSteps.{acts_map, fails, lazy_comes, met}}
use Rattle.pagable_load.specs.Frames.{frame_of}
use Rattle.std.proofs.{Common.{inl, inr}, lemmas.Result.err_from_is_err_and}
use Rattle.pagable_load.proofs.reading.Reading.add_loose_reference.Goals as goal

pub returns-clause-acts : goal.returns-clause-acts
returns-clause-acts g c =
    acts_map c.in_ok-taken.ensures.acts (lazy_comes _ _ _ c.args.self.now c.args.kind c.args.key c.in_ok-top.top _ c.in_ok-top.ensures.ok.frames c.requires.need
    c.in_ok-taken.taken _ c.push_resolved.ensures.gets)

pub returns-in_err-taken-clause-acts : goal.returns-in_err-taken-clause-acts
returns-in_err-taken-clause-acts g c =
    let own = c.args.self.now in
    let p = err_from_is_err_and c.from_residual-in_err-taken.result c.from_residual-in_err-taken.ensures.1 in
    rw (p.1, p.2) (acts_map c.in_err-taken.ensures.acts (λ s t k. fails _ _ _ own
    (λ o. met _ _ _ own k (inr (inr (inr (inl (c.args.kind, c.args.key, c.requires.need, k.step.taken))))))))

pub returns-clause-leads : goal.returns-clause-leads
returns-clause-leads g c = got_leads _ (frame_of c.in_ok-top.top) _ c.in_ok-taken.taken c.args.kind c.args.key
    (inr c.requires.need) c.in_ok-top.ensures.ok.frames c.push_resolved.ensures.gets

pub returns-clause-keyed : goal.returns-clause-keyed
returns-clause-keyed g c = got_stays _ _ _ _ _ (frame_of c.in_ok-top.top) _ c.in_ok-taken.taken c.args.kind c.args.key
    (inr c.requires.need) c.in_ok-top.ensures.ok.frames c.push_resolved.ensures.gets
    (came-loose _ _ (lazy_kind _ _ _ _ c.args.kind c.args.key c.in_ok-top.ensures.ok.frames c.requires.need c.in_ok-taken.taken c.in_ok-taken.ensures.kind))
