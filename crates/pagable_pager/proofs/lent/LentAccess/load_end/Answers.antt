use Rattle.pagable_load.specs.{AccessView.values_at, PinStart.ended_of}
use Rattle.pagable_pager.proofs.LentCalls.{brings-so, told-if}
use Rattle.pagable_pager.specs.View.{pager_core}
use Rattle.pagable_pager_spec.specs.LoadCalls.{EndCall}
use Rattle.std.proofs.Common.{rules}
use Rattle.std.specs.{Arc.arc_value}

pub returns-clause-acts : Rattle.pagable_pager.proofs.lent.LentAccess.load_end.Goals.returns-clause-acts
returns-clause-acts g c =
    let tells = g.S.PagableStorage in
    let e = c.end_load-ended.ensures in
    record {
      step = told-if _ _ _ _ (λ h. rw e.storage at h)
          (λ h. brings-so tells (values_at g.E.Node.NodeSet g.E.Env g.E.Hash.KeyHash) c.args.self.now.pager.now c.end_load-ended.new.self.pager.now
          (λ w'. EndCall (pager_core tells c.args.self.now.pager.now) c.args.self.now.me c.args.load (arc_value c.args.value)
          (g.E.Node.NodeSet.type_of (arc_value c.args.value)) (g.E.Node.NodeSet.refs_of (arc_value c.args.value)) (ended_of c.with_invariant.result) w')
          (rw c.with_invariant.ensures.same e.step) e.moves c.with_invariant.ensures.whole);
      acting = search rules;
    }
