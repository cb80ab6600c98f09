use Rattle.pagable_load.specs.AccessView.{AdoptsValue, values_at}
use Rattle.pagable_pager.proofs.LentCalls.{adopted_live, brings-so, told-if}
use Rattle.pagable_pager.specs.View.{pager_core}
use Rattle.pagable_tables.proofs.SameViews.{failed}
use Rattle.std.proofs.Common.{Ok, rules}
use Rattle.pagable_pager.proofs.lent.LentAccess.load_adopt.Goals as goal

pub returns-in_err-adopted-clause-acts : goal.returns-in_err-adopted-clause-acts
returns-in_err-adopted-clause-acts g c =
    let tells = g.S.PagableStorage in
    let e = c.in_err-adopted.ensures in
    record {
      step = told-if _ _ _ _ (λ h. rw c.load_adopt_for-adopted.ensures.storage at h)
          (λ h. brings-so tells (values_at g.E.Node.NodeSet g.E.Env g.E.Hash.KeyHash) c.args.self.now.pager.now c.load_adopt_for-adopted.new.self
          (λ w'. AdoptsValue (pager_core tells c.args.self.now.pager.now) c.args.self.now.me c.args.load c.args.kind c.args.key c.args.node
          (g.E.Node.NodeSet.type_of c.args.node) (g.E.Node.NodeSet.refs_of c.args.node) (c.from_residual.result) w')
          (rw (failed c.from_residual.result c.from_residual.ensures.1) (record { adopted = e.step; made = tt })) e.moves c.assert_invariant-2.ensures);
      acting = search rules;
    }

pub returns-clause-acts : goal.returns-clause-acts
returns-clause-acts g c =
    let tells = g.S.PagableStorage in
    let e = c.in_ok-adopted.ensures in
    record {
      step = told-if _ _ _ _ (λ h. rw c.load_adopt_for-adopted.ensures.storage at h)
          (λ h. brings-so tells (values_at g.E.Node.NodeSet g.E.Env g.E.Hash.KeyHash) c.args.self.now.pager.now c.load_adopt_for-adopted.new.self
          (λ w'. AdoptsValue (pager_core tells c.args.self.now.pager.now) c.args.self.now.me c.args.load c.args.kind c.args.key c.args.node
          (g.E.Node.NodeSet.type_of c.args.node) (g.E.Node.NodeSet.refs_of c.args.node) (Ok c.reference.result) w')
          (record {
            adopted = rw c.reference.ensures.handle e.step;
            made = c.reference.ensures.made
                (adopted_live c.assert_invariant.ensures.whole.handles e.step.adopts);
          }) e.moves c.assert_invariant-2.ensures);
      acting = search rules;
    }
