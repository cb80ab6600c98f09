use Rattle.pagable_load.specs.AccessView.{TakesLazily, values_at}
use Rattle.pagable_pager.proofs.LentCalls.{called_fewer, fewer_of_same, lazy_live, told-if}
use Rattle.pagable_pager.specs.View.{pager_core}
use Rattle.std.proofs.Common.{Ok, rules}

pub returns-clause-acts : Rattle.pagable_pager.proofs.lent.LentAccess.load_lazy.Goals.returns-clause-acts
returns-clause-acts g c =
    let tells = g.S.PagableStorage in
    let e = c.in_ok-taken.ensures in
    record {
      step = told-if _ _ _ _ (λ h. rw e.only.storage at h)
          (λ h. called_fewer tells (values_at g.E.Node.NodeSet g.E.Env g.E.Hash.KeyHash) c.args.self.now.pager.now c.load_lazy_for-taken.new.self
          (λ w'. TakesLazily (pager_core tells c.args.self.now.pager.now) c.args.self.now.me c.args.load c.args.kind c.args.key (Ok c.reference.result) w')
          (record { taken = rw c.reference.ensures.handle e.step; made = c.reference.ensures.made (lazy_live e.step) })
          (fewer_of_same (record { values = e.only.values; environment = e.only.environment })) c.assert_invariant.ensures);
      acting = search rules;
    }
