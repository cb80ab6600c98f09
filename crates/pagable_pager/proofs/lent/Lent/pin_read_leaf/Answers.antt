use Rattle.pagable_load.specs.AccessView.{values_at}
use Rattle.pagable_pager.proofs.LentCalls.{told-if}
use Rattle.pagable_pager.specs.{Leaf.{LeafDropped, LeafPinned}, View.{pager_state}}
use Rattle.std.proofs.{Common.{inr, refl, rules, subst}, lemmas.Result.err_from_is_err_and}
use Rattle.pagable_pager.proofs.lent.Lent.pin_read_leaf.Goals as goal

pub returns-in_err-pinned-clause-acts : goal.returns-in_err-pinned-clause-acts
returns-in_err-pinned-clause-acts g c =
    let p = err_from_is_err_and c.from_residual-in_err-pinned.result c.from_residual-in_err-pinned.ensures.1 in
    record {
      step = told-if _ _ _ _ (λ h. rw (c.in_err-pinned.ensures.storage, c.find_leaf.ensures.storage) at h) (λ h. rw (p.1, p.2) (inr (
        c.in-Some.now,
        pager_state g.S.PagableStorage c.find_leaf.new.self,
        rw c.in-Some.is at c.in_ok-now.ensures.number,
        c.find_leaf.ensures.stays,
        c.in_err-pinned.ensures.dropped.0,
        subst (λ e. LeafDropped (values_at g.E.Node.NodeSet g.E.Env g.E.Hash.KeyHash e) (pager_state g.S.PagableStorage c.find_leaf.new.self) c.in-Some.now
            (pager_state g.S.PagableStorage c.pin_leaf.new.self)) c.find_leaf.ensures.environment c.in_err-pinned.ensures.dropped.1,
      )));
      acting = search rules;
    }

pub returns-clause-acts : goal.returns-clause-acts
returns-clause-acts g c = record {
  step = told-if _ _ _ _ (λ h. rw (c.in_ok-pinned.ensures.storage, c.find_leaf.ensures.storage) at h) (λ h. record {
    again = c.in-Some.now;
    mid = pager_state g.S.PagableStorage c.find_leaf.new.self;
    number = rw c.in-Some.is at c.in_ok-now.ensures.number;
    key = search rules;
    found = c.find_leaf.ensures.stays;
    pins = subst (λ e. LeafPinned (values_at g.E.Node.NodeSet g.E.Env g.E.Hash.KeyHash e) (pager_state g.S.PagableStorage c.find_leaf.new.self) c.in-Some.now
        c.args.value c.in_ok-pinned.pinned.0 (pager_state g.S.PagableStorage c.pin_leaf.new.self)) c.find_leaf.ensures.environment c.in_ok-pinned.ensures.pinned;
  });
  acting = search rules;
}
