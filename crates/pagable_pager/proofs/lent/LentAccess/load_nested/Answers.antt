use Rattle.either.specs.declared.Either.{Either}
use Rattle.pagable_core.specs.Data.{blob_of}
use Rattle.pagable_load.specs.AccessView.{AsksFor, values_at}
use Rattle.pagable_pager.proofs.LentCalls.{called_fewer, fewer_of_same, found-made, still-at-work, told-if}
use Rattle.pagable_pager.specs.View.{pager_core}
use Rattle.std.proofs.Common.{Ok, rules}
use Rattle.std.specs.Arc.{arc_value}
use Rattle.pagable_pager.proofs.lent.LentAccess.load_nested.Goals as goal

pub invariant_of-self : goal.invariant_of-self
invariant_of-self g c = record { at_work = still-at-work c.args.self.now.me c.load_fetch_for-found.ensures.kept c.args.self.now.at_work }

pub returns-in-Left-clause-acts : goal.returns-in-Left-clause-acts
returns-in-Left-clause-acts g c =
    let tells = g.S.PagableStorage in
    let e = c.in_ok-handle.ensures in
    record {
      step = told-if _ _ _ _ e.honest (λ h. called_fewer tells (values_at g.E.Node.NodeSet g.E.Env g.E.Hash.KeyHash) c.args.self.now.pager.now
          c.load_fetch_for-found.new.self
          (λ w'. AsksFor (λ d. blob_of (arc_value d)) (pager_core tells c.args.self.now.pager.now) c.args.self.now.me c.args.load c.args.kind c.args.key
          (Ok (Either.Left c.reference.result)) w')
          (found-made (λ d. blob_of (arc_value d)) c.in_ok-handle.field-0 c.in-Left.is c.reference.ensures.handle c.reference.ensures.made (e.step h))
          (fewer_of_same e.only) c.assert_invariant.ensures);
      acting = search rules;
    }
