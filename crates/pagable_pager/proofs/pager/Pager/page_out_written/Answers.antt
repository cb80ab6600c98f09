use Rattle.pagable_load.specs.AccessView.{values_at}
use Rattle.pagable_pager.proofs.LeafBatches.{LeafCalled, batch-begins, batch-fails, batch-goes, batch-stops, take-leaf}
use Rattle.std.proofs.Common.{Ok, Option, arith, subst, ℕ, ◌-◌}
use Rattle.pagable_pager.proofs.pager.Pager.page_out_written.Goals as goal

pub loop-rest-init : goal.loop-rest-init
loop-rest-init g c = batch-begins g.S.PagableStorage (λ e. values_at g.E.Node.NodeSet g.E.Env g.E.Hash.KeyHash e) g.E.Hash.KeyHash.digest c.args.left c.args.self.now
    c.args.leaves.items c.args.keys.items c.requires

pub page_out_leaf-requires : goal.page_out_leaf-requires
page_out_leaf-requires g c =
    let taken = take-leaf g.S.PagableStorage (λ e. values_at g.E.Node.NodeSet g.E.Env g.E.Hash.KeyHash e) g.E.Hash.KeyHash.digest c.in-Some-Some.leaf c.in-Some-Some.key c.loop-rest.invariant c.in-Some-Some.ensures.items
    c.in-Some-Some.ensures'.items in
    taken.keyed

pub loop-rest-preserved : goal.loop-rest-preserved
loop-rest-preserved g c =
    let taken = take-leaf g.S.PagableStorage (λ e. values_at g.E.Node.NodeSet g.E.Env g.E.Hash.KeyHash e) g.E.Hash.KeyHash.digest c.in-Some-Some.leaf c.in-Some-Some.key c.loop-rest.invariant c.in-Some-Some.ensures.items
    c.in-Some-Some.ensures'.items in
    let ensures = c.in-Ok-Some.ensures in
    batch-goes g.S.PagableStorage (λ e. values_at g.E.Node.NodeSet g.E.Env g.E.Hash.KeyHash e) g.E.Hash.KeyHash.digest taken (omega (arith, c.loop-rest-test.true))
    (subst (λ (o : Option ℕ). LeafCalled g.S.PagableStorage (λ e. values_at g.E.Node.NodeSet g.E.Env g.E.Hash.KeyHash e) g.E.Hash.KeyHash.digest c.loop-rest.self c.in-Some-Some.leaf (c.loop-rest.rest - 1) (Ok o) c.page_out_leaf.new.self) c.in-Ok-Some.field-0-is
    (record { pages = ensures.pages; honest = ensures.honest; kept = ensures.kept; fewer = ensures.fewer }))

pub returns-in-Ok-None-clause-pages : goal.returns-in-Ok-None-clause-pages
returns-in-Ok-None-clause-pages g c =
    let taken = take-leaf g.S.PagableStorage (λ e. values_at g.E.Node.NodeSet g.E.Env g.E.Hash.KeyHash e) g.E.Hash.KeyHash.digest c.in-Some-Some.leaf c.in-Some-Some.key c.loop-rest.invariant c.in-Some-Some.ensures.items
    c.in-Some-Some.ensures'.items in
    let ensures = c.in-Ok-None.ensures in
    let called = subst (λ (o : Option ℕ). LeafCalled g.S.PagableStorage (λ e. values_at g.E.Node.NodeSet g.E.Env g.E.Hash.KeyHash e) g.E.Hash.KeyHash.digest c.loop-rest.self c.in-Some-Some.leaf (c.loop-rest.rest - 1) (Ok o) c.page_out_leaf.new.self) c.in-Ok-None.field-0-is
    (record { pages = ensures.pages; honest = ensures.honest; kept = ensures.kept; fewer = ensures.fewer }) in
    (batch-stops g.S.PagableStorage (λ e. values_at g.E.Node.NodeSet g.E.Env g.E.Hash.KeyHash e) g.E.Hash.KeyHash.digest taken called).pages

pub returns-in-Err-clause-pages : goal.returns-in-Err-clause-pages
returns-in-Err-clause-pages g c =
    let taken = take-leaf g.S.PagableStorage (λ e. values_at g.E.Node.NodeSet g.E.Env g.E.Hash.KeyHash e) g.E.Hash.KeyHash.digest c.in-Some-Some.leaf c.in-Some-Some.key c.loop-rest.invariant c.in-Some-Some.ensures.items
    c.in-Some-Some.ensures'.items in
    let ensures = c.in-Err.ensures in
    (batch-fails g.S.PagableStorage (λ e. values_at g.E.Node.NodeSet g.E.Env g.E.Hash.KeyHash e) g.E.Hash.KeyHash.digest c.in-Err.e taken (omega (arith, c.loop-rest-test.true))
    (record { pages = ensures.pages; honest = ensures.honest; kept = ensures.kept; fewer = ensures.fewer })).pages
