use Rattle.pagable_core.specs.Data.{blob_of}
use Rattle.pagable_load.specs.AccessView.{values_at}
use Rattle.pagable_pager.proofs.LeafBatches.{bare-held, still-written}
use Rattle.pagable_pager.specs.{LeafPageOut.{IsBareAt, WritesLeaf}, View.{pager_state}}
use Rattle.std.proofs.{Common.{Some, ap, length, rules, subst, sym, ℕ, [], ◌∙◌, ◌≡◌}, lemmas.List.nil_from_length}
use Rattle.std.specs.{Arc.arc_value, Option.option_map}
use Rattle.pagable_pager.proofs.pager.Pager.is_entry_of.Goals as goal

pub returns-clause-bare : goal.returns-clause-bare
returns-clause-bare g c = λ same.
    let says = values_at g.E.Node.NodeSet g.E.Env g.E.Hash.KeyHash c.args.self.now.environment in
    let state = pager_state g.S.PagableStorage c.args.self.now in
    let held : state.values c.args.leaf.now.node.0 ≡ Some (arc_value c.in-Some.value.now) =
    rw (← c.self.view_is) (ap (option_map arc_value) (sym c.in-Some.ensures)) in
    let node : c.args.leaf.now.node.0 ≡ c.args.entry.row.node.0 = search rules in
    let count : length c.in-Ok.references.items ≡ 0 = search rules in
    let none : g.E.Node.NodeSet.refs_of (arc_value c.in-Some.value.now) ≡ [] =
    sym (rw c.deref.ensures at c.in-Ok.ensures.ok) ∙ nil_from_length c.in-Ok.references.items count in
    subst (λ (n : ℕ). IsBareAt says state n) node (bare-held says state c.args.leaf.now.node.0 (arc_value c.in-Some.value.now) held none)

pub returns-clause-written : goal.returns-clause-written
returns-clause-written g c = λ same written.
    let says = values_at g.E.Node.NodeSet g.E.Env g.E.Hash.KeyHash c.args.self.now.environment in
    let state = pager_state g.S.PagableStorage c.args.self.now in
    let held : state.values c.args.leaf.now.node.0 ≡ Some (arc_value c.in-Some.value.now) =
    rw (← c.self.view_is) (ap (option_map arc_value) (sym c.in-Some.ensures)) in
    let node : c.args.leaf.now.node.0 ≡ c.args.entry.row.node.0 = search rules in
    subst (λ (n : ℕ). WritesLeaf says state n (blob_of c.args.leaf.now.blob)) node
    (still-written says state c.args.leaf.now (arc_value c.in-Some.value.now) held written)
