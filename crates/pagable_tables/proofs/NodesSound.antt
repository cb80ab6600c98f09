-- A check of nodes one after another says the same as the check of them all.
use Rattle.pagable_tables.proofs.Words.{Bool, ap, arith, false, is_some, suc, sym, true, zero, ℕ, ◌&&◌, ◌-◌, ◌<◌, ◌∙◌, ◌≡◌, ◌≤◌}
use Rattle.pagable_tables.specs.{
  Nodes.counts_at,
  NumberTable.row_by,
  Soundness.{are_nodes_sound, is_node_sound},
  declared.{number_table.NumberTable.NumberTable, tables.Tables.Tables},
}

module _ {X : Type 0} (t : Tables) (values : NumberTable X) where
  next-node : (n : ℕ) → 0 < n
      → are_nodes_sound t values n ≡ (is_node_sound t n (is_some (row_by values n)) (counts_at t.ref_counts.nodes n) && are_nodes_sound t values (n - 1))
  unfolding are_nodes_sound
  next-node zero h = absurd (omega arith)
  next-node (suc n) h = let e : n ≡ suc n - 1 = omega arith in
      ap (λ m. is_node_sound t (suc n) (is_some (row_by values (suc n))) (counts_at t.ref_counts.nodes (suc n)) && are_nodes_sound t values m) e

  -- a node is sound, and the rest is left; it isn't, and so all aren't; and none is left
  pub node-passed : (all : Bool) (n : ℕ) → 0 < n → is_node_sound t n (is_some (row_by values n)) (counts_at t.ref_counts.nodes n) ≡ true
      → all ≡ are_nodes_sound t values n → all ≡ are_nodes_sound t values (n - 1)
  node-passed all n h is e = e ∙ (next-node n h ∙ ap (λ b. b && are_nodes_sound t values (n - 1)) is)

  pub node-failed : (all : Bool) (n : ℕ) → 0 < n → is_node_sound t n (is_some (row_by values n)) (counts_at t.ref_counts.nodes n) ≡ false
      → all ≡ are_nodes_sound t values n → false ≡ all
  node-failed all n h is e = sym (e ∙ (next-node n h ∙ ap (λ b. b && are_nodes_sound t values (n - 1)) is))

  pub nodes-done : (all : Bool) (n : ℕ) → n ≤ 0 → all ≡ are_nodes_sound t values n → true ≡ all
  unfolding are_nodes_sound
  nodes-done all zero h e = sym e
  nodes-done all (suc n) h e = absurd (omega arith)

pub ruleset stepping = (node-passed, node-failed, nodes-done)
