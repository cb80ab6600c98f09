use Rattle.indexmap.proofs.CallerLemmas.{filter-RetainsPairs}
use Rattle.pagable_tables.proofs.Words.{Counts, NodeNumber, Option, ap, counts_at, filter, is_same, is_some, rules, ℕ, ◌∙◌, ◌≡◌, basics}
use Rattle.pagable_tables.specs.Nodes.{living}
use Rattle.std.proofs.lemmas.Map.Entries.{lookup-filter-values, option_filter}
use Rattle.std.specs.{Cmp.IsEquivalence, Map.lookup}

same-equiv : IsEquivalence is_same
same-equiv = record {
  refl = λ x. grind basics;
  symm = λ x y. grind basics;
  congr = λ x y z e. grind basics;
}

filtered : (at : ℕ → Option Counts) (known : Option NodeNumber) → option_filter (λ (n : NodeNumber). is_some (at n.0)) known ≡ living at known
filtered at known = grind basics

pub returns : Rattle.pagable_tables.proofs.cache.keep_living.Goals.returns
returns c kind key =
    let old = c.args.cache.now.entries in
    let at = counts_at c.args.nodes.now in
    let e : c.retain.new.self.entries ≡ filter (λ p. is_some (at p.1.0)) old =
    filter-RetainsPairs _ _ _ (λ k v b w g call. search rules) _ _ c.retain.ensures.filtered in
    ap (lookup (is_same (kind, key))) e ∙ lookup-filter-values same-equiv (λ n. is_some (at n.0)) (kind, key) old c.len-many.ensures.unique
    ∙ filtered at (lookup (is_same (kind, key)) old)
