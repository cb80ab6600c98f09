use Rattle.indexmap.proofs.CallerLemmas.{filter-RetainsPairs}
use Rattle.pagable_tables.proofs.Words.{LoadRow, Option, ap, filter, is_owner, left_load, nat_eq, not, owner_worker, rules, ◌∙◌, ◌≡◌, basics}
use Rattle.std.proofs.lemmas.{Cmp.nat_eq_equiv, Map.Entries.{lookup-filter-values, option_filter}}
use Rattle.std.specs.Map.{lookup}

filtered : (v : _) (row : Option LoadRow) → option_filter (λ (row : LoadRow). not (is_owner (owner_worker v) row.owner)) row ≡ left_load v row
filtered v row = grind basics

pub returns : Rattle.pagable_tables.proofs.workers.close_loads.Goals.returns
returns c l =
    let old = c.args.loads.now.entries in
    let e : c.retain.new.self.entries ≡ filter (λ p. not (is_owner (owner_worker c.args.worker.0) p.1.owner)) old =
    filter-RetainsPairs _ _ _ (λ k v b w g call. search rules) _ _ c.retain.ensures.filtered in
    ap (lookup (nat_eq l)) e ∙ lookup-filter-values nat_eq_equiv (λ row. not (is_owner (owner_worker c.args.worker.0) row.owner)) l old
    c.len-many.ensures.unique ∙ filtered c.args.worker.0 (lookup (nat_eq l) old)
