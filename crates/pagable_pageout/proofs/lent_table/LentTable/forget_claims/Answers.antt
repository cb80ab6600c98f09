use Rattle.pagable_pageout.proofs.{Waits.no-waits, Words.{ap, is_same, lookup, nat_eq, none-some, option_map, shelf_in, slot_of, sym, ◌∙◌}}
use Rattle.pagable_pageout.proofs.lent_table.LentTable.forget_claims.Goals as goal

pub returns : goal.returns
returns g c = record {
  slots = λ i. ap (λ es. option_map slot_of (lookup (is_same (i.kind.0, i.node.0)) es)) c.clear.ensures.empty;
  waits = λ v. ap (lookup (nat_eq v)) c.clear-2.ensures.empty;
}

pub invariant_of-self : goal.invariant_of-self
invariant_of-self g c = record {
  own = λ i s at. absurd (none-some s (sym (ap (lookup (is_same (i.kind.0, i.node.0))) c.clear.ensures.empty) ∙ at));
  ends = no-waits (shelf_in c.clear.new.self c.clear-2.new.self) (λ v. ap (lookup (nat_eq v)) c.clear-2.ensures.empty);
}
