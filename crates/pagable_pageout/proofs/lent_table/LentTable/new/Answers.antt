use Rattle.pagable_pageout.proofs.{Waits.no-waits, Words.{ap, is_same, lookup, nat_eq, none-some, option_map, shelf_in, slot_of, sym, ◌∙◌}}
use Rattle.pagable_pageout.proofs.lent_table.LentTable.new.Goals as goal

pub returns : goal.returns
returns g c = record {
  slots = λ i. ap (λ es. option_map slot_of (lookup (is_same (i.kind.0, i.node.0)) es)) c.new-slots.ensures.empty;
  waits = λ v. ap (lookup (nat_eq v)) c.new-waits.ensures.empty;
}

pub invariant_of-result : goal.invariant_of-result
invariant_of-result g c = record {
  own = λ i s at. absurd (none-some s (sym (ap (lookup (is_same (i.kind.0, i.node.0))) c.new-slots.ensures.empty) ∙ at));
  ends = no-waits (shelf_in c.new-slots.result c.new-waits.result) (λ v. ap (lookup (nat_eq v)) c.new-waits.ensures.empty);
}
