use Rattle.pagable_pageout.proofs.Waits.{either-way, less-open, own-is, slot-is, taken}
use Rattle.pagable_pageout.specs.{Slots.{is_same, open_worker, shelf_in, slot_of}, Table.shelf_of}
use Rattle.std.proofs.Common.{ap, inl, inr, refl, sym, ◌∙◌}
use Rattle.std.specs.{Map.lookup, Option.option_map}

pub returns-clause-ok : Rattle.pagable_pageout.proofs.lent_table.LentTable.claim_free_identity.Goals.returns-clause-ok
returns-clause-ok g c = record {
  slots = slot-is c.args.self.now.slots c.insert.new.self c.args.identity _ c.in_ok-insert.ensures.updates.0 _ refl;
  waits = λ v. refl;
}

pub invariant_of-self : Rattle.pagable_pageout.proofs.lent_table.LentTable.claim_free_identity.Goals.invariant_of-self
invariant_of-self g c =
    let old = c.args.self.now in
    let new = c.insert.new.self in
    let i = c.args.identity in
    elim (either-way c.insert.result c.insert.ensures.updates c.insert.ensures.err) [
      | inl updates ↦
          let is = slot-is old.slots new i _ updates.0 _ refl in
          record {
            own = own-is old.slots new i _ updates.0 old.own (λ j e r is. absurd (cc));
            ends = taken (shelf_of old) (shelf_in new old.waits) c.args.worker.0 i (record { slots = is; waits = λ v. refl }) c.requires.works old.ends;
          }
      | inr same ↦ record {
        own = λ j t there. old.own j t (sym (ap (lookup (is_same (j.kind.0, j.node.0))) same) ∙ there);
        ends = less-open (shelf_of old) (shelf_in new old.waits) (λ j w e. sym
            (ap (λ es. open_worker (option_map slot_of (lookup (is_same (j.kind.0, j.node.0)) es))) same) ∙ e) (λ v. refl) old.ends;
      }
    ]
