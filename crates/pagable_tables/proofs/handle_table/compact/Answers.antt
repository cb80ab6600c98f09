use Rattle.pagable_tables.proofs.{
  HandleTable.{length-live-filter, live-filter},
  Words.{All-filter, AllPairs-filter, IsBefore, ap, arith, filter, filter_from_retain, is_live_place, length, live, rules, ◌<◌, ◌∙◌, ◌≡◌},
}

pub returns-clause-becomes : Rattle.pagable_tables.proofs.handle_table.compact.Goals.returns-clause-becomes
returns-clause-becomes c =
    let old = c.args.handles.now.places.items in
    let e : c.retain.new.self.items ≡ filter is_live_place old = filter_from_retain _ is_live_place
    (λ p x b q called. search rules) _ old c.retain.new.self.items c.retain.ensures.filtered in
    record {
      sound = record {
        ordered = rw e (AllPairs-filter IsBefore is_live_place old c.requires.ordered);
        counted = omega (arith, length-live-filter old, ap length e, ap (λ l. length (live l)) e, ap length (live-filter old));
        few = omega arith;
      };
      rows = ap live e ∙ live-filter old;
      capacity = search rules;
      next = λ q next. rw e (All-filter is_live_place (λ s. s.row.number.0 < q) old next);
    }
