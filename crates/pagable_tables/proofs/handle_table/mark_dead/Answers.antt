use Rattle.pagable_tables.proofs.{HandleTable.{at-place, next-set, sound-set}, Words.{ap, arith, live, one, refl, set, ◌∙◌}}

pub remove_dead_rows-requires : Rattle.pagable_tables.proofs.handle_table.mark_dead.Goals.remove_dead_rows-requires
remove_dead_rows-requires c =
    let lives = ap (λ p. one p.is_live) c.new.ensures in
    sound-set _ _ _ _ _ c.requires.sound c.requires.place
    (ap (λ p. p.row.number.0) c.new.ensures) refl (omega arith)

pub returns-clause-becomes : Rattle.pagable_tables.proofs.handle_table.mark_dead.Goals.returns-clause-becomes
returns-clause-becomes c =
    let e = c.remove_dead_rows.ensures in
    record {
      sound = e.sound;
      rows = e.rows ∙ ap (λ p. live (set c.args.handles.now.places.items c.args.at.place p)) c.new.ensures
          ∙ (at-place _ _ _ c.requires.sound.ordered c.requires.place).0;
      capacity = e.capacity;
      next = λ q next. e.next q (next-set q _ _ _ _ c.requires.place
          (ap (λ p. p.row.number.0) c.new.ensures) next);
    }
