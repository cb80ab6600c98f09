use Rattle.pagable_tables.proofs.{HandleTable.{at-place, next-set, sound-kept}, Words.{ap, live, refl, set, ◌∙◌}}

pub returns-clause-becomes : Rattle.pagable_tables.proofs.handle_table.replace_row.Goals.returns-clause-becomes
returns-clause-becomes c =
    let is = c.new.ensures in
    let number = ap (λ p. p.row.number.0) is ∙ ap (λ n. n.0) c.requires.number in
    record {
      sound = sound-kept _ _ _ _ _ c.requires.sound c.requires.place number refl
          (ap (λ p. p.is_live) is) refl;
      rows = ap (λ p. live (set c.args.handles.now.places.items c.args.at.place p)) is
          ∙ (at-place _ _ _ c.requires.sound.ordered c.requires.place).1 (λ _. c.args.row);
      capacity = refl;
      next = λ q next. next-set q _ _ _ _ c.requires.place number next;
    }
