use Rattle.pagable_tables.proofs.{SameViews.moved-none, Words.{refl, sym}}

pub returns-in_default : Rattle.pagable_tables.proofs.handle_table.hand_over_live.Goals.returns-in_default
returns-in_default c =
    record {
      sound = c.requires;
      rows = sym (moved-none _ _ _ c.in_default.ensures.none);
      capacity = refl;
      next = λ q next. next;
    }
