use Rattle.pagable_tables.proofs.{SameViews.moved-nobody, Words.{refl, sym}}

pub returns-then-comes-clause-handles : Rattle.pagable_tables.proofs.load_end.set_references_if.Goals.returns-then-comes-clause-handles
returns-then-comes-clause-handles c = rw c.if-comes.true (rw (← c.deref.ensures.value) c.hand_over_all.ensures)

pub returns-else-comes-clause-handles : Rattle.pagable_tables.proofs.load_end.set_references_if.Goals.returns-else-comes-clause-handles
returns-else-comes-clause-handles c = rw c.if-comes.false (record {
  sound = c.requires.sound;
  rows = sym (moved-nobody _ _);
  capacity = refl;
  next = λ q next. next;
})
