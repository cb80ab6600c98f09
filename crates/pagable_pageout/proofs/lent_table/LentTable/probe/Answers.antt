use Rattle.pagable_pageout.proofs.{Waits.same-numbers, Words.{ap, arith, inl, inr, option_map, refl, slot_of, sym, ◌∙◌}}
use Rattle.pagable_pageout.proofs.lent_table.LentTable.probe.Goals as goal
use Rattle.pagable_pageout.specs.Slots.{outcome_of}

pub returns-in-Failed-clause-finds : goal.returns-in-Failed-clause-finds
returns-in-Failed-clause-finds g c = (
  omega arith,
  (
    slot_of c.in-Some.slot.now,
    ap (option_map slot_of) (sym c.in-Some.ensures.value),
    ap outcome_of c.in-Failed.is,
  ),
)

pub returns-then-found-place-clause-refused : goal.returns-then-found-place-clause-refused
returns-then-found-place-clause-refused g c =
    let found = c.in-Published.found in
    inl (
      refl,
      inr (inl (
        found.key,
        found.height,
        record {
          slot = slot_of c.in-Some.slot.now;
          claimed = ap (option_map slot_of) (sym c.in-Some.ensures.value);
          known = ap outcome_of c.in-Published.is;
        },
        omega arith,
      )),
    )

pub returns-else-found-place-clause-finds : goal.returns-else-found-place-clause-finds
returns-else-found-place-clause-finds g c = (
  omega (arith, c.copy.ensures.height),
  record {
    slot = slot_of c.in-Some.slot.now;
    claimed = ap (option_map slot_of) (sym c.in-Some.ensures.value);
    known = rw (c.copy.ensures.key, c.copy.ensures.height) (ap outcome_of c.in-Published.is);
  },
)

pub returns-else-found-place-clause-own : goal.returns-else-found-place-clause-own
returns-else-found-place-clause-own g c =
    let own = c.args.self.now.own c.args.identity c.in-Some.slot.now (sym c.in-Some.ensures.value) c.in-Published.found c.in-Published.is in
    c.copy.ensures.identity ∙ same-numbers c.in-Published.found.identity c.args.identity own.0 own.1

pub returns-then-would_deadlock-clause-refused : goal.returns-then-would_deadlock-clause-refused
returns-then-would_deadlock-clause-refused g c =
    inl (
      refl,
      inr (inr (
        slot_of c.in-Some.slot.now,
        record {
          claimed = ap (option_map slot_of) (sym c.in-Some.ensures.value);
          no_result_yet = ap outcome_of c.in-Open.is;
        },
        c.if-would_deadlock.ensures,
      )),
    )

pub returns-else-would_deadlock-clause-finds : goal.returns-else-would_deadlock-clause-finds
returns-else-would_deadlock-clause-finds g c = (
  omega arith,
  (
    slot_of c.in-Some.slot.now,
    record {
      claimed = ap (option_map slot_of) (sym c.in-Some.ensures.value);
      no_result_yet = ap outcome_of c.in-Open.is;
    },
    c.if-would_deadlock.ensures,
  ),
)
