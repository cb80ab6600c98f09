use Rattle.pagable_calls.proofs.Driven.{keeps-after, unprepared}
use Rattle.pagable_calls.specs.Driving.{IsTaken, kept_at}
use Rattle.pagable_tables.proofs.SameViews.{failed}
use Rattle.pagable_theorems.proofs.Trees.{same_some}
use Rattle.std.proofs.{Common.{None, Some, ap, arith, inr, refl, subst, sym, ◌∙◌, ◌≡◌}, lemmas.Bool.Decides.nat_tests}
use Rattle.std.specs.{Map.lookup, Prelude.{is_none, nat_eq}}
use Rattle.pagable_calls.proofs.events.keep_reading.Goals as goal

pub returns-in_err-reserve-clause-kept : goal.returns-in_err-reserve-clause-kept
returns-in_err-reserve-clause-kept c = unprepared _ _ _ (λ q. ap (lookup (nat_eq q)) c.reserve.ensures.entries)

pub returns-in_err-reserve-clause-refused : goal.returns-in_err-reserve-clause-refused
returns-in_err-reserve-clause-refused c =
    let unkept : kept_at c.args.readings.now c.args.load.0 ≡ None = grind (arith, nat_tests) in
    rw (failed c.from_residual.result c.from_residual.ensures.1) (
      refl,
      ap (lookup (nat_eq c.args.load.0)) c.reserve.ensures.entries ∙ unkept,
      ap is_none c.in-Some.is,
    )

pub returns-clause-placed : goal.returns-clause-placed
returns-clause-placed c = λ none. let e : Some c.new.result ≡ None = sym c.put.ensures.here ∙ none in absurd (cc)

pub returns-clause-kept : goal.returns-clause-kept
returns-clause-kept c =
    let unkept : kept_at c.args.readings.now c.args.load.0 ≡ None = grind (arith, nat_tests) in
    record {
      taken = λ own is. subst (λ x. IsTaken (kept_at c.args.readings.now) c.args.load c.args.key c.args.cell_type x)
          (same_some _ _ (sym c.put.ensures.here ∙ is))
          (record { why = inr (unkept, (c.in-Some.node_type, c.in-Some.is, c.new.ensures.reading), c.new.ensures.key, c.new.ensures.for_cell) });
      full = λ none. let e : Some c.new.result ≡ None = sym c.put.ensures.here ∙ none in absurd (cc);
      others = (keeps-after (λ q. ap (lookup (nat_eq q)) c.reserve.ensures.entries) c.put.ensures).others;
    }
