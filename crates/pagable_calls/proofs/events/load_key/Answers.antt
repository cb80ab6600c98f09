use Rattle.pagable_calls.proofs.{Driven.{keeps-after, key-made, key-none-made, serves-same}, Keeping.{drives-beside, nothing-done, refused, refuses}}
use Rattle.pagable_load.specs.AccessView.{values_at}
use Rattle.pagable_tables.proofs.SameViews.{failed}
use Rattle.std.proofs.{Common.{ap, arith, inl, inr, refl}, lemmas.Bool.Decides.nat_tests}
use Rattle.std.specs.{Map.lookup, Prelude.nat_eq}
use Rattle.pagable_calls.proofs.events.load_key.Goals as goal

pub returns-then-not-has_load_number : goal.returns-then-not-has_load_number
returns-then-not-has_load_number g c = refuses c.requires refl (omega arith) (λ q. refl)
    (λ serving. refused _ serving c.assert_invariant.ensures (nothing-done _ c.assert_invariant.ensures) (λ l. refl) refl (λ q. refl) _ _ (λ q. refl)
    (λ stays. record {
      step = record { begins = tt; refused = record { why = inl (grind (arith, nat_tests)); stays = stays.core } };
      begun = tt;
      refused = stays.readings;
      work = stays.work;
    }) tt)

pub returns-in_err-reserve : goal.returns-in_err-reserve
returns-in_err-reserve g c = rw (failed c.from_residual.result c.from_residual.ensures.1)
    (refuses c.requires refl (omega arith) (λ q. refl) (λ serving. refused _ serving c.assert_invariant.ensures (nothing-done _ c.assert_invariant.ensures)
    (λ q. ap (lookup (nat_eq q)) c.reserve.ensures.entries) refl (λ q. refl) _ _ (λ q. refl) (λ stays. record {
      step = record { begins = tt; refused = record { why = inr (refl, grind (arith, nat_tests), tt); stays = stays.core } };
      begun = tt;
      refused = stays.readings;
      work = stays.work;
    }) tt))

pub returns-in_err-begun : goal.returns-in_err-begun
returns-in_err-begun g c =
    rw (failed c.from_residual-in_err-begun.result c.from_residual-in_err-begun.ensures.1)
    (drives-beside c.requires c.load_key-begun.ensures.only.storage (omega arith) (λ q. refl)
    (λ serving. key-none-made (values_at g.E.Node.NodeSet g.E.Env g.E.Hash.KeyHash) _ _ _ _ serving c.assert_invariant.ensures
    _ _ _ _ (serves-same (rw c.in_err-begun.was at c.load_key-begun.ensures.step) c.load_key-begun.ensures.only) c.assert_invariant-2.ensures
    (λ q. ap (lookup (nat_eq q)) c.reserve.ensures.entries)))

pub returns-in-Load : goal.returns-in-Load
returns-in-Load g c = drives-beside c.requires c.load_key-begun.ensures.only.storage (omega arith) (λ q. refl)
    (λ serving. key-made (values_at g.E.Node.NodeSet g.E.Env g.E.Hash.KeyHash) _ _ _ _ serving c.assert_invariant.ensures _ _ _ _ _ c.new.result
    (serves-same (rw (c.in_ok-begun.was, c.in-Load.is) at c.load_key-begun.ensures.step) c.load_key-begun.ensures.only) c.assert_invariant-2.ensures
    c.new.ensures.reading c.new.ensures.key c.new.ensures.for_cell (keeps-after (λ q. ap (lookup (nat_eq q)) c.reserve.ensures.entries) c.put.ensures))
