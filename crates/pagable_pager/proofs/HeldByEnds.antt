-- The pin with which a load of a cell ends holds the value that the cell has got.
use Rattle.pagable_pager.specs.View.{may_call}
use Rattle.pagable_pager_spec.specs.{
  LoadCalls.EndCall,
  Pager.{IsCellOf, IsPagerWhole, Moves, PagerState, ValueCall},
  World.{Core, Values, row_at},
  declared.handle_row.{HandleRow.HandleRow, Owner.Owner},
}
use Rattle.pagable_pager_spec.specs.Kinds.{is_pinning}
use Rattle.pagable_theorems.proofs.{
  HandlesKept.{NotValues, end-call, low-whole},
  LoadProgress.{row-held, row-pins},
  ValuesOwned.pinned-here,
}
use Rattle.pagable_value_spec.specs.declared.numbers.{ArcRef.ArcRef, HandleNumber.HandleNumber, LoadNumber.LoadNumber}
use Rattle.std.proofs.{Common.{List, None, Ok, Some, ap, arith, inl, inr, true, ℕ, ◌∙◌, ◌≡◌}, lemmas.Bool.Decides.nat_tests}

-- whoever calls is no value
pub no-value : (w : Core) (me : Owner) → may_call w me ≡ true → NotValues me
no-value w me may n is = grind (arith, nat_tests)

-- what a handle pins is in memory
pinned-value : {N E : Type 0} {v : Values N} {t : PagerState N E} (k : HandleNumber) (row : HandleRow) → IsPagerWhole v t → row_at t.core k ≡ Some row
    → is_pinning row.mode ≡ true → (y : N) × (t.values row.node.0 ≡ Some y)
pinned-value k row whole live pins = let valued = whole.valued row.node.0 in grind (arith, nat_tests, pinned-here, row-held, row-pins)

module _ {N E : Type 0} {v : Values N} {s t : PagerState N E} (me : Owner) (free : NotValues me) (l : LoadNumber) (x : N) (u : ℕ) (references : List ArcRef)
    (k : HandleNumber) where
  pub ends-held : IsPagerWhole v s → IsPagerWhole v t → (c : EndCall s.core me l x u references (Ok k) t.core)
      → Moves (λ n y. (y ≡ x) × IsCellOf s.core l n) s t → s.values c.installs.0.0 ≡ None → ValueCall t k (Ok (Some x))
  ends-held before after c moves none =
      let p = end-call s.core t.core (low-whole before.whole.handles) me l x u references k free c in
      let row = p.pin.row in
      let there = pinned-value k row after p.pin.live p.pin.is in
      let was : s.values row.node.0 ≡ None = ap (λ n. s.values n.0) p.at ∙ none in
      let same : there.0 ≡ x = elim (moves.each row.node.0 there.0 there.1) [ inl had ↦ absurd (cc) | inr (away, came) ↦ came.0 ] in
      record { found = (row, p.pin.live, (p.pin.is, there.1 ∙ ap Some same)); refused = tt }
