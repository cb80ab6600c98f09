-- A new handle's number is above those of all live handles.
use Rattle.pagable_pager_spec.proofs.Elements.{found-among}
use Rattle.pagable_pager_spec.specs.{
  Basics.{Error, HandleNumber, Kind},
  Calls.{CloneCall, IsNext, OfferCall},
  Pager.{IsPagerWhole, PagerState},
  World.{Core, Values, row_at},
  declared.handle_row.{HandleRow.HandleRow, Owner.Owner},
}
use Rattle.std.proofs.Common.{Err, None, Ok, Option, Result, Some, ap, arith, inl, inr, ℕ, ◌<◌, ◌≡◌, ◌≤◌}
use Rattle.std.specs.Prelude.{IfOk, IfSome}

module _ {N E : Type 0} (v : Values N) (s : PagerState N E) (whole : IsPagerWhole v s) where
  below-next : (h k : HandleNumber) (row : HandleRow) → row_at s.core h ≡ Some row → IsNext k s.core → h.0 < k.0
  below-next h k row live next =
      let found = found-among h.0 s.core.rows row live in
      let given = whole.whole.handles.numbered row found.0 in
      let is = found.1 in
      let above = next.above in
      omega (arith, given, is, above)

  pub clone_is_later : (me : Owner) (h : HandleNumber) (r : Result HandleNumber Error) (w' : Core) → CloneCall s.core me h r w' → IfOk r (λ k. h.0 < k.0)
  clone_is_later me h (Ok k) w' c = below-next h k c.made.0 c.made.1 c.made.2
  clone_is_later me h (Err e) w' c = tt

  pub offered_is_later : (me : Owner) (kind : Kind) (key : ℕ) (h : HandleNumber) (r : Result (Option HandleNumber) Error) (w' : Core)
      → OfferCall s.core me kind key h r w' → IfOk r (λ found. IfSome found (λ k. h.0 ≤ k.0))
  offered_is_later me kind key h (Ok None) w' c = tt
  offered_is_later me kind key h (Err e) w' c = tt
  offered_is_later me kind key h (Ok (Some k)) w' c =
      elim c.answers.3 [
        | inl (closed, is, same) ↦ let same_number = ap (λ (x : HandleNumber). x.0) is in omega (arith, same_number)
        | inr (stands, (n, usable, next, falls)) ↦ let lt = below-next h k c.answers.0 c.answers.1.live next in omega (arith, lt)
      ]

pub ruleset later = (clone_is_later, offered_is_later)
