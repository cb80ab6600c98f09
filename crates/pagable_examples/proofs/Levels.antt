-- A part one level deeper, in any environment: what writing and reading it on that level says of it.
use Rattle.pagable_codec.proofs.Reading.{moves_refl, moves_trans}
use Rattle.pagable_value_spec.specs.{
  Cursor.{Answer, handles_at},
  Form.nested-form,
  Meaning.Meaning,
  Reading.{Rest, below, deepest, read, read_with},
  Shape.{Shape, nested},
  Writing.{NoForm, Out, Refused, WritesSome, nesting},
  declared.{error.Error.Error, numbers.ArcRef.ArcRef},
}
use Rattle.std.proofs.Common.{Err, Result, arith, refl, suc, ℕ, ◌+◌, ◌-◌, ◌<◌, ◌≡◌, ◌≤◌}
use Rattle.std.specs.Prelude.{IfErr}
use Rattle.pagable_value_spec.specs.declared.error.Error.TheVariants as errors

module _ (parts : ℕ → Shape) (part : ℕ) where
  pub writes-down : (M : Meaning ArcRef → Type 0) (levels : ℕ) (old new : Out) → levels < deepest
      → WritesSome M (nesting (levels + 1) parts) (parts part) old new → WritesSome M (nesting levels parts) (nested part) old new
  writes-down M levels old new lt w = grind (arith, nested-form)

  no-down : (levels : ℕ) (m : Meaning ArcRef) → levels < deepest → NoForm (nesting (levels + 1) parts) (parts part) m
      → NoForm (nesting levels parts) (nested part) m
  no-down levels m lt none b k (nested-form left less n m' b' k' e f) = grind (arith, none b' k')

  no-deep : (levels : ℕ) (m : Meaning ArcRef) → deepest ≤ levels → NoForm (nesting levels parts) (nested part) m
  no-deep levels m le b k (nested-form left less n m' b' k' e f) = absurd (omega arith)

  pub refused-down : {X : Type 0} (r : Result X Error) (M : Meaning ArcRef → Type 0) (levels : ℕ) → levels < deepest
      → IfErr r (Refused M (nesting (levels + 1) parts) (parts part)) → IfErr r (Refused M (nesting levels parts) (nested part))
  refused-down x0 M levels lt h = grind (arith, no-down)

  pub refused-deep : (e : Error) (M : Meaning ArcRef → Type 0) (m : Meaning ArcRef) (levels : ℕ) → M m → deepest ≤ levels
      → Refused M (nesting levels parts) (nested part) e
  refused-deep e M m levels is le = λ fault. record { m = m; is = is; no_form = no-deep levels m le }

  pub reads-deep : (levels : ℕ) (rest : Rest Answer) → deepest ≤ levels → read (handles_at levels parts) (nested part) rest ≡ Err errors.TooDeep
  unfolding read read_with below
  reads-deep levels rest le = let none : deepest - levels ≡ 0 = omega arith in rw none refl

  pub reads-down : (levels : ℕ) (rest : Rest Answer) → levels < deepest → read (handles_at levels parts) (nested part) rest
      ≡ read (handles_at (levels + 1) parts) (parts part) rest
  unfolding read read_with below
  reads-down levels rest lt = let one : deepest - levels ≡ suc (deepest - (levels + 1)) = omega arith in rw one refl

pub ruleset reading = (reads-deep, reads-down, moves_refl, moves_trans)
