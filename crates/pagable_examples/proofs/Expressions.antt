-- Encodings of expressions: a number, or two expressions one level deeper.
use Rattle.pagable_codec.specs.declared.{env.Env.Ghosts as Environments, serializer.PagableSerializer.Ghosts as Serializers}
use Rattle.pagable_examples.proofs.Levels.{refused-down, writes-down}
use Rattle.pagable_examples.specs.{
  Expressions.{expression_form, nodes, of_expression, variant_shape, written},
  declared.expression.Expression.{Expression, Number},
}
use Rattle.pagable_traits.proofs.{
  JsonSteps.{wrote-below, wrote-nothing, wrote-then, wrote-then-err},
  Parts.{no-failure, no-success, refuses_first, refuses_second, refuses_whole, writes_pair, writes_whole},
}
use Rattle.pagable_traits.specs.Clauses.{Piece, Wrote, bytes}
use Rattle.pagable_value_spec.specs.{
  BasicValues.bool_form,
  Composite.MeansPair,
  Cursor.Is,
  Form.{err-form, ok-form},
  Meaning.{Meaning, failure, number, pair, success},
  Outcomes.{IsOutOfMemory, deep_or},
  Reading.deepest,
  Shape.{both, nested, unsigned},
  Writing.nesting,
  declared.{error.Error.Error, numbers.ArcRef.ArcRef},
}
use Rattle.std.proofs.Common.{Err, Ok, Result, false, inr, refl, true, ℕ, ◌+◌, ◌-◌, ◌<◌, ◌≡◌}
use Rattle.std.specs.{Int.w64, Result.IsErrAnd}

-- ---- writing

abbrev pub nothing : Piece
nothing = record { wrote = λ n old new. new ≡ old; lacks = λ n e. Unit {0} }

abbrev pub two : Expression → Expression → Meaning ArcRef → Type 0
two x y = MeansPair (Is of_expression) (Is of_expression) (x, y)

module _ {S E N H K V : Type 0} (env : Environments E N H K V) (s : Serializers S E N H K V) where
  pub written_down : {X : Type 0} (x : Expression) {causes : Error → Type 0} {a b c d : S} (r : Result X Error) → (s.levels b ≡ s.levels a + 1)
      × (s.levels a < deepest) → s.out b ≡ s.out a
      → s.environment b ≡ s.environment a → Wrote env s (expression_form x variant_shape) causes b c r → s.levels d ≡ s.levels c - 1 → s.out d
      ≡ s.out c → s.environment d
      ≡ s.environment c
      → Wrote env s (expression_form x (nested 0)) causes a d r
  written_down {X} x {causes} {a} r down out_in env_in w up out_out env_out =
      wrote-then (wrote-nothing {P = nothing} {causes = causes} {a = a} refl) (wrote-below down out_in env_in w up out_out env_out)
      (λ n old mid new e v. writes-down nodes 0 (Is of_expression x) n.levels old new v.0 (rw e at v.1))
      (λ n e l h. refused-down nodes 0 (let p : Result X Error = Err e in p) (Is of_expression x) n.levels l.0 l.1)
      (λ e h. h)

  pub number_written : {X : Type 0} (x : ℕ) (value : Expression) → value ≡ Number x → {a b c : S} (r : Result X Error)
      → Wrote env s (bytes (bool_form true)) IsOutOfMemory a b (let p : Result (Unit {0}) Error = Ok tt in p)
      → Wrote env s (written (Is number x) (unsigned w64)) IsOutOfMemory b c r → Wrote env s (expression_form value variant_shape) (deep_or IsOutOfMemory) a c r
  number_written x value is r f w = wrote-then f w
      (λ n old mid new e v. writes_whole (nesting n.levels nodes) (nesting n.levels nodes) success (unsigned w64) variant_shape (Is number x)
      (Is of_expression value)
      (λ m h. rw (h, is) refl) (bool_form true) old mid new
      (λ m b k form. ok-form _ _ _ m b k form) e v)
      (λ n e l h. refuses_whole (nesting n.levels nodes) (nesting n.levels nodes) success (unsigned w64) variant_shape (Is number x) (Is of_expression value)
      (λ m h. rw (h, is) refl) e (no-success _ _ _) l) (λ e h. inr h)

  module _ (x y value : Expression) (is : of_expression value ≡ failure (pair (of_expression x) (of_expression y))) {a b : S}
      (f : Wrote env s (bytes (bool_form false)) IsOutOfMemory a b (let p : Result (Unit {0}) Error = Ok tt in p)) where
    sum-means : (m : Meaning ArcRef) → two x y m → failure m ≡ of_expression value
    sum-means m h = rw (h.is, h.is_first, h.is_second, is) refl

    unwritten : (levels : ℕ) (e : Error) → (written (two x y) (both (nested 0) (nested 0))).lacks (nesting levels nodes) e
        → (expression_form value variant_shape).lacks (nesting levels nodes) e
    unwritten levels e l = refuses_whole (nesting levels nodes) (nesting levels nodes) failure (both (nested 0) (nested 0)) variant_shape (two x y)
        (Is of_expression value) sum-means e (no-failure _ _ _) l

    pub left_unwritten : {X Y : Type 0} {e : Error} {c : S} (r : Result Y Error) → IsErrAnd r (λ f. f ≡ e)
        → Wrote env s (expression_form x (nested 0)) (deep_or IsOutOfMemory) b c (let p : Result X Error = Err e in p)
        → Wrote env s (expression_form value variant_shape) (deep_or IsOutOfMemory) a c r
    left_unwritten r same w =
        wrote-then-err same f w (λ n old mid v l h. unwritten n.levels _
        (refuses_first (Is of_expression) (Is of_expression) (λ z. (of_expression z, refl)) (x, y) (nesting n.levels nodes) _ _ _ l)) (λ h. h)

    pub sum_written : {X Y : Type 0} {d : X} {c z : S} (r : Result Y Error)
        → Wrote env s (expression_form x (nested 0)) (deep_or IsOutOfMemory) b c (let p : Result X Error = Ok d in p)
        → Wrote env s (expression_form y (nested 0)) (deep_or IsOutOfMemory) c z r
        → Wrote env s (expression_form value variant_shape) (deep_or IsOutOfMemory) a z r
    sum_written r v w = wrote-then f
        (wrote-then {W = written (two x y) (both (nested 0) (nested 0))} {causes = deep_or IsOutOfMemory} v w
        (λ n old mid new p q. writes_pair (Is of_expression) (Is of_expression) (x, y) (nesting n.levels nodes) (nested 0) (nested 0) old mid new p q)
        (λ n e l h. refuses_second (Is of_expression) (Is of_expression) (λ u. (of_expression u, refl)) (x, y) (nesting n.levels nodes)
        (nested 0) (nested 0) e l) (λ e h. h))
        (λ n old mid new e v. writes_whole (nesting n.levels nodes) (nesting n.levels nodes) failure (both (nested 0) (nested 0)) variant_shape (two x y)
        (Is of_expression value) sum-means (bool_form false) old mid new
        (λ m b k form. err-form _ _ _ m b k form) e v)
        (λ n e l h. unwritten n.levels e l) (λ e h. h)
