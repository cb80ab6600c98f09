-- The law of keys of maps and items of sets, made of the laws of their parts.
use Rattle.pagable_traits.specs.Meanings.{Meanings, exactly, lists, options, pairs, results, seen_by}
use Rattle.pagable_value_spec.specs.{
  Keyed.{RefersToNothing, list_is_same, number_is_same, option_is_same, pair_is_same, result_is_same, text_is_same},
  Keys.same_key,
  Meaning.{number, text},
  OneForm.{IsBasic, IsOfTwo, IsOver, basic_refers_to_nothing, over_refers_to_nothing, two_refers_to_nothing},
  Shape.{Shape, both, optional, outcome, unsigned},
}
use Rattle.std.proofs.Common.{sym, ◌∙◌}
use Rattle.std.specs.{
  Cmp.{Derive.then_next, Lexicographic.pointwise},
  Int.Width,
  Option.option_eq,
  Ordering.ordering_then,
  Prelude.{Bool, nat_eq, refl, ℕ, ◌&&◌, ◌≡◌},
  Result.result_eq,
  Str.bytes_eq,
  declared.cmp.Ordering.Ordering,
}
use Rattle.pagable_value_spec.specs.Shape as shapes

-- two values are equal exactly if they mean the same, and in no environment does a value refer to anything
pub record IsKey {X E : Type 0} (M : Meanings X) (eq : X → X → Bool) (parts : E → ℕ → Shape)
    (shape : E → Shape) : Type 0 where
  pub same : (x y : X) → eq x y ≡ same_key (M.meaning x) (M.meaning y)
  pub refers_to_nothing : (e : E) → RefersToNothing (parts e) (shape e)

module _ {X E : Type 0} {M : Meanings X} {eq : X → X → Bool} {parts : E → ℕ → Shape} {s : E → Shape} where
  -- for values that are seen as keys
  abbrev pub key_seen : {Z : Type 0} (view : Z → X) → IsKey M eq parts s
      → IsKey (seen_by view M) (λ x y. eq (view x) (view y)) parts s
  key_seen view k = record { same = λ x y. k.same (view x) (view y); refers_to_nothing = k.refers_to_nothing }

  -- for values with another test of equality that has the same results
  abbrev pub key_alike : {test : X → X → Bool} → ((x y : X) → test x y ≡ eq x y) → IsKey M eq parts s
      → IsKey M test parts s
  key_alike alike k = record { same = λ x y. alike x y ∙ k.same x y; refers_to_nothing = k.refers_to_nothing }

  abbrev pub option_key : IsKey M eq parts s → IsKey (options M) (option_eq eq) parts (λ e. optional (s e))
  option_key k = record {
    same = option_is_same eq M.meaning k.same;
    refers_to_nothing = λ e. over_refers_to_nothing refl (k.refers_to_nothing e);
  }

  -- for lists, in a shape made of their items' shape
  abbrev pub list_key : {whole : E → Shape} → ((e : E) → IsOver (s e) (whole e)) → IsKey M eq parts s
      → IsKey (lists M) (pointwise eq) parts whole
  list_key over k = record {
    same = list_is_same eq M.meaning k.same;
    refers_to_nothing = λ e. over_refers_to_nothing (over e) (k.refers_to_nothing e);
  }

  module _ {Y : Type 0} {N : Meanings Y} {like : Y → Y → Bool} {t : E → Shape} where
    abbrev pub result_key : IsKey M eq parts s → IsKey N like parts t
        → IsKey (results M N) (result_eq eq like) parts (λ e. outcome (s e) (t e))
    result_key k l = record {
      same = result_is_same eq like M.meaning N.meaning k.same l.same;
      refers_to_nothing = λ e. two_refers_to_nothing (refl, refl) (k.refers_to_nothing e) (l.refers_to_nothing e);
    }

    abbrev pub pair_key : IsKey M eq parts s → IsKey N like parts t
        → IsKey (pairs M N) (λ p q. eq p.0 q.0 && like p.1 q.1) parts (λ e. both (s e) (t e))
    pair_key k l = record {
      same = λ p q. pair_is_same (eq p.0 q.0) (like p.1 q.1) (M.meaning p.0) (N.meaning p.1) (M.meaning q.0)
          (N.meaning q.1) (k.same p.0 q.0) (l.same p.1 q.1);
      refers_to_nothing = λ e. two_refers_to_nothing (refl, refl) (k.refers_to_nothing e) (l.refers_to_nothing e);
    }

    -- for entries, in a shape made of their keys' and their values' shapes
    abbrev pub entries_key : {whole : E → Shape} → ((e : E) → IsOfTwo (s e) (t e) (whole e)) → IsKey M eq parts s
        → IsKey N like parts t → IsKey (lists (pairs M N)) (pointwise (λ p q. eq p.0 q.0 && like p.1 q.1)) parts whole
    entries_key over k l = record {
      same = list_is_same (λ p q. eq p.0 q.0 && like p.1 q.1) (pairs M N).meaning (pair_key k l).same;
      refers_to_nothing = λ e. two_refers_to_nothing (over e) (k.refers_to_nothing e) (l.refers_to_nothing e);
    }

-- for values of a shape that is made of no other
abbrev pub basic_key : {X E : Type 0} {M : Meanings X} {eq : X → X → Bool} {parts : E → ℕ → Shape} {s : Shape}
    → ((x y : X) → eq x y ≡ same_key (M.meaning x) (M.meaning y)) → IsBasic s → IsKey M eq parts (λ (e : E). s)
basic_key same is = record { same = same; refers_to_nothing = λ e. basic_refers_to_nothing is }

-- for whole numbers, and for texts
abbrev pub number_key : {E : Type 0} {parts : E → ℕ → Shape} {w : Width}
    → IsKey (exactly number) nat_eq parts (λ (e : E). unsigned w)
number_key = basic_key number_is_same tt

abbrev pub text_key : {E : Type 0} {parts : E → ℕ → Shape}
    → IsKey (exactly text) bytes_eq parts (λ (e : E). shapes.text)
text_key = basic_key text_is_same tt

pub then_assoc : (o p q : Ordering) → ordering_then (ordering_then o p) q ≡ ordering_then o (ordering_then p q)
then_assoc o p q = sym (then_next o p q refl refl)
