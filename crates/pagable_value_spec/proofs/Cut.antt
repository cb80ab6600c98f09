-- Where a text is cut that is made of two, and what stays cut.
use Rattle.pagable_value_spec.specs.{Reasons.{IsCut, IsKept, kept_of}, declared.reason.Reason.Reason}
use Rattle.std.proofs.{
  Common.{List, ap, arith, false, inl, inr, length, refl, subst, suc, sym, take, true, ℕ, [], ◌++◌, ◌+◌, ◌-◌, ◌<◌, ◌∙◌, ◌∷◌, ◌≡◌, ◌≤◌, ◌⊎◌},
  lemmas.List.{append-nil, get_or-append-add, get_or-append_right, get_or_append_left, length-append, take-append-le, take_all},
  lemmas.Str.{IsCharBoundary-end, IsUtf8-append, IsUtf8-from_is_utf8, is_utf8-from_IsUtf8},
}
use Rattle.std.specs.Str.{IsCharBoundary, IsUtf8, is_utf8}

true-not-false : true ≡ false → ⊥
true-not-false e = cc

le_or_more : (a b : ℕ) → (a ≤ b) ⊎ (b < a)
le_or_more a b = grind arith

-- a boundary of a text's own is one of the two together
boundary-front : (f t : List ℕ) (i : ℕ) → i < length f → IsCharBoundary f i → IsCharBoundary (f ++ t) i
boundary-front f t i less b = (
  let n = length-append f t in omega arith,
  λ l h. subst (λ x. 192 ≤ x) (sym (get_or_append_left f t 0 i less))
      (b.1 less (subst (λ x. 128 ≤ x) (get_or_append_left f t 0 i less) h)),
)

front-boundary : (f t : List ℕ) (i : ℕ) → i < length f → IsCharBoundary (f ++ t) i → IsCharBoundary f i
front-boundary f t i less b = (
  omega arith,
  λ l h. subst (λ x. 192 ≤ x) (get_or_append_left f t 0 i less)
      (b.1 (let n = length-append f t in omega arith) (subst (λ x. 128 ≤ x) (sym (get_or_append_left f t 0 i less)) h)),
)

rest-boundary : (f t : List ℕ) (i : ℕ) → length f ≤ i → IsCharBoundary (f ++ t) i → IsCharBoundary t (i - length f)
rest-boundary f t i le b =
    let same = get_or-append_right f t (length f) i 0 refl le in
    let n = length-append f t in
    let short : i ≤ length (f ++ t) = b.0 in
    (omega arith, λ l h. subst (λ x. 192 ≤ x) same (b.1 (omega arith) (subst (λ x. 128 ≤ x) (sym same) h)))

boundary-rest : (f t : List ℕ) (i : ℕ) → IsCharBoundary t i → IsCharBoundary (f ++ t) (length f + i)
boundary-rest f t i b =
    let n = length-append f t in
    let same = get_or-append-add f t i 0 in
    let short : i ≤ length t = b.0 in
    (omega arith, λ l h. subst (λ x. 192 ≤ x) (sym same) (b.1 (omega arith) (subst (λ x. 128 ≤ x) same h)))

-- the front of two texts that goes on into the second
take-both : (f t : List ℕ) (c : ℕ) → take (length f + c) (f ++ t) ≡ f ++ take c t
take-both [] t c = let e : length {A = ℕ} [] + c ≡ c = omega arith in subst (λ n. take n t ≡ take c t) (sym e) refl
take-both (x ∷ f) t c =
    let e : length (x ∷ f) + c ≡ suc (length f + c) = omega arith in
    subst (λ n. take n (x ∷ (f ++ t)) ≡ x ∷ (f ++ take c t)) (sym e) (ap (λ xs. x ∷ xs) (take-both f t c))

-- Two texts, of which the first is cut at a boundary, and the second where that leaves room.
pub cut_in_two : (f t kept : List ℕ) (a c room : ℕ) → length f ≤ 61 → room ≡ 59 - length f → a ≤ 59 → IsCharBoundary f a
    → ((i : ℕ) → a < i → i ≤ 59 → IsCharBoundary f i → ⊥) →
    c ≤ room → IsCharBoundary t c → ((i : ℕ) → c < i → i ≤ room → IsCharBoundary t i → ⊥) → kept ≡ take a f ++ take c t ++ (46 ∷ 46 ∷ []) → IsCut (f ++ t) kept
cut_in_two f t kept a c room within is-room low front front-last small rest rest-last told = elim (le_or_more (length f) 59) [
  | inl short ↦
      let below : a ≤ length f = front.0 in
      let whole : a ≡ length f = elim (le_or_more (length f) a) [
        | inl high ↦ omega arith
        | inr less ↦ absurd (front-last (length f) less short (IsCharBoundary-end f))
      ] in
      record {
        count = length f + c;
        few = omega arith;
        boundary = boundary-rest f t c rest;
        last = λ i more le b. rest-last (i - length f) (omega arith) (omega arith) (rest-boundary f t i (omega arith) b);
        is = told ∙ ap (λ xs. xs ++ take c t ++ (46 ∷ 46 ∷ [])) (take_all a f (omega arith)) ∙ ap (λ xs. xs ++ (46 ∷ 46 ∷ [])) (sym (take-both f t c));
      }
  | inr long ↦
      let none : c ≡ 0 = omega arith in
      record {
        count = a;
        few = low;
        boundary = boundary-front f t a (omega arith) front;
        last = λ i more le b. front-last i more le (front-boundary f t i (omega arith) b);
        is = told ∙ ap (λ n. take a f ++ take n t ++ (46 ∷ 46 ∷ [])) none ∙ ap (λ xs. xs ++ (46 ∷ 46 ∷ [])) (append-nil (take a f))
            ∙ ap (λ xs. xs ++ (46 ∷ 46 ∷ [])) (sym (take-append-le a f t (omega arith)));
      }
]

-- what is cut stays so, whatever follows
cut-further : (all text kept : List ℕ) → 61 < length all → IsCut all kept → IsCut (all ++ text) kept
cut-further all text kept long was-cut =
    let low : was-cut.count ≤ 59 = was-cut.few in
    record {
      count = was-cut.count;
      few = was-cut.few;
      boundary = boundary-front all text was-cut.count (omega arith) was-cut.boundary;
      last = λ i more le b. was-cut.last i more le (front-boundary all text i (omega arith) b);
      is = was-cut.is ∙ ap (λ xs. xs ++ (46 ∷ 46 ∷ [])) (sym (take-append-le was-cut.count all text (omega arith)));
    }

-- a reason that was cut keeps what it has
pub kept_cut : (all text : List ℕ) (r : Reason) → r.is_cut ≡ true → IsKept all r → IsKept (all ++ text) r
kept_cut all text r was-cut k =
    let long : 61 < length all = elim (le_or_more (length all) 61) [
      | inl short ↦ absurd (true-not-false (sym was-cut ∙ (k.whole short).1))
      | inr long ↦ long
    ] in
    let n = length-append all text in
    record { whole = λ short. absurd (omega arith); cut = λ more. (cut-further all text (kept_of r) long (k.cut long).0, was-cut) }

-- and one that is whole gets what is added
pub kept_whole : (all text : List ℕ) (old new : Reason) → old.is_cut ≡ false → IsKept (kept_of old ++ text) new → IsKept all old → IsKept (all ++ text) new
kept_whole all text old new was-whole added k =
    let short : length all ≤ 61 = elim (le_or_more (length all) 61) [
      | inl short ↦ short
      | inr long ↦ absurd (true-not-false (sym (k.cut long).1 ∙ was-whole))
    ] in
    subst (λ xs. IsKept (xs ++ text) new) (k.whole short).0 added

-- a text for which there was room
pub kept_room : (text : List ℕ) (r : Reason) → length text ≤ 61 → kept_of r ≡ text → r.is_cut ≡ false → IsKept text r
kept_room text r short told was-whole = record { whole = λ x. (told, was-whole); cut = λ long. absurd (omega arith) }

-- one for which there was none
pub kept_no_room : (text : List ℕ) (r : Reason) → 61 < length text → IsCut text (kept_of r) → r.is_cut ≡ true → IsKept text r
kept_no_room text r long told was-cut = record { whole = λ short. absurd (omega arith); cut = λ x. (told, was-cut) }

-- a text behind another one
pub both_whole : (old new text copied : List ℕ) (n : ℕ) → take (n + length copied) new ≡ take n old ++ copied → copied ≡ text → is_utf8 (take n old) ≡ true
    → IsUtf8 text → is_utf8 (take (n + length text) new) ≡ true
both_whole old new text copied n is same front u =
    let e : take (n + length text) new ≡ take n old ++ text = subst (λ x. take (n + length x) new ≡ take n old ++ x) same is in
    subst (λ xs. is_utf8 xs ≡ true) (sym e) (is_utf8-from_IsUtf8 (take n old ++ text)
    (IsUtf8-append (take n old) text (IsUtf8-from_is_utf8 (take n old) front) u))
