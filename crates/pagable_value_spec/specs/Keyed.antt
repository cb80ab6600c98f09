-- What the key law asks of a type, and why it holds of the types that may be keys, composite ones too: when two keys
-- are the same, and how they are ordered.
use Rattle.pagable_value_spec.specs.{
  Canonical.{LiesIn, Throughout, Within, throughout-in},
  CarriedTypes.{of_list, of_option, of_result},
  Codes.{one-meaning, same-integer},
  Keys.{KeyOrder, code, flag_order, integer_order, list_order, number_order, optional_order, ordered, outcome_order},
  Keys.{pair_order, same_key, text_order},
  Meaning.{Meaning, flag, integer, none, number, pair, pattern, plain, text},
  Numbers.zigzag,
  Shape.Shape,
  declared.numbers.ArcRef.ArcRef,
}
use Rattle.std.proofs.{
  Common.{ap, arith, ◌∙◌},
  lemmas.{Bool.{Decides.Decides-int_eq, and_parts, eq-eqb, eqb-true}, Slice.Eq.bytes_eq-Decides},
}
use Rattle.std.specs.{
  Cmp.{Lexicographic.{pointwise, slice_cmp}, both_ways},
  Option.{option_cmp, option_eq},
  Ordering.{bool_cmp, int_cmp, int_eq, nat_cmp, ordering_then},
  Prelude.{Bool, List, Option, Result, nat_eq, refl, suc, true, zero, ℕ, ℤ, ◌&&◌, ◌∷◌, ◌≡◌},
  Result.{result_cmp, result_eq},
  Str.bytes_eq,
  declared.cmp.Ordering.Ordering,
}
use mathlib.Core.Bool.{beq}

-- no value of the shape holds a reference in any part
abbrev pub RefersToNothing : (ℕ → Shape) → Shape → Type 0
RefersToNothing parts s = Throughout (LiesIn (λ node. ⊥) (λ part. Unit {0})) parts s

-- for a shape without numbered parts
pub throughout-alone : (P : Shape → Type 0) (parts : ℕ → Shape) (s : Shape) → P s
    → ((those : ℕ → Type 0) → LiesIn (λ n. Unit {0}) those s) → Throughout P parts s
throughout-alone P parts s p lies = throughout-in P parts (λ n. ⊥) (λ n no. absurd no) s p (lies (λ n. ⊥))

-- for a shape over two others
pub throughout-two : (P : Shape → Type 0) (parts : ℕ → Shape) (s t whole : Shape) → (P s → P t → P whole)
    → ((those : ℕ → Type 0) → LiesIn (λ n. Unit {0}) those s → LiesIn (λ n. Unit {0}) those t
    → LiesIn (λ n. Unit {0}) those whole)
    → Throughout P parts s → Throughout P parts t → Throughout P parts whole
unfolding Within
throughout-two P parts s t whole f lies u v = record { within = within }
  where
    within : (steps : ℕ) → Within P parts steps whole
    within zero = f (u.within zero) (v.within zero)
    within (suc steps) = (
      f (u.within (suc steps)).0 (v.within (suc steps)).0,
      lies (λ n. Within P parts steps (parts n)) (u.within (suc steps)).1 (v.within (suc steps)).1,
    )

-- for a shape over one other
pub throughout-over : (P : Shape → Type 0) (parts : ℕ → Shape) (s whole : Shape) → (P s → P whole)
    → ((those : ℕ → Type 0) → LiesIn (λ n. Unit {0}) those s → LiesIn (λ n. Unit {0}) those whole)
    → Throughout P parts s → Throughout P parts whole
throughout-over P parts s whole f lies t = throughout-two P parts s s whole (λ p q. f p) (λ those l m. lies those l) t t

-- a test that holds exactly for equal meanings agrees with the sameness of keys
pub same-by : (test : Bool) (a b : Meaning ⊥) → (test ≡ true → a ≡ b) → (code a ≡ code b → test ≡ true) → test
    ≡ bytes_eq (code a) (code b)
same-by test a b one told = let decides = bytes_eq-Decides (code a) (code b) in
    both_ways test (bytes_eq (code a) (code b)) (λ e. decides.1 (ap code (one e))) (λ e. told (decides.0 e))

pub number_is_same : (m n : ℕ) → nat_eq m n ≡ same_key {A = ArcRef} (number m) (number n)
unfolding plain code
number_is_same m n = same-by (nat_eq m n) (number m) (number n) (λ e. ap number (eqb-true m n e))
    (λ e. let same : m ≡ n = cc in eq-eqb m n same)

pub text_is_same : (s t : List ℕ) → bytes_eq s t ≡ same_key {A = ArcRef} (text s) (text t)
unfolding plain code
text_is_same s t = same-by (bytes_eq s t) (text s) (text t) (λ e. ap text ((bytes_eq-Decides s t).0 e))
    (λ e. let same : s ≡ t = cc in (bytes_eq-Decides s t).1 same)

pub pattern_is_same : (s t : List ℕ) → bytes_eq s t ≡ same_key {A = ArcRef} (pattern s) (pattern t)
unfolding plain code
pattern_is_same s t = same-by (bytes_eq s t) (pattern s) (pattern t) (λ e. ap pattern ((bytes_eq-Decides s t).0 e))
    (λ e. let same : s ≡ t = cc in (bytes_eq-Decides s t).1 same)

pub number_is_ordered : (m n : ℕ) → nat_cmp m n ≡ ordered {A = ArcRef} number_order (number m) (number n)
unfolding plain
number_is_ordered m n = refl

pub text_is_ordered : (s t : List ℕ) → slice_cmp nat_cmp s t ≡ ordered {A = ArcRef} text_order (text s) (text t)
unfolding plain
text_is_ordered s t = refl

pub integer_is_same : (y z : ℤ) → int_eq y z ≡ same_key {A = ArcRef} (integer y) (integer z)
unfolding plain code
integer_is_same y z = same-by (int_eq y z) (integer y) (integer z) (λ e. ap integer ((Decides-int_eq y z).0 e))
    (λ e. let codes : zigzag y ≡ zigzag z = cc in (Decides-int_eq y z).1 (same-integer y z codes))

pub integer_is_ordered : (y z : ℤ) → int_cmp y z ≡ ordered {A = ArcRef} integer_order (integer y) (integer z)
unfolding plain
integer_is_ordered y z = refl

pub flag_is_same : (x y : Bool) → beq x y ≡ same_key {A = ArcRef} (flag x) (flag y)
unfolding plain code
flag_is_same x0 x1 = grind (arith)

pub flag_is_ordered : (x y : Bool) → bool_cmp x y ≡ ordered {A = ArcRef} flag_order (flag x) (flag y)
unfolding plain
flag_is_ordered x0 x1 = grind (arith)

pub nothing_is_same : true ≡ same_key {A = ArcRef} none none
unfolding plain code
nothing_is_same = refl

-- ---- two keys are the same exactly if their parts are

both-same : (a b c d : Meaning ⊥) → (bytes_eq (code a) (code c) && bytes_eq (code b) (code d))
    ≡ bytes_eq (code (pair a b)) (code (pair c d))
both-same a b c d =
    let first = bytes_eq-Decides (code a) (code c) in
    let rest = bytes_eq-Decides (code b) (code d) in
    same-by (bytes_eq (code a) (code c) && bytes_eq (code b) (code d)) (pair a b) (pair c d)
    (λ e. let both = and_parts (bytes_eq (code a) (code c)) (bytes_eq (code b) (code d)) e in
    cc (one-meaning a c (first.0 both.0), one-meaning b d (rest.0 both.1)))
    (λ e. let whole : pair a b ≡ pair c d = one-meaning (pair a b) (pair c d) e in rw (first.1 (cc), rest.1 (cc)) refl)

pub pair_is_same : {A : Type 0} (s t : Bool) (a b c d : Meaning A) → s ≡ same_key a c → t ≡ same_key b d → (s && t)
    ≡ same_key (pair a b) (pair c d)
unfolding plain
pair_is_same s t a b c d p q = (λ i. p i && q i) ∙ both-same (plain a) (plain b) (plain c) (plain d)

pub option_is_same : {A T : Type 0} (eq : T → T → Bool) (meaning : T → Meaning A)
    → ((x y : T) → eq x y ≡ same_key (meaning x) (meaning y)) → (x y : Option T) → option_eq eq x y
    ≡ same_key (of_option meaning x) (of_option meaning y)
unfolding plain code
option_is_same eq meaning same x0 x1 = grind (arith, same)

pub result_is_same : {A T X : Type 0} (eq : T → T → Bool) (fails : X → X → Bool) (meaning : T → Meaning A)
    (failing : X → Meaning A) → ((x y : T) → eq x y ≡ same_key (meaning x) (meaning y))
    → ((x y : X) → fails x y ≡ same_key (failing x) (failing y))
    → (x y : Result T X) → result_eq eq fails x y ≡ same_key (of_result meaning failing x) (of_result meaning failing y)
unfolding plain code
result_is_same eq fails meaning failing same alike x0 x1 = grind (arith, same, alike)

pub list_is_same : {A T : Type 0} (eq : T → T → Bool) (meaning : T → Meaning A)
    → ((x y : T) → eq x y ≡ same_key (meaning x) (meaning y)) → (xs ys : List T) → pointwise eq xs ys
    ≡ same_key (of_list meaning xs) (of_list meaning ys)
unfolding plain code
list_is_same eq meaning same (x ∷ xs) (y ∷ ys) =
    pair_is_same (eq x y) (pointwise eq xs ys) (meaning x) (of_list meaning xs) (meaning y) (of_list meaning ys)
    (same x y) (list_is_same eq meaning same xs ys)
list_is_same eq meaning same x0 x1 = grind (arith)

-- ---- keys are ordered by their parts

pub pair_is_ordered : {A : Type 0} (f g : KeyOrder) (o p : Ordering) (a b c d : Meaning A) → o ≡ ordered f a c → p
    ≡ ordered g b d → ordering_then o p ≡ ordered (pair_order f g) (pair a b) (pair c d)
unfolding plain
pair_is_ordered f g o p a b c d h k = λ i. ordering_then (h i) (k i)

then-assoc : (o p q : Ordering) → ordering_then (ordering_then o p) q ≡ ordering_then o (ordering_then p q)
then-assoc x0 p q = grind (arith)

pub triple_is_ordered : {A : Type 0} (f g h : KeyOrder) (o p q : Ordering) (a b c x y z : Meaning A) → o ≡ ordered f a x
    → p ≡ ordered g b y → q ≡ ordered h c z
    → ordering_then (ordering_then o p) q ≡ ordered (pair_order f (pair_order g h)) (pair a (pair b c))
    (pair x (pair y z))
triple_is_ordered f g h o p q a b c x y z i j k = then-assoc o p q
    ∙ pair_is_ordered f (pair_order g h) o (ordering_then p q) a (pair b c) x (pair y z) i
    (pair_is_ordered g h p q b c y z j k)

pub quadruple_is_ordered : {A : Type 0} (f g h m : KeyOrder) (o p q r : Ordering) (a b c d w x y z : Meaning A) → o
    ≡ ordered f a w → p ≡ ordered g b x → q ≡ ordered h c y → r ≡ ordered m d z
    → ordering_then (ordering_then (ordering_then o p) q) r
    ≡ ordered (pair_order f (pair_order g (pair_order h m))) (pair a (pair b (pair c d)))
    (pair w (pair x (pair y z)))
quadruple_is_ordered f g h m o p q r a b c d w x y z i j k l =
    then-assoc (ordering_then o p) q r ∙ triple_is_ordered f g (pair_order h m) o p (ordering_then q r) a b
    (pair c d) w x (pair y z) i j (pair_is_ordered h m q r c d y z k l)

pub quintuple_is_ordered : {A : Type 0} (f g h m n : KeyOrder) (o p q r s : Ordering) (a b c d t w x y z u : Meaning A)
    → o ≡ ordered f a w → p ≡ ordered g b x → q ≡ ordered h c y → r ≡ ordered m d z → s ≡ ordered n t u
    → ordering_then (ordering_then (ordering_then (ordering_then o p) q) r) s
    ≡ ordered (pair_order f (pair_order g (pair_order h (pair_order m n)))) (pair a (pair b (pair c (pair d t))))
    (pair w (pair x (pair y (pair z u))))
quintuple_is_ordered f g h m n o p q r s a b c d t w x y z u i j k l v =
    then-assoc (ordering_then (ordering_then o p) q) r s
    ∙ quadruple_is_ordered f g h (pair_order m n) o p q (ordering_then r s) a b c (pair d t) w x y (pair z u) i j k
    (pair_is_ordered m n r s d t z u l v)

pub option_is_ordered : {A T : Type 0} (order : KeyOrder) (cmp : T → T → Ordering) (meaning : T → Meaning A)
    → ((x y : T) → cmp x y ≡ ordered order (meaning x) (meaning y)) → (x y : Option T) → option_cmp cmp x y
    ≡ ordered (optional_order order) (of_option meaning x) (of_option meaning y)
unfolding plain
option_is_ordered order cmp meaning is x0 x1 = grind (arith, is)

pub result_is_ordered : {A T X : Type 0} (order fail_order : KeyOrder) (cmp : T → T → Ordering)
    (cmp_fails : X → X → Ordering) (meaning : T → Meaning A) (failing : X → Meaning A)
    → ((x y : T) → cmp x y ≡ ordered order (meaning x) (meaning y))
    → ((x y : X) → cmp_fails x y ≡ ordered fail_order (failing x) (failing y)) → (x y : Result T X)
    → result_cmp cmp cmp_fails x y ≡ ordered (outcome_order order fail_order) (of_result meaning failing x)
    (of_result meaning failing y)
unfolding plain
result_is_ordered order fail_order cmp cmp_fails meaning failing is fails x0 x1 = grind (arith, is, fails)

pub list_is_ordered : {A T : Type 0} (order : KeyOrder) (cmp : T → T → Ordering) (meaning : T → Meaning A)
    → ((x y : T) → cmp x y ≡ ordered order (meaning x) (meaning y)) → (xs ys : List T) → slice_cmp cmp xs ys
    ≡ ordered (list_order order) (of_list meaning xs) (of_list meaning ys)
unfolding plain
list_is_ordered order cmp meaning is (x ∷ xs) (y ∷ ys) =
    λ i. ordering_then (is x y i) (list_is_ordered order cmp meaning is xs ys i)
list_is_ordered order cmp meaning is x0 x1 = grind (arith)
