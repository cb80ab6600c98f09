-- A form is read back, whatever follows it; and reading it fails if the look-up of one of its references fails.
use Rattle.pagable_theorems.proofs.{
  Words.{Bool, Entries, Entry, Err, Error, Form, Forms, IsReadable, LiesIn, List, Meaning, Ok, Result, Shape, Throughout, ap, append-nil, append_assoc, arith},
  Words.{basics, false, inl, inr, length, length-append, put_all, read, reference-form, refl, rest, run-form, subst, suc, sym, zero, ℕ, ℤ, [], ◌++◌, ◌+◌, ◌<◌},
  Words.{◌∙◌, ◌∷◌, ◌≡◌, ◌≤◌, ◌⊎◌},
}
use Rattle.pagable_theorems.specs.FormLaws.{FormIsReadBack, IsPrefixFree, LooksUp, more-references, no-references}
use Rattle.pagable_value_spec.specs.{
  BasicValues.{bool_at, bool_form, char_at, char_form, duration_at, duration_form, length_at, length_form, longest, nanos_of_second, text_at, text_form},
  Canonical.{HasNoCase, IsCanonical, Within},
  CarriedTypes.of_entries,
  Form.{array-form, both-form, case-form, duration-form, err-form, flag-form, hash-map-form, json-array-form, json-flag-form, json-number-form},
  Form.{json-object-form, json-text-form, letter-form, list-form, more-entries, more-forms, nested-form, no-entries, no-forms, nothing-form, ok-form},
  Form.{pattern-form, placed-map-form, placed-set-form, signed-form, some-form, sorted-map-form, sorted-set-form, static-form, tagged-form, text-form},
  Form.unsigned-form,
  Keyed.{throughout-alone, throughout-over},
  Keys.{AllAfter, Apart, Ascends, KeyOrder, ordered, put_placed, put_placed_item, put_sorted, put_sorted_item, same_key, text_order},
  Meaning.sequence,
  Numbers.{IsSigned, bound, signed_at, signed_form, signed_from, unsigned_at, unsigned_form, unsigned_of, varint, varint_at, varint_limit},
  ReadSteps.◌>>=◌,
  Reading.{Gets, Look, Rest, below, items, read_with, two},
  Shape.nested,
}
use Rattle.std.proofs.{
  Common.{ltb, ◌%◌, ◌/◌, ◌^◌, ◌⊎◌},
  lemmas.{Bool.{le-leb, le-ltb, lt-ltb}, List.{append_cancel_right, drop_at, take_at}, Str.{IsUtf8-encode, chars-encodes, is_utf8-from_IsUtf8, length-encode}},
}
use Rattle.std.specs.{Char.{IsScalar, encode_utf8, len_utf8}, Int.{Width, w32, w64}, Str.{IsUtf8, chars}, declared.cmp.Ordering.Ordering}
pub use Rattle.pagable_pager_spec.proofs.Elements.{at-most-sum, counted, sum-none as sum-zero}
pub use Rattle.std.proofs.lemmas.{Bool.eqb-true as same-number, Option.same_Some as same_some}

-- ---- from what holds throughout a shape to what holds throughout the shapes in it

-- what t refers to and its numbered parts are among those of s
abbrev pub Under : Shape → Shape → Type 1
Under s t = (nodes those : ℕ → Type 0) → LiesIn nodes those s → LiesIn nodes those t

module _ {P : Shape → Type 0} {parts : ℕ → Shape} where
  -- of the shape itself
  pub here : {s : Shape} → Throughout P parts s → P s
  unfolding Within
  here h = h.within 0

  -- of a shape in it
  pub narrowed : {s t : Shape} → Throughout P parts s → (P s → P t) → Under s t → Throughout P parts t
  narrowed {s} {t} h p l = throughout-over P parts s t p (λ those. l (λ n. Unit {0}) those) h

  -- of a numbered part
  pub part_of : {n : ℕ} → Throughout P parts (nested n) → Throughout P parts (parts n)
  unfolding Within LiesIn
  part_of h = record { within = λ steps. (h.within (suc steps)).1 }

  -- of a shape that contains nothing
  pub alone : {s : Shape} → ((nodes those : ℕ → Type 0) → LiesIn nodes those s) → P s → Throughout P parts s
  alone {s} l p = throughout-alone P parts s p (λ those. l (λ n. Unit {0}) those)

-- of what the shape refers to
pub lower : (nodes : ℕ → Type 0) {parts : ℕ → Shape} {s t : Shape} → Under s t → Throughout (LiesIn nodes (λ n. Unit {0})) parts s
    → Throughout (LiesIn nodes (λ n. Unit {0})) parts t
lower nodes u h = narrowed h (u nodes (λ n. Unit {0})) u

-- ---- whole numbers are read again

-- what is written is read again, whatever follows
varint-again : (more last n : ℕ) (rest : List ℕ) → n < varint_limit more last → last < 128 → varint_at more last (varint more n ++ rest) ≡ Ok (n, rest)
unfolding varint_limit varint varint_at
varint-again zero last n rest h l = rw (le-leb n last (omega arith)) refl
varint-again (suc more) last n rest h l = grind (basics, varint-again more last)

unsigned-again : (w : Width) (n : ℕ) (rest : List ℕ) → n < bound w → unsigned_at w (unsigned_form w n ++ rest) ≡ Ok (n, rest)
unfolding varint_limit
unsigned-again x0 n rest h = grind (basics, varint-again)

-- a number with a sign is one without, and back
signed-again : (w : Width) (z : ℤ) (rest : List ℕ) → IsSigned w z → signed_at w (signed_form w z ++ rest) ≡ Ok (z, rest)
signed-again w z rest h = let back : signed_from w (unsigned_of w z) ≡ z =
    grind basics in rw (unsigned-again w (unsigned_of w z) rest (grind basics), back) refl

-- ---- flags, lengths, texts, characters and durations are read again

bool-again : (b : Bool) (rest : List ℕ) → bool_at (bool_form b ++ rest) ≡ Ok (b, rest)
unfolding bool_at
bool-again x0 rest = grind basics

length-again : (n : ℕ) (rest : List ℕ) → n ≤ longest → length_at (length_form n ++ rest) ≡ Ok (n, rest)
unfolding length_at
length-again n rest h = rw (unsigned-again w64 n rest (omega arith), le-leb n longest h) refl

text-again : (t rest : List ℕ) → IsUtf8 t → length t ≤ longest → text_at (text_form t ++ rest) ≡ Ok (t, rest)
unfolding text_at
text-again t x1 u h = grind (basics, ltb, rest, le-ltb, length-append, append_assoc, length-again, take_at, drop_at, is_utf8-from_IsUtf8)

char-again : (c : ℕ) (rest : List ℕ) → IsScalar c → char_at (char_form c ++ rest) ≡ Ok (c, rest)
unfolding char_at
char-again c rest s =
    let small : len_utf8 c ≤ 4 = grind arith in
    let one : chars (encode_utf8 c) ≡ c ∷ [] = rw (← append-nil (encode_utf8 c)) (chars-encodes (c ∷ []) (rw s refl)) in
    rw (text-again (encode_utf8 c) rest (IsUtf8-encode c s) (omega (arith, length-encode c, small)), one) refl

duration-again : (seconds nanos : ℕ) (rest : List ℕ) → seconds < 2 ^ 64 → nanos < nanos_of_second → duration_at (duration_form seconds nanos ++ rest)
    ≡ Ok ((seconds, nanos), rest)
unfolding duration_at
duration-again seconds nanos rest h l =
    let whole : nanos / nanos_of_second ≡ 0 = omega arith in let same : nanos % nanos_of_second ≡ nanos = omega arith in
    let total : seconds + 0 ≡ seconds = omega arith in
    rw (append_assoc, unsigned-again w64 seconds _ h, unsigned-again w32 nanos rest (omega arith), whole, same, total, lt-ltb seconds (2 ^ 64) h) refl

-- ---- items that are apart are put in at the end, one after another

-- what stands in a list that is apart comes after each that stands before it
last-after : {X : Type 0} (R : X → X → Type 0) (y x : X) (acc xs : List X) → AllAfter R y (acc ++ x ∷ xs) → R x y
unfolding AllAfter
last-after R y x [] xs h = h.0
last-after R y x (z ∷ acc) xs h = last-after R y x acc xs h.1

-- where one that is put in goes behind each that it comes after, each does
module _ {X : Type 0} (put : List X → X → List X) (R : X → X → Type 0) (start : (x : X) → put [] x ≡ x ∷ [])
    (later : (y x : X) (acc : List X) → R x y → put (y ∷ acc) x ≡ y ∷ put acc x) where
  put_end : (acc : List X) (x : X) (xs : List X) → Apart R (acc ++ x ∷ xs) → put acc x ≡ acc ++ x ∷ []
  unfolding Apart
  put_end [] x xs h = start x
  put_end (y ∷ acc) x xs h = later y x acc (last-after R y x acc xs h.0) ∙ ap (λ (ys : List X). y ∷ ys) (put_end acc x xs h.1)

  put_on : (acc xs : List X) → Apart R (acc ++ xs) → put_all put acc xs ≡ acc ++ xs
  unfolding put_all
  put_on acc [] h = sym (append-nil acc)
  put_on acc (x ∷ xs) h = rw (put_end acc x xs h) (put_on (acc ++ x ∷ []) xs (rw append_assoc h) ∙ append_assoc acc (x ∷ []) xs)

ascending-kept : {A : Type 0} (order : KeyOrder) (es : List (Entry A)) → Ascends order es → put_all (put_sorted order) [] es ≡ es
ascending-kept order es h = put_on (put_sorted order) (λ e f. ordered order e.0 f.0 ≡ Ordering.Greater) (λ e. refl) (λ f e acc r. rw r refl) [] es h

-- ---- a form is read again, whatever follows it

-- nothing that is written has a shape without cases
no_case-form : {A : Type 0} {kind_of : A → ℕ} {parts : ℕ → Shape} {left : ℕ} {s : Shape} {m : Meaning A} {b : List ℕ} {k : List A}
    → Form A kind_of parts left s m b k → HasNoCase s → ⊥
no_case-form x0 h = grind (basics, case-form)

-- What is left where what stands for references is looked up, one after another, as far as there are references; or why one is refused.
pub data Looked {A B : Type 0} (look : Look A B) (kind_of : B → ℕ) : List A → List B → Result (List A) Error → Type 0 where
  all-looked : (r : List A) → Looked look kind_of r [] (Ok r)
  one-looked : (a : A) (r : List A) (b : B) (k : List B) (c : Result (List A) Error) → look (kind_of b) a ≡ Ok b → Looked look kind_of r k c
      → Looked look kind_of (a ∷ r) (b ∷ k) c
  not-looked : (a : A) (r : List A) (b : B) (k : List B) (e : Error) → look (kind_of b) a ≡ Err e → Looked look kind_of (a ∷ r) (b ∷ k) (Err e)

module _ {A B : Type 0} {look : Look A B} {kind_of : B → ℕ} where
  -- the references of a front, and then those of a back
  split : (k l : List B) {r : List A} {c : Result (List A) Error} → Looked look kind_of r (k ++ l) c
      → ((y : List A) × Looked look kind_of r k (Ok y) × Looked look kind_of y l c) ⊎ ((e : Error) × Looked look kind_of r k (Err e) × (c ≡ Err e))
  split [] l {r} h = inl (r, all-looked r, h)
  split (b ∷ k) l (one-looked a r b2 k2 c is h) = elim (split k l h) [
    | inl (y, f, g) ↦ inl (y, one-looked _ _ _ _ (Ok y) is f, g)
    | inr (e, f, same) ↦ inr (e, one-looked _ _ _ _ (Err e) is f, same)
  ]
  split (b ∷ k) l (not-looked a r b2 k2 e is) = inr (e, not-looked a r b k e is, refl)

  none-left : {r : List A} {c : Result (List A) Error} → Looked look kind_of r [] c → c ≡ Ok r
  none-left (all-looked r) = refl

  looked-by : (y : List A) {r : List A} {k : List B} → LooksUp look kind_of r k → Looked look kind_of (r ++ y) k (Ok y)
  looked-by y no-references = all-looked y
  looked-by y (more-references a r b k e h) = one-looked a (r ++ y) b k (Ok y) e (looked-by y h)

bind-then : {X Y Z : Type 0} (c : Result X Error) (f : X → Result Y Error) (g : Y → Result Z Error) → ((c >>= f) >>= g) ≡ (c >>= λ x. f x >>= g)
bind-then x0 f g = grind basics

-- reading where this many levels are left
abbrev pub read_at : {A B : Type 0} → Look A B → (ℕ → Shape) → ℕ → Shape → Gets A (Meaning B)
read_at look parts left s = read_with look parts (below look parts left) s

module _ {A B : Type 0} {look : Look A B} {kind_of : B → ℕ} {parts : ℕ → Shape} where
  mutual
    unfolding read_with below items IsReadable LiesIn varint_at bool_at

    pub form-again : (x : List ℕ) {r : List A} {c : Result (List A) Error} {left : ℕ} {s : Shape} {m : Meaning B} {b : List ℕ} {k : List B}
        → Form B kind_of parts left s m b k
        → Looked look kind_of r k c → Throughout IsReadable parts s → read_at look parts left s (rest (b ++ x) r) ≡ (c >>= λ y. Ok (m, rest x y))
    form-again x (unsigned-form left w n h) u t = rw (none-left u, unsigned-again w n x h) refl
    form-again x (signed-form left w z h) u t = rw (none-left u, signed-again w z x h) refl
    form-again x (flag-form left b) u t = rw (none-left u, bool-again b x) refl
    form-again x (text-form left b h le) u t = rw (none-left u, text-again b x h le) refl
    form-again x (letter-form left c h) u t = rw (none-left u, char-again c x h) refl
    form-again x (duration-form left seconds nanos h l) u t = rw (none-left u, duration-again seconds nanos x h l) refl
    form-again x (pattern-form left b h le) u t = rw (none-left u, text-again b x h le) refl
    form-again x (some-form left s m b k h) u t = rw (form-again x h u (narrowed t (λ p. p) (λ n d l. l)), bind-then) refl
    form-again x (err-form left s s2 m b k h) u t = rw (form-again x h u (narrowed t (λ p. p.1) (λ n d l. l.1)), bind-then) refl
    form-again x (ok-form left s s2 m b k h) u t = rw (form-again x h u (narrowed t (λ p. p.0) (λ n d l. l.0)), bind-then) refl
    form-again x (list-form left s ms b k le h) u t = rw (
      append_assoc,
      length-again (length ms) (b ++ x) le,
      forms-again x h u (narrowed t (λ p. p) (λ n d l. l)),
      bind-then,
    ) refl
    form-again x (run-form left s ms b k le h) u t = absurd (here t)
    form-again x (array-form left n s ms b k e h) u t = rw (← e, forms-again x h u (narrowed t (λ p. p) (λ n d l. l)), bind-then) refl
    form-again x (both-form left s s2 m n b c k l h g) u t = elim (split k l u) [
      | inl (y, f, i) ↦ rw (
        append_assoc,
        form-again (c ++ x) h f (narrowed t (λ p. p.0) (λ n d l. l.0)),
        form-again x g i (narrowed t (λ p. p.1) (λ n d l. l.1)),
        bind-then,
        bind-then,
      ) refl
      | inr (e, f, is) ↦ rw (append_assoc, form-again (c ++ x) h f (narrowed t (λ p. p.0) (λ n d l. l.0)), is) refl
    ]
    form-again x (sorted-map-form left order s s2 es b k le up h) u t =
        let kept = ascending-kept order es up in
        rw (
          append_assoc,
          length-again (length es) (b ++ x) le,
          entries-again x h u (narrowed t (λ p. p.0) (λ n d l. l.0))
              (narrowed t (λ p. p.1) (λ n d l. l.1)),
          bind-then,
          kept,
        ) refl
    form-again x (placed-map-form left s s2 es b k le up h) u t =
        let kept = put_on put_placed (λ e f. same_key e.0 f.0 ≡ false) (λ e. refl) (λ f e acc r. rw r refl) [] es up in
        rw (
          append_assoc,
          length-again (length es) (b ++ x) le,
          entries-again x h u (narrowed t (λ p. p.0) (λ n d l. l.0))
              (narrowed t (λ p. p.1) (λ n d l. l.1)),
          bind-then,
          kept,
        ) refl
    form-again x (hash-map-form left s s2 es b k le up h) u t =
        rw (
          append_assoc,
          length-again (length es) (b ++ x) le,
          entries-again x h u (narrowed t (λ p. p.0) (λ n d l. l.0))
              (narrowed t (λ p. p.1) (λ n d l. l.1)),
          bind-then,
        ) refl
    form-again x (sorted-set-form left order s ms b k le up h) u t =
        let kept = put_on (put_sorted_item order) (λ m n. ordered order m n ≡ Ordering.Greater) (λ m. refl) (λ n m acc r. rw r refl) [] ms up in
        rw (append_assoc, length-again (length ms) (b ++ x) le, forms-again x h u (narrowed t (λ p. p) (λ n d l. l)), bind-then, kept) refl
    form-again x (placed-set-form left s ms b k le up h) u t =
        let kept = put_on put_placed_item (λ m n. same_key m n ≡ false) (λ m. refl) (λ n m acc r. rw r refl) [] ms up in
        rw (append_assoc, length-again (length ms) (b ++ x) le, forms-again x h u (narrowed t (λ p. p) (λ n d l. l)), bind-then, kept) refl
    form-again x (static-form left registry i m lt e) u t = rw (none-left u, unsigned-again w32 i x lt, e) refl
    form-again x (tagged-form left written known body tag m b k utf8 le f) u t = elim ((here t).0 tag) [
      | inl h ↦ absurd (no_case-form f h)
      | inr h ↦ rw (
        append_assoc,
        text-again tag (b ++ x) utf8 le,
        h.0,
        h.1,
        form-again x f u (narrowed t (λ p. subst IsReadable h.1 (p.1 tag h.0)) (λ n d l. l.0 tag)),
        bind-then,
      ) refl
    ]
    form-again x (case-form left w known part n m b k lt is f) u t =
        rw (append_assoc, unsigned-again w n (b ++ x) lt, is, form-again x f u (narrowed t (λ p. p n is) (λ nodes d l. l n is)), bind-then) refl
    form-again x (reference-form left kind a e) (one-looked a2 r b k c is h) t = rw (← e, is, none-left h) refl
    form-again x (reference-form left kind a e) (not-looked a2 r b k d is) t = rw (← e, is) refl
    form-again x (nested-form left less n m b k e h) u t = rw (e, form-again x h u (part_of t)) refl
    form-again x (json-flag-form left b) u t = rw (none-left u, bool-again b x) refl
    form-again x (json-number-form left z h) u t = rw (none-left u, signed-again w64 z x h) refl
    form-again x (json-text-form left b h le) u t = rw (none-left u, text-again b x h le) refl
    form-again x (json-array-form left less ms b k e le h) u t = rw (
      e,
      append_assoc,
      length-again (length ms) (b ++ x) le,
      forms-again x h u (alone (λ n d. tt) tt),
      bind-then,
    ) refl
    form-again x (json-object-form left less es b k e le up h) u t =
        rw (
          e,
          append_assoc,
          length-again (length es) (b ++ x) le,
          entries-again x h u (alone (λ n d. tt) tt) (alone (λ n d. tt) tt),
          bind-then,
          ascending-kept text_order es up,
        ) refl
    form-again x _ u t = rw (none-left u) refl

    forms-again : (x : List ℕ) {r : List A} {c : Result (List A) Error} {left : ℕ} {s : Shape} {ms : List (Meaning B)} {b : List ℕ} {k : List B}
        → Forms B kind_of parts left s ms b k
        → Looked look kind_of r k c → Throughout IsReadable parts s → items (read_at look parts left s) (length ms) (rest (b ++ x) r)
        ≡ (c >>= λ y. Ok (ms, rest x y))
    forms-again x (no-forms left s) u t = rw (none-left u) refl
    forms-again x (more-forms left s m ms b c k l h g) u t = elim (split k l u) [
      | inl (y, f, i) ↦ rw (append_assoc, form-again (c ++ x) h f t, forms-again x g i t, bind-then) refl
      | inr (e, f, is) ↦ rw (append_assoc, form-again (c ++ x) h f t, is) refl
    ]

    entries-again : (x : List ℕ) {r : List A} {c : Result (List A) Error} {left : ℕ} {s s2 : Shape} {es : List (Entry B)} {b : List ℕ} {k : List B}
        → Entries B kind_of parts left s s2 es b k
        → Looked look kind_of r k c → Throughout IsReadable parts s → Throughout IsReadable parts s2
        → items (two (read_at look parts left s) (read_at look parts left s2)) (length es) (rest (b ++ x) r) ≡ (c >>= λ y. Ok (es, rest x y))
    entries-again x (no-entries left s s2) u t v = rw (none-left u) refl
    entries-again x (more-entries left s s2 m n es b c d j k l h g f) u t v = elim (split j (k ++ l) u) [
      | inr (e, i, is) ↦ rw (append_assoc, form-again ((c ++ d) ++ x) h i t, is) refl
      | inl (y, i, q) ↦ elim (split k l q) [
        | inr (e, o, is) ↦ rw (append_assoc, append_assoc, form-again (c ++ (d ++ x)) h i t, form-again (d ++ x) g o v, is) refl
        | inl (z, o, w) ↦ rw (append_assoc, append_assoc, form-again (c ++ (d ++ x)) h i t, form-again (d ++ x) g o v, entries-again x f w t v, bind-then) refl
      ]
    ]

pub read_again : {A B : Type 0} (parts : ℕ → Shape) (s : Shape) → Throughout IsReadable parts s → FormIsReadBack A B parts s
unfolding read
read_again parts s t levels look kind_of m b x k r y u f = form-again x f (looked-by y u) t

-- ---- no form of one meaning begins a form of another

-- each reference stands for itself
pub looks-itself : {A : Type 0} {look : Look A A} {kind_of : A → ℕ} → ((a : A) → look (kind_of a) a ≡ Ok a) → (k : List A) → LooksUp look kind_of k k
looks-itself same [] = no-references
looks-itself same (a ∷ k) = more-references a k a k (same a) (looks-itself same k)

pub prefix_free : {A : Type 0} (parts : ℕ → Shape) (s : Shape) → Throughout IsReadable parts s → IsPrefixFree A parts s
prefix_free {A} parts s t kind_of left m n b c x y k l u v f g e h =
    let first = form-again x f (looked-by u (looks-itself {look = λ kind a. Ok a} (λ a. refl) k)) t in
    let second = form-again y g (looked-by v (looks-itself {look = λ kind a. Ok a} (λ a. refl) l)) t in
    let both : (m, rest x u) ≡ (n, rest y v) = cc in
    let same_bytes : x ≡ y = ap (λ (p : Meaning A × Rest A). p.1.bytes) both in
    let same_refs : u ≡ v = ap (λ (p : Meaning A × Rest A). p.1.refs) both in (
      ap (λ (p : Meaning A × Rest A). p.0) both,
      append_cancel_right b c y (rw (← same_bytes) (rw (← same_bytes) at e)),
      append_cancel_right k l v (rw (← same_refs) (rw (← same_refs) at h)),
    )

-- ---- a meaning of a canonical shape has at most one form

-- parts that are the same, one after the other
joined : {A : Type 0} {a b c d : List ℕ} {j k l i : List A} → (a ≡ b) × (j ≡ k) → (c ≡ d) × (l ≡ i) → (a ++ c ≡ b ++ d) × (j ++ l ≡ k ++ i)
joined h g = (rw (h.0, g.0) refl, rw (h.1, g.1) refl)

behind : {A : Type 0} (t : ℕ) {b c : List ℕ} {k l : List A} → (b ≡ c) × (k ≡ l) → (t ∷ b ≡ t ∷ c) × (k ≡ l)
behind t h = (rw h.0 refl, h.1)

sized : {A : Type 0} {m n : ℕ} {b c : List ℕ} {k l : List A} → (b ≡ c) × (k ≡ l) × (m ≡ n) → (length_form m ++ b ≡ length_form n ++ c) × (k ≡ l)
sized h = (rw (h.0, h.2) refl, h.1)

module _ {A : Type 0} {kind_of : A → ℕ} {parts : ℕ → Shape} where
  mutual
    unfolding IsCanonical LiesIn

    pub one-form : {left left2 : ℕ} {s : Shape} {m n : Meaning A} {b c : List ℕ} {k l : List A} → Form A kind_of parts left s m b k
        → Form A kind_of parts left2 s n c l
        → Throughout IsCanonical parts s → m ≡ n → (b ≡ c) × (k ≡ l)
    one-form (some-form left s m b k h) (some-form left2 s2 m2 b2 k2 h2) r e =
        behind 1 (one-form h h2 (narrowed r (λ p. p) (λ n d l. l)) cc)
    one-form (err-form left s t m b k h) (err-form left2 s2 t2 m2 b2 k2 h2) r e =
        behind 0 (one-form h h2 (narrowed r (λ p. p.1) (λ n d l. l.1)) cc)
    one-form (ok-form left s t m b k h) (ok-form left2 s2 t2 m2 b2 k2 h2) r e =
        behind 1 (one-form h h2 (narrowed r (λ p. p.0) (λ n d l. l.0)) cc)
    one-form (list-form left s ms b k le h) (list-form left2 s2 ms2 b2 k2 le2 h2) r e = sized (one-forms h h2 (narrowed r (λ p. p) (λ n d l. l)) e)
    one-form (run-form left s ms b k le h) (run-form left2 s2 ms2 b2 k2 le2 h2) r e = let o = one-forms h h2 (narrowed r (λ p. p) (λ n d l. l)) e in (o.0, o.1)
    one-form (array-form left n s ms b k q h) (array-form left2 n2 s2 ms2 b2 k2 q2 h2) r e = let o =
        one-forms h h2 (narrowed r (λ p. p) (λ n d l. l)) e in (o.0, o.1)
    one-form (both-form left s t m n b c k l h g) (both-form left2 s2 t2 m2 n2 b2 c2 k2 l2 h2 g2) r e =
        joined (one-form h h2 (narrowed r (λ p. p.0) (λ n d l. l.0)) cc) (one-form g g2 (narrowed r (λ p. p.1) (λ n d l. l.1)) cc)
    one-form (sorted-map-form left o s t es b k le up h) (sorted-map-form left2 o2 s2 t2 es2 b2 k2 le2 up2 h2) r e =
        sized (one-entries h h2 (narrowed r (λ p. p.0) (λ n d l. l.0)) (narrowed r (λ p. p.1) (λ n d l. l.1)) e)
    one-form (placed-map-form left s t es b k le up h) (placed-map-form left2 s2 t2 es2 b2 k2 le2 up2 h2) r e =
        sized (one-entries h h2 (narrowed r (λ p. p.0) (λ n d l. l.0)) (narrowed r (λ p. p.1) (λ n d l. l.1)) e)
    one-form (sorted-set-form left o s ms b k le up h) (sorted-set-form left2 o2 s2 ms2 b2 k2 le2 up2 h2) r e =
        sized (one-forms h h2 (narrowed r (λ p. p) (λ n d l. l)) e)
    one-form (placed-set-form left s ms b k le up h) (placed-set-form left2 s2 ms2 b2 k2 le2 up2 h2) r e =
        sized (one-forms h h2 (narrowed r (λ p. p) (λ n d l. l)) e)
    one-form (tagged-form left written known body tag m b k u h f) (tagged-form left2 written2 known2 body2 tag2 m2 b2 k2 u2 h2 f2) r e =
        let tags : tag ≡ tag2 = cc in
        let f3 = let P : List ℕ → Type 0 = λ t. Form A kind_of parts left2 (written t) m2 b2 k2 in subst P (sym tags) f2 in
        let rest = one-form f f3 (narrowed r (λ p. p.0 tag) (λ n d l. l.0 tag)) cc in (rw (tags, rest.0) refl, rest.1)
    one-form (case-form left w known part n m b k lt is f) (case-form left2 w2 known2 part2 n2 m2 b2 k2 lt2 is2 f2) r e =
        let cases : n ≡ n2 = cc in
        let f3 = let P : ℕ → Type 0 = λ x. Form A kind_of parts left2 (part x) m2 b2 k2 in subst P (sym cases) f2 in
        let rest = one-form f f3 (narrowed r (λ p. p n is) (λ nodes d l. l n is)) cc in
        (rw (cases, rest.0) refl, rest.1)
    one-form (reference-form left kind a q) (reference-form left2 kind2 a2 q2) r e = let same : a ≡ a2 = cc in (refl, ap (λ (x : A). x ∷ []) same)
    one-form (nested-form left less n m b k p h) (nested-form left2 less2 n2 m2 b2 k2 p2 h2) r e = one-form h h2 (part_of r) e
    one-form (json-array-form left less ms b k p le h) (json-array-form left2 less2 ms2 b2 k2 p2 le2 h2) r e =
        behind 4 (sized (one-forms h h2 (alone (λ n d. tt) tt) cc))
    one-form (json-object-form left less es b k p le up h) (json-object-form left2 less2 es2 b2 k2 p2 le2 up2 h2) r e =
        behind 5 (sized (one-entries h h2 (alone (λ n d. tt) tt) (alone (λ n d. tt) tt) cc))
    one-form x0 (nothing-form left) r e = grind basics
    one-form x0 x1 r e = grind (basics, here)

    one-forms : {left left2 : ℕ} {s : Shape} {ms ns : List (Meaning A)} {b c : List ℕ} {k l : List A} → Forms A kind_of parts left s ms b k
        → Forms A kind_of parts left2 s ns c l
        → Throughout IsCanonical parts s → sequence ms ≡ sequence ns → (b ≡ c) × (k ≡ l) × (length ms ≡ length ns)
    one-forms (no-forms left s) (no-forms left2 s2) r e = (refl, refl, refl)
    one-forms (more-forms left s m ms b c k l h g) (more-forms left2 s2 m2 ms2 b2 c2 k2 l2 h2 g2) r e =
        let o = one-form h h2 r cc in let p = one-forms g g2 r cc in
        (rw (o.0, p.0) refl, rw (o.1, p.1) refl, ap suc p.2)
    one-forms f g r e = absurd cc

    one-entries : {left left2 : ℕ} {s t : Shape} {es fs : List (Entry A)} {b c : List ℕ} {k l : List A} → Entries A kind_of parts left s t es b k
        → Entries A kind_of parts left2 s t fs c l
        → Throughout IsCanonical parts s → Throughout IsCanonical parts t → of_entries es ≡ of_entries fs → (b ≡ c) × (k ≡ l) × (length es ≡ length fs)
    one-entries (no-entries left s t) (no-entries left2 s2 t2) r q e = (refl, refl, refl)
    one-entries (more-entries left s t m n es b c d j k l h g f) (more-entries left2 s2 t2 m2 n2 es2 b2 c2 d2 j2 k2 l2 h2 g2 f2) r q e =
        let o = one-form h h2 r cc in let p = one-form g g2 q cc in let i = one-entries f f2 r q cc in
        (rw (o.0, p.0, i.0) refl, rw (o.1, p.1, i.1) refl, ap suc i.2)
    one-entries f g r q e = absurd cc
