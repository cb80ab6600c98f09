-- What writing a part adds, and what has no form.
use Rattle.pagable_value_spec.specs.{
  BasicValues.{bool_form, char_form, longest, text_form},
  Cursor.Is,
  Form.{flag-form, letter-form, nothing-form, reference-form, signed-form, text-form, unsigned-form},
  Lengths.long_or_memory,
  Meaning.{Meaning, integer, number},
  Numbers.{IsSigned, bound, signed_form, unsigned_form},
  Outcomes.{Extends, IsOutOfMemory, long_or},
  Refusals.is_writing_fault,
  Shape.{Shape, signed, unsigned},
  Writing.{FormAt, Grows, Nesting, NoForm, Out, Refused, Writes, WritesSome, added, kind_of_arc},
  declared.{error.Error.Error, numbers.ArcRef.ArcRef},
}
use Rattle.std.proofs.{
  Common.{Bool, List, Result, ap, append_assoc, arith, false, length, refl, sym, ℕ, [], ◌++◌, ◌<◌, ◌∙◌, ◌∷◌, ◌≡◌, ◌≤◌},
  lemmas.List.append-nil,
}
use Rattle.std.specs.{Char.IsScalar, Int.Width, Prelude.{IfErr, ℤ}, Str.IsUtf8}
use Rattle.pagable_value_spec.specs.Meaning as meanings
use Rattle.pagable_value_spec.specs.Shape as shapes

pub out_is : (b c : List ℕ) (r s : List ArcRef) → b ≡ c → r ≡ s → (let x : Out = record { bytes = b; refs = r } in x)
    ≡ (let y : Out = record { bytes = c; refs = s } in y)
out_is b c r s e f = rw (e, f) refl

pub grows_bytes : (old : Out) (w : List ℕ) → Extends old.bytes w → Grows old (record old { bytes = w })
grows_bytes old w e = record { bytes = e.0; refs = []; grown = out_is _ _ _ _ e.1 (sym (append-nil old.refs)) }

pub grows_refl : (old : Out) → Grows old old
grows_refl old = record { bytes = []; refs = []; grown = out_is _ _ _ _ (sym (append-nil old.bytes)) (sym (append-nil old.refs)) }

-- two steps are one
pub then : (a b c : Out) (p q : List ℕ) (k l : List ArcRef) → b ≡ added a p k → c ≡ added b q l → c ≡ added a (p ++ q) (k ++ l)
then a b c p q k l e f = f ∙ ap (λ (x : Out). added x q l) e ∙ out_is _ _ _ _ (append_assoc a.bytes p q) (append_assoc a.refs k l)

pub grows_trans : (a b c : Out) → Grows a b → Grows b c → Grows a c
grows_trans a b c g h = record { bytes = g.bytes ++ h.bytes; refs = g.refs ++ h.refs; grown = then a b c _ _ _ _ g.grown h.grown }

pub grows_some : (M : Meaning ArcRef → Type 0) (n : Nesting) (s : Shape) (a b : Out) → WritesSome M n s a b → Grows a b
grows_some M n s a b w = record { bytes = w.wrote.bytes; refs = w.wrote.refs; grown = w.wrote.grown }

-- bytes alone
pub writes_bytes : (n : Nesting) (s : Shape) (m : Meaning ArcRef) (old : Out) (w b : List ℕ) → w ≡ old.bytes ++ b → FormAt n s m b []
    → Writes n s m old (record old { bytes = w })
writes_bytes n s m old w b e f = record { bytes = b; refs = []; form = f; grown = out_is _ _ _ _ e (sym (append-nil old.refs)) }

-- the one meaning of a value
pub writes_is : {X : Type 0} (meaning : X → Meaning ArcRef) (x : X) (n : Nesting) (s : Shape) (old new : Out) → Writes n s (meaning x) old new
    → WritesSome (Is meaning x) n s old new
writes_is meaning x n s old new w = record { m = meaning x; is = refl; wrote = w }

pub writes_unsigned : (n : Nesting) (w : Width) (x : ℕ) (old : Out) (bytes : List ℕ) → x < bound w → bytes ≡ old.bytes ++ unsigned_form w x
    → WritesSome (Is number x) n (unsigned w) old (record old { bytes = bytes })
writes_unsigned n w x old bytes lt e = writes_is number x n (unsigned w) old _
    (writes_bytes n (unsigned w) (number x) old bytes (unsigned_form w x) e (unsigned-form _ w x lt))

pub writes_signed : (n : Nesting) (w : Width) (x : ℤ) (old : Out) (bytes : List ℕ) → IsSigned w x → bytes ≡ old.bytes ++ signed_form w x
    → WritesSome (Is integer x) n (signed w) old (record old { bytes = bytes })
writes_signed n w x old bytes within e = writes_is integer x n (signed w) old _
    (writes_bytes n (signed w) (integer x) old bytes (signed_form w x) e (signed-form _ w x within))

pub writes_flag : (n : Nesting) (b : Bool) (old : Out) (bytes : List ℕ) → bytes ≡ old.bytes ++ bool_form b
    → WritesSome (Is meanings.flag b) n shapes.flag old (record old { bytes = bytes })
writes_flag n b old bytes e = writes_is meanings.flag b n shapes.flag old _
    (writes_bytes n shapes.flag (meanings.flag b) old bytes (bool_form b) e (flag-form _ b))

pub writes_letter : (n : Nesting) (c : ℕ) (old : Out) (bytes : List ℕ) → IsScalar c → bytes ≡ old.bytes ++ char_form c
    → WritesSome (Is number c) n shapes.letter old (record old { bytes = bytes })
writes_letter n c old bytes scalar e = writes_is number c n shapes.letter old _
    (writes_bytes n shapes.letter (number c) old bytes (char_form c) e (letter-form _ c scalar))

pub writes_nothing : (n : Nesting) (old : Out) → WritesSome (λ m. m ≡ meanings.none) n shapes.nothing old old
writes_nothing n old = record {
  m = meanings.none;
  is = refl;
  wrote = record {
    bytes = [];
    refs = [];
    form = nothing-form _;
    grown = out_is _ _ _ _ (sym (append-nil old.bytes)) (sym (append-nil old.refs));
  };
}

-- ---- refusals

pub memory_refuses : (e : Error) (M : Meaning ArcRef → Type 0) (n : Nesting) (s : Shape) → IsOutOfMemory e → Refused M n s e
memory_refuses e M n s h = λ fault. let none : is_writing_fault e ≡ false = rw h refl in absurd cc

-- OutOfMemory says nothing of the value
pub refused_memory : {X : Type 0} (r : Result X Error) (M : Meaning ArcRef → Type 0) (n : Nesting) (s : Shape) → IfErr r IsOutOfMemory → IfErr r (Refused M n s)
refused_memory r M n s h = grind (arith, memory_refuses)

-- ---- texts

-- the text that a value means
pub writes_text : {X : Type 0} (meaning : X → Meaning ArcRef) (x : X) (n : Nesting) (t : List ℕ) (old : Out) (bytes : List ℕ) → bytes ≡ old.bytes ++ text_form t
    → meaning x ≡ meanings.text t → IsUtf8 t → length t ≤ longest
    → WritesSome (Is meaning x) n shapes.text old (record old { bytes = bytes })
writes_text meaning x n t old bytes e is u le = record {
  m = meaning x;
  is = refl;
  wrote = rw is (writes_bytes n shapes.text (meanings.text t) old bytes (text_form t) e (text-form _ t u le));
}

-- a text that is too long has no form
pub no_text : (n : Nesting) (t : List ℕ) → longest < length t → NoForm n shapes.text (meanings.text t)
no_text n t lt b k (text-form l u v le) = omega (arith, lt, le)

pub refused_text : {X Y : Type 0} (r : Result Y Error) (meaning : X → Meaning ArcRef) (x : X) (n : Nesting) (t : List ℕ) → meaning x ≡ meanings.text t
    → IfErr r (long_or_memory (length t)) → IfErr r (Refused (Is meaning x) n shapes.text)
refused_text r meaning x n t is h = grind (arith, no_text n t, memory_refuses)

pub only_long : {Y : Type 0} (r : Result Y Error) (len : ℕ) → IfErr r (long_or_memory len) → IfErr r (long_or IsOutOfMemory)
only_long r len h = grind arith

pub ruleset parts = (
  grows_bytes,
  grows_refl,
  grows_trans,
  grows_some,
  writes_is,
  writes_unsigned,
  writes_signed,
  writes_flag,
  writes_letter,
  writes_text,
  refused_memory,
  refused_text,
  only_long,
)

-- a reference alone
pub writes_reference : {X : Type 0} (meaning : X → Meaning ArcRef) (x : X) (n : Nesting) (kind : ℕ) (r : ArcRef) (old new : Out) → new ≡ added old [] (r ∷ [])
    → meaning x ≡ meanings.reference r → kind_of_arc r ≡ kind → WritesSome (Is meaning x) n (shapes.reference kind) old new
writes_reference meaning x n kind r old new e is k = record {
  m = meaning x;
  is = refl;
  wrote = rw is (record { bytes = []; refs = r ∷ []; form = reference-form _ kind r k; grown = e });
}

pub grows_added : (old new : Out) (bytes : List ℕ) (refs : List ArcRef) → new ≡ added old bytes refs → Grows old new
grows_added old new bytes refs e = record { bytes = bytes; refs = refs; grown = e }

pub grows_same : (old new : Out) → new ≡ old → Grows old new
grows_same old new e = rw e (grows_refl old)

pub ruleset references = (writes_reference, grows_added, grows_same)

-- what writing basic types adds to what was written
pub added_bytes : (old : Out) (w b : List ℕ) → w ≡ old.bytes ++ b → (let new : Out = record old { bytes = w } in new) ≡ added old b []
added_bytes old w b e = out_is _ _ _ _ e (sym (append-nil old.refs))

pub ruleset steps = (added_bytes, grows_added)
