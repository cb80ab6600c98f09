-- What values, and their parts one after another, are written and read as: basic values, texts and patterns, what may be absent, successes and failures, tuples and
-- cells. All that a reader and a writer owe, from what those of the bytes or of the parts tell.
use Rattle.pagable_codec.proofs.Writing.{writes_flag, writes_letter, writes_signed, writes_unsigned}
use Rattle.pagable_codec.specs.{
  declared.{deserializer.PagableDeserializer.Ghosts as Deserializers, env.Env.Ghosts as Environments, serializer.PagableSerializer.Ghosts as Serializers},
}
use Rattle.pagable_flavors.specs.Calls.{Appends}
use Rattle.pagable_traits.proofs.Words.{
  Answer,
  ArcRef,
  Bool,
  Context,
  Err,
  Error,
  FormAt,
  Gets,
  GivesSome,
  IfErr,
  Is,
  IsOutOfMemory,
  List,
  MatchesReading,
  Meaning,
  Means,
  MeansOption,
  MeansPair,
  MovesOn,
  Nesting,
  NoForm,
  None,
  Ok,
  OnOk,
  Option,
  Out,
  Read,
  Reads,
  Refused,
  Rest,
  Result,
  Shape,
  SomeMeaning,
  String,
  WritesSome,
  Wrote,
  absent,
  added,
  ap,
  arith,
  bool_at,
  bool_form,
  both,
  both-form,
  bytes_of,
  char_at,
  context_in,
  err-form,
  failure,
  false,
  grows_bytes,
  inr,
  integer,
  length,
  long_or,
  long_or_memory,
  longest,
  means-none,
  means-some,
  memory_or,
  memory_refuses,
  moves_trans,
  nested_in,
  no_own_causes,
  number,
  ok-form,
  optional,
  outcome,
  pair,
  present,
  read,
  read_with,
  refl,
  refused_memory,
  signed,
  signed_at,
  some-form,
  string_bytes,
  success,
  text-form,
  text_form,
  then,
  to_z-of_z,
  true,
  unsigned_at,
  w32,
  w64,
  writes_bytes,
  writes_is,
  ℕ,
  ℤ,
  [],
  ◌*◌,
  ◌++◌,
  ◌+◌,
  ◌^◌,
  ◌∙◌,
  ◌∷◌,
  ◌≡◌,
  ◌≤◌,
}
use Rattle.pagable_traits.specs.Clauses.{value}
use Rattle.pagable_value_spec.specs.{
  BasicValues.{char_form, duration_at, duration_form, length_at, nanos_of_second, text_at},
  CarriedTypes.{nanos_of, of_duration, of_span, seconds_of},
  Composite.{MayHold, MeansOnce},
  Form.{duration-form, none-form, pattern-form},
  Meaning.pattern,
  Numbers.{IsSigned, bound, signed_form, unsigned_form, varint_at},
  Progress.{MovesForward, ReaderState, left},
  Refusals.is_reading_fault,
  Shape.{duration, flag as flag_shape, letter, unsigned},
}
use Rattle.std.proofs.{Common.{FitsSigned, of_z, rules, suc, to_z, zero, ◌/◌, ◌<◌}, lemmas.{Bool.{Decides.nat_tests, le-ltb}, Nat.mod_below}}
use Rattle.std.specs.{Borrow.Bor, Char.IsScalar, Duration.as_nanos, Int.{Width, w8}, Prelude.{option_copied, ◌≢◌}, Str.IsUtf8, declared.time.Duration.Duration}
use Rattle.pagable_value_spec.specs.Meaning as meanings
use Rattle.pagable_value_spec.specs.Shape as shapes

-- ---- results

-- what follows where there is a result, and where there is none
pub ok_along : {X : Type 0} (r : Result X Error) {P Q : Type 0} → OnOk r P → (P → Q) → OnOk r Q
ok_along (Ok x) h f = f h
ok_along (Err e) h f = tt

pub err_along : {X : Type 0} (r : Result X Error) {P Q : Error → Type 0} → IfErr r P → ((e : Error) → P e → Q e) → IfErr r Q
err_along (Ok x) h f = tt
err_along (Err e) h f = f e h

pub some_along : {P Q : Meaning ArcRef → Type 0} (n : Nesting) (s : Shape) (old new : Out) → WritesSome P n s old new → ((m : Meaning ArcRef) → P m → Q m)
    → WritesSome Q n s old new
some_along n s old new w f = record { m = w.m; is = f w.m w.is; wrote = w.wrote }

pub refused_along : {P Q : Meaning ArcRef → Type 0} (n : Nesting) (s : Shape) (e : Error) → Refused P n s e → ((m : Meaning ArcRef) → P m → Q m)
    → Refused Q n s e
refused_along n s e h f = λ fault. let no = h fault in record { m = no.m; is = f no.m no.is; no_form = no.no_form }

-- ---- causes

-- of what has a length and parts
pub only-part : (part : Error → Type 0) (e : Error) → part e → long_or (memory_or part) e
only-part part e h = inr (inr h)

pub only_parts : {X : Type 0} (r : Result X Error) (part : Error → Type 0) → IfErr r part → IfErr r (long_or (memory_or part))
only_parts r part h = err_along r h (only-part part)

pub only-count : (len : ℕ) (part : Error → Type 0) (e : Error) → long_or_memory len e → long_or (memory_or part) e
only-count len part e h = grind arith

-- ---- a value that may be absent

pub writes_absent : {T : Type 0} (M : Means T) (n : Nesting) (s : Shape) (old new : Out) → new ≡ added old (bool_form false) []
    → WritesSome (MeansOption M None) n (optional s) old new
writes_absent M n s old new e = record { m = absent; is = means-none; wrote = record { bytes = 0 ∷ []; refs = []; form = none-form _ s; grown = e } }

-- ---- a value of one part, after some bytes

module _ (n inner : Nesting) (whole : Meaning ArcRef → Meaning ArcRef) (s t : Shape) (M N : Meaning ArcRef → Type 0)
    (is : (m : Meaning ArcRef) → M m → N (whole m)) where
  pub writes_whole : (first : List ℕ) (old mid new : Out) → ((m : Meaning ArcRef) (b : List ℕ) (k : List ArcRef) → FormAt inner s m b k
      → FormAt n t (whole m) (first ++ b) k)
      → mid ≡ added old first [] → WritesSome M inner s mid new → WritesSome N n t old new
  writes_whole first old mid new up e w = record {
    m = whole w.m;
    is = is w.m w.is;
    wrote = record { bytes = first ++ w.wrote.bytes; refs = w.wrote.refs; form = up _ _ _ w.wrote.form; grown = then old mid new _ _ _ _ e w.wrote.grown };
  }

  pub refuses_whole : (e : Error) → ((m : Meaning ArcRef) → NoForm inner s m → NoForm n t (whole m)) → Refused M inner s e → Refused N n t e
  refuses_whole e lack h = λ fault. let no = h fault in record { m = whole no.m; is = is no.m no.is; no_form = lack no.m no.no_form }

-- ---- two values, one after the other

no-first : (n : Nesting) (s t : Shape) (x y : Meaning ArcRef) → NoForm n s x → NoForm n (both s t) (pair x y)
no-first n s t x y h b k (both-form l s' t' x' y' c d j i f g) = h c j f

no-second : (n : Nesting) (s t : Shape) (x y : Meaning ArcRef) → NoForm n t y → NoForm n (both s t) (pair x y)
no-second n s t x y h b k (both-form l s' t' x' y' c d j i f g) = h d i g

module _ {A B : Type 0} (M : Means A) (N : Means B) where
  pub writes_pair : (p : A × B) (n : Nesting) (s t : Shape) (old mid new : Out)
      → WritesSome (M p.0) n s old mid → WritesSome (N p.1) n t mid new → WritesSome (MeansPair M N p) n (both s t) old new
  writes_pair p n s t old mid new v w = record {
    m = pair v.m w.m;
    is = record { first = v.m; second = w.m; is_first = v.is; is_second = w.is; is = refl };
    wrote = record {
      bytes = v.wrote.bytes ++ w.wrote.bytes;
      refs = v.wrote.refs ++ w.wrote.refs;
      form = both-form _ s t v.m w.m _ _ _ _ v.wrote.form w.wrote.form;
      grown = then old mid new _ _ _ _ v.wrote.grown w.wrote.grown;
    };
  }

  pub refuses_first : (has : (y : B) → SomeMeaning (N y)) (p : A × B) (n : Nesting) (s t : Shape) (e : Error) → Refused (M p.0) n s e
      → Refused (MeansPair M N p) n (both s t) e
  refuses_first has p n s t e h = λ fault.
      let no = h fault in
      let other = has p.1 in
      record {
        m = pair no.m other.0;
        is = record { first = no.m; second = other.0; is_first = no.is; is_second = other.1; is = refl };
        no_form = no-first n s t no.m other.0 no.no_form;
      }

  pub refuses_second : (has : (x : A) → SomeMeaning (M x)) (p : A × B) (n : Nesting) (s t : Shape) (e : Error) → Refused (N p.1) n t e
      → Refused (MeansPair M N p) n (both s t) e
  refuses_second has p n s t e h = λ fault.
      let no = h fault in
      let other = has p.0 in
      record {
        m = pair other.0 no.m;
        is = record { first = other.0; second = no.m; is_first = other.1; is_second = no.is; is = refl };
        no_form = no-second n s t other.0 no.m no.no_form;
      }

-- ---- a text that is lent

pub writes_str : {Y : Type 0} (r : Result Y Error) (t : List ℕ) (n : Nesting) (old last : Out) (now w : List ℕ) → now ≡ old.bytes → last
    ≡ record old { bytes = w } → IsUtf8 t → OnOk r (length t ≤ longest) → OnOk r (w ≡ now ++ text_form t)
    → OnOk r (WritesSome (Is meanings.text t) n shapes.text old last)
writes_str (Ok y) t n old last now w e f utf8 short h = rw f (writes_is meanings.text t n shapes.text old _
    (writes_bytes n shapes.text (meanings.text t) old w (text_form t) (h ∙ ap (λ (b : List ℕ). b ++ text_form t) e) (text-form _ t utf8 short)))
writes_str (Err y) t n old last now w e f utf8 short h = tt

-- ---- a flag and the part after it

pub no-some : (n : Nesting) (s : Shape) (m : Meaning ArcRef) → NoForm n s m → NoForm n (optional s) (present m)
no-some n s m h b k (some-form l s' m' c k' f) = h c k' f

pub no-success : (n : Nesting) (s t : Shape) (m : Meaning ArcRef) → NoForm n s m → NoForm n (outcome s t) (success m)
no-success n s t m h b k (ok-form l s' t' m' c k' f) = h c k' f

pub no-failure : (n : Nesting) (s t : Shape) (m : Meaning ArcRef) → NoForm n t m → NoForm n (outcome s t) (failure m)
no-failure n s t m h b k (err-form l s' t' m' c k' f) = h c k' f

-- ---- tuples

-- what one thing means, another means too
pub pair_along : {A B C D : Type 0} (M : Means A) (N : Means B) (M' : Means C)
    (N' : Means D) (p : A × B) (q : C × D)
    → ((m : Meaning ArcRef) → M p.0 m → M' q.0 m) → ((m : Meaning ArcRef) → N p.1 m → N' q.1 m) → (m : Meaning ArcRef) → MeansPair M N p m → MeansPair M' N' q m
pair_along M N M' N' p q f g m h = record { first = h.first; second = h.second; is_first = f h.first h.is_first; is_second = g h.second h.is_second; is = h.is }

-- ---- cells: what is written of what one was seen to hold is written of the cell, whatever else it may hold

-- what lent values mean, they mean themselves
held-values : {T : Type 0} (M : Means T) (held : Option (Bor T)) (m : Meaning ArcRef) → MeansOption (λ x. M x.now) held m
    → MeansOption M (option_copied held) m
held-values M _ _ means-none = means-none
held-values M _ _ (means-some x m is) = means-some x.now m is

pub held_means : {C T : Type 0} (M : Means T) (cell : C) (held : Option (Bor T)) → MayHold cell (option_copied held) → (m : Meaning ArcRef)
    → MeansOption (λ x. M x.now) held m → MeansOnce M cell m
held_means M cell held may m means = record { held = option_copied held; may = may; means = held-values M held m means }

pub ruleset steps = (ok_along, memory_refuses, refused_memory)

pub ruleset alike = (ok_along, err_along, some_along, refused_along, pair_along)

pub ruleset reads = (means-none, means-some, moves_trans)

-- ---- reading

pub gives_bytes : {X Y : Type 0} (own : Error → Type 0) (view : X → Y) (meaning : Y → Meaning ArcRef) (at : List ℕ → Read Y) (r : Result X Error)
    (rest : Rest Answer) (after : List ℕ) → MatchesReading own (λ x. (view x, after)) r (at rest.bytes)
    → GivesSome own (Is (λ x. meaning (view x))) (record rest { bytes = after }) r (bytes_of at meaning rest)
gives_bytes own view meaning at r rest after h = grind arith

-- by what a deserializer says of itself with another reader
module _ (context : Context Answer ArcRef) (rest last : Rest Answer) (given used : ReaderState) (same : rest.bytes ≡ left given)
    (moved : last ≡ record rest { bytes = left used }) where
  read_as : {X Y : Type 0} (own : Error → Type 0) (view : X → Y) (meaning : Y → Meaning ArcRef) (at : List ℕ → Read Y) (r : Result X Error)
      → MatchesReading own (λ x. (view x, left used)) r (at (left given))
      → GivesSome own (Is (λ x. meaning (view x))) last r (bytes_of at meaning rest)
  read_as own view meaning at r told = rw moved (gives_bytes own view meaning at r rest (left used) (rw same told))

  pub reads_unsigned : (w : Width) (r : Result ℕ Error) → MatchesReading no_own_causes (λ n. (n, left used)) r (unsigned_at w (left given))
      → GivesSome no_own_causes (Is number) last r (read context (unsigned w) rest)
  unfolding read read_with
  reads_unsigned w r told = read_as no_own_causes (λ n. n) number (unsigned_at w) r told

  pub reads_signed : (w : Width) (r : Result ℤ Error) → MatchesReading no_own_causes (λ z. (z, left used)) r (signed_at w (left given))
      → GivesSome no_own_causes (Is integer) last r (read context (signed w) rest)
  unfolding read read_with
  reads_signed w r told = read_as no_own_causes (λ z. z) integer (signed_at w) r told

  pub reads_flag : (r : Result Bool Error) → MatchesReading no_own_causes (λ b. (b, left used)) r (bool_at (left given))
      → GivesSome no_own_causes (Is meanings.flag) last r (read context flag_shape rest)
  unfolding read read_with
  reads_flag r told = read_as no_own_causes (λ b. b) meanings.flag bool_at r told

  pub reads_letter : (r : Result ℕ Error) → MatchesReading no_own_causes (λ l. (l, left used)) r (char_at (left given))
      → GivesSome no_own_causes (Is number) last r (read context letter rest)
  unfolding read read_with
  reads_letter r told = read_as no_own_causes (λ l. l) number char_at r told

  pub reads_span : (r : Result Duration Error) → MatchesReading no_own_causes (λ d. ((seconds_of d, nanos_of d), left used)) r (duration_at (left given))
      → GivesSome no_own_causes (Is of_span) last r (read context duration rest)
  unfolding read read_with
  reads_span r told = read_as no_own_causes (λ d. (seconds_of d, nanos_of d)) (λ p. of_duration p.0 p.1) duration_at r told

-- ---- writing

wrote_form : {X Y : Type 0} (r : Result Y Error) (n : Nesting) (s : Shape) (meaning : X → Meaning ArcRef) (x : X) (form : List ℕ) (old new : Out)
    (given bytes : List ℕ) → FormAt n s (meaning x) form [] → given ≡ old.bytes → new ≡ record old { bytes = bytes }
    → OnOk r (bytes ≡ given ++ form) → OnOk r (WritesSome (Is meaning x) n s old new)
wrote_form r n s meaning x form old new given bytes is e f h = grind (arith, writes_is, writes_bytes, is)

-- by what a serializer says of itself with other bytes
pub basic_written : {S E N H K V X Y : Type 0} (env : Environments E N H K V) (s : Serializers S E N H K V) (r : Result Y Error) (shape : Shape)
    (meaning : X → Meaning ArcRef) (x : X) (form : List ℕ)
    {old new : S} {given bytes : List ℕ} → FormAt (nested_in env s old) shape (meaning x) form []
    → given ≡ (s.out old).bytes → s.out new ≡ record (s.out old) { bytes = bytes } → s.environment new ≡ s.environment old → s.levels new ≡ s.levels old
    → Appends form r given bytes → Wrote env s (value (Is meaning x) shape) IsOutOfMemory old new r
basic_written env s r shape meaning x form {old} {new} {given} {bytes} is e f same_env same_levels told = record {
  ok = wrote_form r (nested_in env s old) shape meaning x form (s.out old) (s.out new) given bytes is e f told.ok;
  refused = refused_memory r (Is meaning x) (nested_in env s old) shape told.only;
  only = told.only;
  grows = rw f (grows_bytes (s.out old) bytes (rw e at told.grows));
  same_env = same_env;
  same_levels = same_levels;
}

-- what a number's range in Rust is here
is-signed : (w : Width) (z : ℤ) → FitsSigned w z → IsSigned w z
is-signed w8 z h = search rules
is-signed _ z h = search rules

-- the same of each basic value
module _ (n : Nesting) (old new : Out) (given bytes : List ℕ) (same : given ≡ old.bytes) (grown : new ≡ record old { bytes = bytes }) where
  pub wrote_unsigned : (w : Width) (x limit : ℕ) → bytes ≡ given ++ unsigned_form w x → x < limit → limit ≡ bound w
      → WritesSome (Is number x) n (unsigned w) old new
  wrote_unsigned w x limit is lt e = rw grown (writes_unsigned n w x old bytes (rw e at lt) (rw same at is))

  pub wrote_signed : (w : Width) (z : ℤ) → FitsSigned w z → bytes ≡ given ++ signed_form w (to_z w (of_z w z)) → WritesSome (Is integer z) n (signed w) old new
  wrote_signed w z fits is = rw grown (writes_signed n w z old bytes (is-signed w z fits) (rw (to_z-of_z w z fits, same) at is))

  pub wrote_flag : (b : Bool) → bytes ≡ given ++ bool_form b → WritesSome (Is meanings.flag b) n flag_shape old new
  wrote_flag b is = rw grown (writes_flag n b old bytes (rw same at is))

  pub wrote_letter : (c : ℕ) → IsScalar c → bytes ≡ given ++ char_form c → WritesSome (Is number c) n letter old new
  wrote_letter c scalar is = rw grown (writes_letter n c old bytes scalar (rw same at is))

pub ruleset basic = (
  grows_bytes,
  refused_memory,
  reads_unsigned,
  reads_signed,
  reads_flag,
  reads_letter,
  reads_span,
  wrote_unsigned,
  wrote_signed,
  wrote_flag,
  wrote_letter,
)

-- ---- spans of time

pub writes_span : {X : Type 0} (r : Result X Error) (d : Duration) (n : Nesting) (old last : Out) (now w : List ℕ) → now ≡ old.bytes → last
    ≡ record old { bytes = w } → seconds_of d < 2 ^ 64
    → OnOk r (w ≡ now ++ duration_form (seconds_of d) (nanos_of d)) → OnOk r (WritesSome (Is of_span d) n duration old last)
writes_span r d n old last now w e f lt h =
    wrote_form r n duration of_span d (duration_form (seconds_of d) (nanos_of d)) old last now w
    (duration-form _ (seconds_of d) (nanos_of d) lt (mod_below (as_nanos d) nanos_of_second (omega arith))) e f h

pub span_overflows : (bytes mid after : List ℕ) (s n : ℕ) → unsigned_at w64 bytes ≡ Ok (s, mid) → unsigned_at w32 mid ≡ Ok (n, after)
    → 2 ^ 64 ≤ s + n / nanos_of_second → duration_at bytes ≡ Err Error.BadDuration
unfolding duration_at
span_overflows bytes mid after s n g h le = rw (g, h, le-ltb (s + n / nanos_of_second) (2 ^ 64) le) refl

pub span_read : (d : Duration) (bytes mid after : List ℕ) (s n : ℕ) → unsigned_at w64 bytes ≡ Ok (s, mid) → unsigned_at w32 mid ≡ Ok (n, after)
    → s + n / nanos_of_second < 2 ^ 64 → as_nanos d ≡ s * nanos_of_second + n
    → duration_at bytes ≡ Ok ((seconds_of d, nanos_of d), after)
unfolding duration_at
span_read d bytes mid after s n g h lt e = grind arith

-- ---- writing

pub writes_pattern : {Y : Type 0} (r : Result Y Error) (t : List ℕ) (n : Nesting) (old last : Out) (now w : List ℕ) → now ≡ old.bytes → last
    ≡ record old { bytes = w } → IsUtf8 t → OnOk r (length t ≤ longest) → OnOk r (w ≡ now ++ text_form t)
    → OnOk r (WritesSome (Is pattern t) n shapes.pattern old last)
writes_pattern (Ok y) t n old last now w e f utf8 short h = rw f (writes_is pattern t n shapes.pattern old _
    (writes_bytes n shapes.pattern (pattern t) old w (text_form t) (h ∙ ap (λ (b : List ℕ). b ++ text_form t) e) (pattern-form _ t utf8 short)))
writes_pattern (Err y) t n old last now w e f utf8 short h = tt

-- a pattern that is too long has no form
no-pattern : (n : Nesting) (t : List ℕ) → longest < length t → NoForm n shapes.pattern (pattern t)
no-pattern n t lt b k (pattern-form l u v le) = omega (arith, lt, le)

pub refused_pattern : {Y : Type 0} (r : Result Y Error) (t : List ℕ) (n : Nesting) → IfErr r (long_or_memory (length t))
    → IfErr r (Refused (Is pattern t) n shapes.pattern)
refused_pattern r t n h = grind (arith, no-pattern n t, memory_refuses)

-- ---- reading

pub text-read : {D E R N H K V Z : Type 0} (env : Environments E N H K V) (d : Deserializers D E R N H K V) (meaning : List ℕ → Meaning ArcRef)
    (r : Result (String Z) Error) (whole : Context Answer ArcRef → Gets Answer (Meaning ArcRef)) {a b : D} {given used : ReaderState}
    → ((c : Context Answer ArcRef) (rest : Rest Answer) → whole c rest ≡ bytes_of text_at meaning rest) → (d.rest a).bytes ≡ left given → d.rest b
    ≡ record (d.rest a) { bytes = left used } → (MovesForward given used → MovesOn (d.input_state a) (d.input_state b))
    → d.environment b ≡ d.environment a → d.levels b ≡ d.levels a → MatchesReading IsOutOfMemory (λ t. (string_bytes t, left used)) r (text_at (left given))
    → MovesForward given used
    → Reads env d IsOutOfMemory (Is (λ t. meaning (string_bytes t))) whole a b r
text-read env d meaning r whole {a = a} {used = used} same e f moves same_env same_levels told goes = record {
  gives = rw (same (context_in env d a) (d.rest a), f) (gives_bytes IsOutOfMemory string_bytes meaning text_at r (d.rest a) (left used) (rw e told));
  moves = moves goes;
  same_env = same_env;
  same_levels = same_levels;
}

-- ---- the faults of a text are faults of the input

faults-varint : (more last : ℕ) (bytes : List ℕ) (e : Error) → varint_at more last bytes ≡ Err e → is_reading_fault e ≡ true
unfolding varint_at
faults-varint zero last [] e h = grind arith
faults-varint (suc more) last [] e h = grind arith
faults-varint zero last (b ∷ rest) e h = grind arith
faults-varint (suc more) last (b ∷ rest) e h = grind (arith, faults-varint more last rest)

faults-text : (bytes : List ℕ) (e : Error) → text_at bytes ≡ Err e → is_reading_fault e ≡ true
unfolding text_at length_at
faults-text bytes e h = grind (arith, faults-varint)

-- OutOfMemory, or a fault of the input: a text is never refused as a pattern is
pub text_not_refused : {X : Type 0} (view : X → List ℕ × List ℕ) (r : Result X Error) (bytes : List ℕ) → MatchesReading IsOutOfMemory view r (text_at bytes)
    → IfErr r (λ e. e ≢ Error.RegexRefused)
text_not_refused view (Ok x) bytes h = tt
text_not_refused view (Err e) bytes h = λ is. let fault = faults-text bytes e in grind (arith, nat_tests, h, fault, is)
