-- Reading gives the same whatever stands for references: two readers with related inputs give related meanings. And for readers whose faults stay whatever
-- follows: what is read from a front is read from the whole, and the part that was used reads alone.
use Rattle.pagable_theorems.proofs.{
  RoundTrip.{Under, alone, here, narrowed, part_of},
  Trees.{AllTwo, Along, EntryAlong, entries-two, flag-same, followed-along, form-along, integer-along, lifted-along, more-two, no-two, none-along},
  Trees.{number-along, one-two, pair-along, pattern-along, plain-along, put_all-two, reference-along, sequence-two, sorted-two, text-along, variant-along},
  Words.{Bool, Err, Error, Form, IsReadable, LiesIn, List, Meaning, None, Ok, Option, Result, Shape, Some, Throughout, ap, append-nil, append_assoc, basics},
  Words.{cases_Bool, cases_lt, drop, followed, if◌then◌else◌, inl, inr, length, length-append, map, none, pair, put_all, read, refl, rename, rest, rules},
  Words.{subst, suc, sym, true, variant, zero, ℕ, [], ◌*◌, ◌++◌, ◌+◌, ◌==◌, ◌∙◌, ◌∷◌, ◌≡◌, ◌≤◌, ◌⊎◌},
}
use Rattle.pagable_theorems.specs.{
  FormLaws.{FaultStays, FrontReadsAlike, KeepsForms, ReadsAlikeForAnyReferences, ReadsWhatOtherReads, RenamesLookUps, ReplacesBeforeLookUp, UsedPartReadsAlone},
  FormLaws.{at, with_more},
}
use Rattle.pagable_value_spec.specs.{
  BasicValues.{bool_at, bytes_at, carried, char_at, duration_at, length_at, longest, nanos_of_second, text_at},
  Canonical.HasNoReference,
  CarriedTypes.{of_entries, of_hash_map, of_tagged},
  Keys.{code_order, put_placed_item, put_sorted, put_sorted_item, text_order},
  Meaning.{absent, entry, failure, lifted, present, sequence, success},
  Numbers.{Read, byte_at, last_of, more_of, signed_at, signed_from, unsigned_at, varint_at},
  ReadSteps.◌>>=◌,
  Reading.{Context, Deeper, Gets, JsonCase, Look, Rest, array_case, below, bytes_of, choose, counted, deepest, enter, flag_case, items, json_case, json_part},
  Reading.{null_case, number_case, object_case, read_typed, read_with, reference_at, registered, seen, text_case, two},
  Shape.{array, both, cases, duration, flag, hash_map, json, letter, list, nested, nothing, optional, outcome, placed_map, placed_set, run, signed, sorted_map},
  Shape.{sorted_set, static_value, tagged, unsigned},
}
use Rattle.std.proofs.{
  Common.{get_or, take, ◌%◌, ◌-◌, ◌/◌, ◌^◌},
  lemmas.{Bool.{le-ltb, lt-ltb}, List.{drop_at, length-take-le, map-id, take-append-drop, take_at}},
}
use Rattle.std.specs.{Int.{Width, w32, w64, w8}, List.AllByRecursion, Prelude.{IfErr, nat_le, nat_lt}, Str.{chars, is_utf8}}
use Rattle.pagable_value_spec.specs.Meaning as meanings
use Rattle.pagable_value_spec.specs.Shape as shapes

-- a front of i was read as v, and is read so whatever follows it
pub record Front {I A : Type 0} (plus : I → I → I) (get : I → Result (A × I) Error) (i : I) (v : A) (after : I) : Type 0 where
  pub used : I
  pub whole : i ≡ plus used after
  pub reads : (y : I) → get (plus used y) ≡ Ok (v, y)

-- refusals that a reading has of its input: not the one by which a reference is asked for, nor what a storage or a writer says; and all
abbrev pub Sober : Error → Type 0
Sober (Error.Storage kind) = ⊥
Sober (Error.NoData key) = ⊥
Sober Error.Unregistered = ⊥
Sober Error.KeyTaken = ⊥
Sober Error.Closed = ⊥
Sober e = Unit {0}

abbrev pub Any : Error → Type 0
Any e = Unit {0}

-- what comes of i where it is read with this result: a front was read, or what refuses it, one of K, does so whatever follows, unless it is that the input ends
abbrev pub Comes : {I A : Type 0} → (I → I → I) → (Error → Type 0) → (I → Result (A × I) Error) → I → Result (A × I) Error → Type 0
Comes plus K get i (Ok p) = Front plus get i p.0 p.1
Comes {I} plus K get i (Err e) = K e × (((e ≡ Error.UnexpectedEnd) ⊎ (e ≡ Error.NoMoreKeys)) ⊎ ((x : I) → get (plus i x) ≡ Err e))

-- a reader of which this holds, of inputs that plus joins
pub record Tame {I A : Type 0} (plus : I → I → I) (K : Error → Type 0) (get : I → Result (A × I) Error) : Type 0 where
  pub comes : (i : I) → Comes plus K get i (get i)

-- inputs that are joined
pub record Joins {I : Type 0} (plus : I → I → I) (end : I) : Type 0 where
  pub assoc : (a b c : I) → plus (plus a b) c ≡ plus a (plus b c)
  pub start : (a : I) → plus end a ≡ a

module _ {I : Type 0} {plus : I → I → I} {end : I} {K : Error → Type 0} (joins : Joins plus end) where
  pub gives : {A : Type 0} (v : A) → Tame plus K (λ i. let r : Result (A × I) Error = Ok (v, i) in r)
  gives v = record { comes = λ i. record { used = end; whole = sym (joins.start i); reads = λ y. rw (joins.start y) refl } }

  pub refuses : (A : Type 0) (e : Error) → K e → Tame plus K (λ (i : I). let r : Result (A × I) Error = Err e in r)
  refuses A e known = record { comes = λ i. (known, inr (λ x. refl)) }

  pub either : {A : Type 0} (t : Bool) {get other : I → Result (A × I) Error} → Tame plus K get → Tame plus K other
      → Tame plus K (λ i. if t then get i else other i)
  either x0 h g = grind basics

  module _ {A B : Type 0} {get : I → Result (A × I) Error} (f : A → I → Result (B × I) Error) (whole : I → Result (B × I) Error)
      (is : (i : I) → whole i ≡ (get i >>= λ p. f p.0 p.1))
      (h : Tame plus K get) (g : (v : A) → Tame plus K (f v)) where
    after : (i : I) (p : A × I) → Front plus get i p.0 p.1 → (r : Result (B × I) Error) → Comes plus K (f p.0) p.1 r → Comes plus K whole i r
    after i p a x3 x4 = grind basics

    and_then : Tame plus K whole
    and_then = record { comes = λ i. rw (is i) (grind (basics, after)) }

  -- one whose value is tested, and seen by view
  tested : {A B : Type 0} {get : I → Result (A × I) Error} {whole : I → Result (B × I) Error} (pass : A → Bool) (view : A → B) (e : Error)
      → ((i : I) → whole i ≡ (get i >>= λ p. if pass p.0 then Ok (view p.0, p.1) else Err e)) → Tame plus K get → K e → Tame plus K whole
  tested {B = B} {whole = whole} pass view e is h known = and_then (λ v i. if pass v then Ok (view v, i) else Err e) whole is h
      (λ v. either (pass v) (gives (view v)) (refuses B e known))

bytes_join : Joins {I = List ℕ} ◌++◌ []
bytes_join = record { assoc = append_assoc; start = λ a. refl }

byte_tame : Tame ◌++◌ Sober byte_at
byte_tame = record { comes = elim [ [] ↦ (tt, inl (inl refl)) | b ∷ bs ↦ record { used = b ∷ []; whole = refl; reads = λ y. refl } ] }

front_of : (n : ℕ) (bs : List ℕ) → n ≤ length bs → Front ◌++◌ (bytes_at n) bs (take n bs) (drop n bs)
front_of n bs le = record {
  used = take n bs;
  whole = sym (take-append-drop n bs);
  reads = λ y. grind (basics, le-ltb, length-append, take_at, drop_at, length-take-le n bs le);
}

bytes_tame : (n : ℕ) → Tame ◌++◌ Sober (bytes_at n)
bytes_tame n = record {
  comes = λ bs. elim (cases_lt (length bs) n) [
    | inl lt ↦ rw (lt-ltb (length bs) n lt) (tt, inl (inl refl))
    | inr le ↦ rw (le-ltb (length bs) n le) (front_of n bs le)
  ];
}

varint_tame : (more last : ℕ) → Tame ◌++◌ Sober (varint_at more last)
unfolding varint_at
varint_tame zero last = tested bytes_join (λ b. nat_le b last) (λ b. b) Error.BadVarint (grind basics) byte_tame tt
varint_tame (suc more) last =
    and_then bytes_join (λ b bs. if nat_lt b 128 then Ok (b, bs) else (varint_at more last bs >>= λ high. Ok (b - 128 + 128 * high.0, high.1))) _
    (grind basics) byte_tame
    (λ b. either bytes_join (nat_lt b 128) (gives bytes_join b)
    (and_then bytes_join (λ high bs. Ok (b - 128 + 128 * high, bs)) _ (λ bs. refl) (varint_tame more last) (λ high. gives bytes_join (b - 128 + 128 * high))))

unsigned_tame : (w : Width) → Tame ◌++◌ Sober (unsigned_at w)
unsigned_tame w8 = byte_tame
unsigned_tame w = varint_tame (more_of w) (last_of w)

signed_tame : (w : Width) → Tame ◌++◌ Sober (signed_at w)
signed_tame w = and_then bytes_join (λ n bs. Ok (signed_from w n, bs)) _ (λ bs. refl) (unsigned_tame w) (λ n. gives bytes_join (signed_from w n))

bool_tame : Tame ◌++◌ Sober bool_at
unfolding bool_at
bool_tame = tested bytes_join (λ b. nat_le b 1) (λ b. b == 1) Error.BadBool (grind basics) byte_tame tt

length_tame : Tame ◌++◌ Sober length_at
unfolding length_at
length_tame = tested bytes_join (λ n. nat_le n longest) (λ n. n) Error.TooLong (λ bs. refl) (unsigned_tame w64) tt

text_tame : Tame ◌++◌ Sober text_at
unfolding text_at
text_tame = and_then bytes_join (λ n bs. bytes_at n bs >>= λ t. if is_utf8 t.0 then Ok t else Err Error.BadUtf8) _ (λ bs. refl) length_tame
    (λ n. tested bytes_join is_utf8 (λ t. t) Error.BadUtf8 (λ bs. refl) (bytes_tame n) tt)

char_tame : Tame ◌++◌ Sober char_at
unfolding char_at
char_tame = tested bytes_join (λ t. length (chars t) == 1) (λ t. get_or (chars t) 0 0) Error.BadChar (grind basics) text_tame tt

duration_tame : Tame ◌++◌ Sober duration_at
unfolding duration_at
duration_tame = and_then bytes_join (λ s bs. unsigned_at w32 bs >>= λ n. carried s n.0 n.1) _ (λ bs. refl) (unsigned_tame w64)
    (λ s. tested bytes_join (λ n. nat_lt (s + n / nanos_of_second) (2 ^ 64)) (λ n. (s + n / nanos_of_second, n % nanos_of_second)) Error.BadDuration
    (λ bs. refl) (unsigned_tame w32) tt)

-- causes of two refusals: one for both; and any, where what comes of a refusal isn't asked
abbrev pub one_cause : Error → Error → Type 0
one_cause e f = e ≡ f

abbrev pub any_cause : Error → Error → Type 0
any_cause e f = Unit {0}

pub no_cause : {e : Error} → ((f : Error) → e ≡ f) → ⊥
no_cause same = let a = same Error.UnexpectedEnd in let b = same Error.NoMoreKeys in cc

module _ {A : Type 0} where
  abbrev pub more : Rest A → Rest A → Rest A
  more a b = with_more a b.bytes b.refs

  pub joins : Joins more (rest [] [])
  joins = record { assoc = λ a b c. rw (append_assoc a.bytes b.bytes c.bytes, append_assoc a.refs b.refs c.refs) refl; start = λ a. refl }

  seen_tame : {X Y U : Type 0} {get : Gets A Y} (view : X → Y → U) → Tame more Any get → (v : X) → Tame more Any (λ i. seen (view v) get i)
  seen_tame view h v = and_then joins (λ y i. Ok (view v y, i)) _ (λ i. refl) h (λ y. gives joins (view v y))

module _ {A X Y : Type 0} (read : List ℕ → Read X) (view : X → Y) where
  bytes_come : (i : Rest A) (first : Read X) → Comes ◌++◌ Sober read i.bytes first → Comes more Any (bytes_of read view) i
      (first >>= λ p. let z : Result (Y × Rest A) Error = Ok (view p.0, record i { bytes = p.1 }) in z)
  bytes_come i (Ok p) g = record { used = rest g.used []; whole = ap (λ (b : List ℕ). rest b i.refs) g.whole; reads = λ y. rw g.reads refl }
  bytes_come i (Err e) (sober, inl ends) = (tt, inl ends)
  bytes_come i (Err e) (sober, inr stays) = (tt, inr (λ x. rw stays refl))

module _ {A B : Type 0} (look : Look A B) where
  reference_comes : (kind : ℕ) (bytes : List ℕ) (refs : List A) → Comes more Any (λ i. reference_at look kind i.refs i) (rest bytes refs)
      (reference_at look kind refs (rest bytes refs))
  reference_comes kind bytes [] = (tt, inl (inr refl))
  reference_comes kind bytes (a ∷ refs) = by (look kind a) refl
    where
      by : (r : Result B Error) → look kind a ≡ r
          → Comes more Any (λ i. reference_at look kind i.refs i) (rest bytes (a ∷ refs))
          (r >>= λ b. let z : Result (Meaning B × Rest A) Error = Ok (meanings.reference b, rest bytes refs) in z)
      by (Ok b) e = record { used = rest [] (a ∷ []); whole = refl; reads = λ y. rw e refl }
      by (Err f) e = (tt, inr (λ x. rw e refl))

-- as many bytes, and what stands for references as T says
pub record SameRest {A B : Type 0} (T : List A → List B → Type 0) (r : Rest A) (q : Rest B) : Type 0 where
  pub bytes : q.bytes ≡ r.bytes
  pub refs : T r.refs q.refs

-- Both give what V relates, or are refused for one fault of the bytes, or for causes that E relates; for one that it relates to all the first may also be
-- refused alone.
pub data Out {A B X Y : Type 0} (E : Error → Error → Type 0) (T : List A → List B → Type 0) (V : X → Y → Type 0) : Result (X × Rest A) Error
    → Result (Y × Rest B) Error → Type 0 where
  both-given : (p : X × Rest A) (q : Y × Rest B) → V p.0 q.0 → SameRest T p.1 q.1 → Out E T V (Ok p) (Ok q)
  both-faulty : (e : Error) → Sober e → Out E T V (Err e) (Err e)
  both-refused : (e f : Error) → E e f → Out E T V (Err e) (Err f)
  first-refused : (e : Error) (r : Result (Y × Rest B) Error) → ((f : Error) → E e f) → Out E T V (Err e) r

-- readers that do so on related inputs, the first of which is local: its faults stay, and what it reads of a front it reads of the whole
pub record Par {A B X Y : Type 0} (E : Error → Error → Type 0) (T : List A → List B → Type 0) (V : X → Y → Type 0) (get : Gets A X)
    (get2 : Gets B Y) : Type 0 where
  pub out : (r : Rest A) (q : Rest B) → SameRest T r q → Out E T V (get r) (get2 q)
  pub tame : Tame more Any get

module _ {A B : Type 0} {E : Error → Error → Type 0} {T : List A → List B → Type 0} where
  bind-out : {X Y U W : Type 0} {V : X → Y → Type 0} {V2 : U → W → Type 0} {first : Result (X × Rest A) Error} {second : Result (Y × Rest B) Error}
      (f : X × Rest A → Result (U × Rest A) Error)
      (g : Y × Rest B → Result (W × Rest B) Error)
      → Out E T V first second → ((p : X × Rest A) (q : Y × Rest B) → V p.0 q.0 → SameRest T p.1 q.1 → Out E T V2 (f p) (g q))
      → Out E T V2 (first >>= f) (second >>= g)
  bind-out f g (both-given p q v s) k = k p q v s
  bind-out f g (both-faulty e sober) k = both-faulty e sober
  bind-out f g (both-refused e d c) k = both-refused e d c
  bind-out f g (first-refused e r n) k = first-refused e (r >>= g) n

  gives_par : {X Y : Type 0} {V : X → Y → Type 0} (v : X) (w : Y) → V v w
      → Par E T V (λ i. let r : Result (X × Rest A) Error = Ok (v, i) in r) (λ i. let r : Result (Y × Rest B) Error = Ok (w, i) in r)
  gives_par v w h = record { out = λ r q s. both-given (v, r) (w, q) h s; tame = gives joins v }

  refuses_par : {X Y : Type 0} (V : X → Y → Type 0) (e : Error) → Sober e
      → Par E T V (λ i. let r : Result (X × Rest A) Error = Err e in r) (λ i. let r : Result (Y × Rest B) Error = Err e in r)
  refuses_par {X} V e sober = record { out = λ r q s. both-faulty e sober; tame = refuses joins X e tt }

  module _ {X Y U W : Type 0} {V : X → Y → Type 0} {V2 : U → W → Type 0} {get : Gets A X} {get2 : Gets B Y} (f : X → Gets A U) (g : Y → Gets B W)
      (h : Par E T V get get2)
      (k : (v : X) (w : Y) → V v w → Par E T V2 (f v) (g w)) (t : (v : X) → Tame more Any (f v)) where
    then_par : Par E T V2 (λ i. get i >>= λ p. f p.0 p.1) (λ i. get2 i >>= λ p. g p.0 p.1)
    then_par = record { out = λ r q s. bind-out _ _ (h.out r q s) (λ p o v t. (k p.0 o.0 v).out p.1 o.1 t); tame = and_then joins f _ (λ i. refl) h.tame t }

  -- one after the other, where both give the same first
  then_same : {X U W : Type 0} {V2 : U → W → Type 0} {get : Gets A X} {get2 : Gets B X} {f : X → Gets A U} {g : X → Gets B W}
      → Par E T (λ (v w : X). v ≡ w) get get2
      → ((v : X) → Par E T V2 (f v) (g v)) → Par E T V2 (λ i. get i >>= λ p. f p.0 p.1) (λ i. get2 i >>= λ p. g p.0 p.1)
  then_same {X} {V2 = V2} {f = f} {g} h k = then_par f g h (λ v w e. let P : X → Type 0 = λ z. Par E T V2 (f v) (g z) in subst P e (k v)) (λ v. (k v).tame)

  bytes_par : {X Y Z : Type 0} {V : X → Y → Type 0} (read : List ℕ → Read Z) → Tame ◌++◌ Sober read → (view : Z → X) (view2 : Z → Y)
      → ((z : Z) → V (view z) (view2 z))
      → Par E T V (bytes_of read view) (bytes_of read view2)
  bytes_par {X} {Y} {Z} {V} read t view view2 h =
      record {
        out = λ r q s. rw s.bytes (by r q s.refs (read r.bytes) (t.comes r.bytes));
        tame = record { comes = λ i. bytes_come read view i (read i.bytes) (t.comes i.bytes) };
      }
    where
      by : (r : Rest A) (q : Rest B) → T r.refs q.refs → (first : Read Z) → Comes ◌++◌ Sober read r.bytes first
          → Out E T V (first >>= λ z. let o = Ok (view z.0, record r { bytes = z.1 }) in o)
          (first >>= λ z. let o = Ok (view2 z.0, record q { bytes = z.1 }) in o)
      by r q refs (Ok z) c = both-given _ _ (h z.0) (record { bytes = refl; refs = refs })
      by r q refs (Err e) c = both-faulty e c.0

  bytes_same : {Z : Type 0} (read : List ℕ → Read Z) → Tame ◌++◌ Sober read → Par E T (λ (v w : Z). v ≡ w) (bytes_of read (λ z. z)) (bytes_of read (λ z. z))
  bytes_same read t = bytes_par read t _ _ (λ z. refl)

  seen_par : {X Y U W : Type 0} {V : X → Y → Type 0} {V2 : U → W → Type 0} {get : Gets A X} {get2 : Gets B Y} (view : X → U) (view2 : Y → W)
      → ((v : X) (w : Y) → V v w → V2 (view v) (view2 w)) → Par E T V get get2 → Par E T V2 (seen view get) (seen view2 get2)
  seen_par view view2 k h = then_par (λ v i. Ok (view v, i)) (λ w i. Ok (view2 w, i)) h (λ v w r. gives_par (view v) (view2 w) (k v w r))
      (λ v. gives joins (view v))

  -- what is read first says which of two is read then
  known_par : {X Y Z : Type 0} {V : X → Y → Type 0} (read : List ℕ → Read Z) → Tame ◌++◌ Sober read
      → (known : Z → Bool) {get other : Z → Gets A X} {get2 other2 : Z → Gets B Y}
      → ((z : Z) → known z ≡ true → Par E T V (get z) (get2 z)) → ((z : Z) → Par E T V (other z) (other2 z))
      → Par E T V (λ i. bytes_of read (λ z. z) i >>= λ p. choose (known p.0) (get p.0) (other p.0) p.1)
      (λ i. bytes_of read (λ z. z) i >>= λ p. choose (known p.0) (get2 p.0) (other2 p.0) p.1)
  known_par read t known {get} {other} {get2} {other2} h g = then_same {f = λ z. choose (known z) (get z) (other z)}
      {g = λ z. choose (known z) (get2 z) (other2 z)} (bytes_same read t)
      (λ z. elim (cases_Bool (known z)) [ inl e ↦ rw e (h z e) | inr e ↦ rw e (g z) ])

  items_par : {X Y : Type 0} {V : X → Y → Type 0} {get : Gets A X} {get2 : Gets B Y} → Par E T V get get2 → (n : ℕ)
      → Par E T (AllTwo V) (items get n) (items get2 n)
  unfolding items
  items_par h zero = gives_par [] [] no-two
  items_par {X} {Y} {V} {get} {get2} h (suc n) =
      let o = items_par h n in
      then_par (λ v. seen (λ vs. v ∷ vs) (items get n)) (λ w. seen (λ ws. w ∷ ws) (items get2 n)) h
      (λ v w r. seen_par _ _ (λ vs ws rs. more-two v w vs ws r rs) o) (seen_tame (λ v vs. v ∷ vs) o.tame)

  counted_par : {X Y : Type 0} {V : X → Y → Type 0} {get : Gets A X} {get2 : Gets B Y} → Par E T V get get2
      → Par E T (AllTwo V) (counted get) (counted get2)
  counted_par h = then_same (bytes_same length_at length_tame) (λ n. items_par h n)

-- it is read throughout, or F says that references may stand followed in what is read
abbrev pub Covers : Type 0 → (ℕ → Shape) → Shape → Type 0
Covers F parts s = F ⊎ Throughout IsReadable parts s

over : {F : Type 0} {parts : ℕ → Shape} {s t : Shape} → (IsReadable s → IsReadable t) → Under s t → Covers F parts s → Covers F parts t
over h u x2 = grind (basics, narrowed)

-- what stands for a reference is looked up alike
pub data OutLook {A B : Type 0} (E : Error → Error → Type 0) (R : A → B → Type 0) : Result A Error → Result B Error → Type 0 where
  both-looked-up : (a : A) (b : B) → R a b → OutLook E R (Ok a) (Ok b)
  both-not : (e f : Error) → E e f → OutLook E R (Err e) (Err f)
  first-not : (e : Error) (r : Result B Error) → ((f : Error) → E e f) → OutLook E R (Err e) r

-- readers of parts below that are related
pub data DeeperPar {A B C D : Type 0} (E : Error → Error → Type 0) (F : Type 0) (T : List A → List B → Type 0) (R : C → D → Type 0)
    (parts : ℕ → Shape) : Deeper A C → Deeper B D → Type 0 where
  no-deeper : DeeperPar E F T R parts None None
  one-deeper : (get : Shape → Gets A (Meaning C)) (get2 : Shape → Gets B (Meaning D)) → ((s : Shape) → Covers F parts s → Par E T (Along F R) (get s) (get2 s))
      → DeeperPar E F T R parts (Some get) (Some get2)

module _ {A B C D : Type 0} {E : Error → Error → Type 0} {F : Type 0} {S : A → B → Type 0} {R : C → D → Type 0} where
  look_par : {r : Rest A} {q : Rest B} {x : Result C Error} {y : Result D Error} → SameRest (AllTwo S) r q → OutLook E R x y
      → Out E (AllTwo S) (Along F R) (x >>= λ c. let z : Result (Meaning C × Rest A) Error = Ok (meanings.reference c, r) in z)
      (y >>= λ c. let z : Result (Meaning D × Rest B) Error = Ok (meanings.reference c, q) in z)
  look_par s x1 = grind (basics, both-given, reference-along, both-refused, first-refused)

  -- so is what stands for each in lists that go along
  module _ (look : Look A C) (look2 : Look B D) (alike : (kind : ℕ) (a : A) (b : B) → S a b → OutLook E R (look kind a) (look2 kind b)) where
    of_lists : (kind : ℕ) (r : Rest A) (q : Rest B) {k : List A} {l : List B} → q.bytes ≡ r.bytes → AllTwo S k l
        → Out E (AllTwo S) (Along F R) (reference_at look kind k r) (reference_at look2 kind l q)
    of_lists kind r q e no-two = both-faulty Error.NoMoreKeys tt
    of_lists kind r q e (more-two a b k l s h) = look_par (record { bytes = e; refs = h }) (alike kind a b s)

    pub each : (kind : ℕ) (r : Rest A) (q : Rest B) → SameRest (AllTwo S) r q
        → Out E (AllTwo S) (Along F R) (reference_at look kind r.refs r) (reference_at look2 kind q.refs q)
    each kind r q s = of_lists kind r q s.bytes s.refs

module _ {A B C D : Type 0} {E : Error → Error → Type 0} {F : Type 0} {T : List A → List B → Type 0} {R : C → D → Type 0} where
  entry_par : {get : Gets A (Meaning C)} {get2 : Gets B (Meaning D)} {other : Gets A (Meaning C)} {other2 : Gets B (Meaning D)} → Par E T (Along F R) get get2
      → Par E T (Along F R) other other2
      → Par E T (EntryAlong F R) (two get other) (two get2 other2)
  entry_par {get} {get2} {other} {other2} h g =
      then_par (λ v. seen (λ y. (v, y)) other) (λ v. seen (λ y. (v, y)) other2) h (λ m n r. seen_par _ _ (λ x y q. record { key = r; value = q }) g)
      (seen_tame (λ v y. (v, y)) g.tame)

  registered_par : (registry : List (Meaning ⊥)) → F ⊎ AllByRecursion HasNoReference registry → (n : ℕ)
      → Par E T (Along F R) (λ (i : Rest A). registered registry n >>= λ m. let z : Result (Meaning C × Rest A) Error = Ok (lifted m, i) in z)
      (λ (i : Rest B). registered registry n >>= λ m. let z : Result (Meaning D × Rest B) Error = Ok (lifted m, i) in z)
  registered_par [] h n = refuses_par (Along F R) Error.BadStaticIndex tt
  registered_par (m ∷ ms) h zero = gives_par (lifted m) (lifted m) (lifted-along m (elim h [ inl f ↦ inl f | inr all ↦ inr all.0 ]))
  registered_par (m ∷ ms) h (suc n) = registered_par ms (elim h [ inl f ↦ inl f | inr all ↦ inr all.1 ]) n

  module _ {parts : ℕ → Shape} where
    enter_par : {X Y : Type 0} {V : X → Y → Type 0} {d : Deeper A C} {d2 : Deeper B D} (part : (Shape → Gets A (Meaning C)) → Gets A X)
        (part2 : (Shape → Gets B (Meaning D)) → Gets B Y)
        → DeeperPar E F T R parts d d2
        → ((get : Shape → Gets A (Meaning C)) (get2 : Shape → Gets B (Meaning D)) → ((s : Shape) → Covers F parts s → Par E T (Along F R) (get s) (get2 s))
        → Par E T V (part get) (part2 get2))
        → Par E T V (λ i. enter d part i) (λ i. enter d2 part2 i)
    enter_par {X} {Y} {V} part part2 no-deeper k = refuses_par V Error.TooDeep tt
    enter_par part part2 (one-deeper get get2 h) k = k get get2 h

    json_par : {d : Deeper A C} {d2 : Deeper B D} → DeeperPar E F T R parts d d2 → (case : JsonCase)
        → Par E T (Along F R) (λ i. json_part d case i) (λ i. json_part d2 case i)
    unfolding IsReadable LiesIn
    json_par h null_case = gives_par _ _ (variant-along _ _ _ none-along)
    json_par h flag_case = bytes_par bool_at bool_tame _ _ (λ b. variant-along _ _ _ (flag-same b))
    json_par h number_case = known_par bool_at bool_tame (λ float. float) (λ float e. refuses_par (Along F R) Error.JsonNumber tt)
        (λ float. bytes_par (signed_at w64) (signed_tame w64) _ _ (λ z. variant-along _ _ _ (integer-along z)))
    json_par h text_case = bytes_par text_at text_tame _ _ (λ t. variant-along _ _ _ (text-along t))
    json_par h array_case = then_same (bytes_same length_at length_tame)
        (λ count. enter_par (λ get. seen (λ ms. variant 4 (sequence ms)) (items (get json) count))
        (λ get. seen (λ ms. variant 4 (sequence ms)) (items (get json) count)) h
        (λ get get2 g. seen_par _ _ (λ ms ns r. variant-along _ _ _ (sequence-two r)) (items_par (g json (inr (alone (λ n d. tt) tt))) count)))
    json_par {d} {d2} h object_case =
        then_same {f = λ count. enter d (λ get. seen (λ es. variant 5 (of_entries (put_all (put_sorted text_order) [] es)))
        (items (two (get shapes.text) (get json)) count))}
        {g = λ count. enter d2 (λ get. seen (λ es. variant 5 (of_entries (put_all (put_sorted text_order) [] es)))
        (items (two (get shapes.text) (get json)) count))}
        (bytes_same length_at length_tame)
        (λ count. enter_par _ _ h (λ get get2 g. seen_par _ _ (λ es fs r. variant-along _ _ _ (sorted-two text_order r))
        (items_par (entry_par (g shapes.text (inr (alone (λ n d. tt) tt))) (g json (inr (alone (λ n d. tt) tt)))) count)))

    -- where the next references are read alike
    module _ (look : Look A C) (look2 : Look B D)
        (alike : (kind : ℕ) (r : Rest A) (q : Rest B) → SameRest T r q → Out E T (Along F R) (reference_at look kind r.refs r)
        (reference_at look2 kind q.refs q)) where
      with_par : {d : Deeper A C} {d2 : Deeper B D} → DeeperPar E F T R parts d d2 → (s : Shape) → Covers F parts s
          → Par E T (Along F R) (λ i. read_with look parts d s i) (λ i. read_with look2 parts d2 s i)
      unfolding read_with IsReadable LiesIn
      with_par h nothing t = gives_par none none none-along
      with_par h (unsigned w) t = bytes_par (unsigned_at w) (unsigned_tame w) _ _ (λ n. number-along n)
      with_par h (signed w) t = bytes_par (signed_at w) (signed_tame w) _ _ (λ z. integer-along z)
      with_par h flag t = bytes_par bool_at bool_tame _ _ flag-same
      with_par h shapes.text t = bytes_par text_at text_tame _ _ (λ b. text-along b)
      with_par h letter t = bytes_par char_at char_tame _ _ (λ c. number-along c)
      with_par h duration t = bytes_par duration_at duration_tame _ _ (λ p. pair-along _ _ _ _ (number-along p.0) (number-along p.1))
      with_par h shapes.pattern t = bytes_par text_at text_tame _ _ (λ b. pattern-along b)
      with_par {d} {d2} h json t = then_same (bytes_same (unsigned_at w64) (unsigned_tame w64)) (λ n.
          elim (json_case n) as (λ c. IfErr c Sober → Par E T (Along F R) (λ i. c >>= λ case. json_part d case i) (λ i. c >>= λ case. json_part d2 case i))
          [ Ok case ↦ λ s. json_par h case | Err e ↦ refuses_par (Along F R) e ] (grind basics))
      with_par h (optional s) t = known_par bool_at bool_tame (λ some. some)
          (λ some e. seen_par present present (λ m n r. variant-along _ _ _ r) (with_par h s (over (λ p. p) (λ n d l. l) t)))
          (λ some. gives_par absent absent (variant-along _ _ _ none-along))
      with_par h (outcome s s2) t = known_par bool_at bool_tame (λ ok. ok)
          (λ ok e. seen_par success success (λ m n r. variant-along _ _ _ r) (with_par h s (over (λ p. p.0) (λ n d l. l.0) t)))
          (λ ok. seen_par failure failure (λ m n r. variant-along _ _ _ r) (with_par h s2 (over (λ p. p.1) (λ n d l. l.1) t)))
      with_par h (list s) t = seen_par sequence sequence (λ ms ns r. sequence-two r) (counted_par (with_par h s (over (λ p. p) (λ n d l. l) t)))
      with_par h (run s) t = refuses_par (Along F R) Error.WrongKind tt
      with_par h (array n s) t = seen_par sequence sequence (λ ms ns r. sequence-two r) (items_par (with_par h s (over (λ p. p) (λ n d l. l) t)) n)
      with_par h (both s s2) t = seen_par entry entry (λ e f r. pair-along _ _ _ _ r.key r.value)
          (entry_par (with_par h s (over (λ p. p.0) (λ n d l. l.0) t)) (with_par h s2 (over (λ p. p.1) (λ n d l. l.1) t)))
      with_par h (sorted_map order s s2) t = seen_par _ _ (λ es fs r. sorted-two order r)
          (counted_par (entry_par (with_par h s (over (λ p. p.0) (λ n d l. l.0) t)) (with_par h s2 (over (λ p. p.1) (λ n d l. l.1) t))))
      with_par h (placed_map s s2) t = seen_par _ _ (λ es fs r. entries-two
          (put_all-two _ _ one-two (λ x u y w acc acc2 v g k l. search (rules, more-two, plain-along)) r no-two))
          (counted_par (entry_par (with_par h s (over (λ p. p.0) (λ n d l. l.0) t)) (with_par h s2 (over (λ p. p.1) (λ n d l. l.1) t))))
      with_par h (hash_map s s2) t = seen_par of_hash_map of_hash_map (λ es fs r. sorted-two code_order r)
          (counted_par (entry_par (with_par h s (over (λ p. p.0) (λ n d l. l.0) t)) (with_par h s2 (over (λ p. p.1) (λ n d l. l.1) t))))
      with_par h (sorted_set order s) t = seen_par _ _ (λ ms ns r. sequence-two
          (put_all-two {V = Along F R} (put_sorted_item order) (put_sorted_item order) one-two
          (λ x u y w acc acc2 v g k l. search (rules, more-two, plain-along)) r no-two)) (counted_par (with_par h s (over (λ p. p) (λ n d l. l) t)))
      with_par h (placed_set s) t = seen_par _ _ (λ ms ns r. sequence-two (put_all-two {V = Along F R} put_placed_item put_placed_item one-two
          (λ x u y w acc acc2 v g k l. search (rules, more-two, plain-along)) r no-two)) (counted_par (with_par h s (over (λ p. p) (λ n d l. l) t)))
      with_par h (static_value registry) t = then_same (bytes_same (unsigned_at w32) (unsigned_tame w32))
          (λ n. registered_par registry (grind (basics, here)) n)
      with_par h (tagged written known body) t = known_par text_at text_tame known
          (λ tag e. seen_par (of_tagged tag) (of_tagged tag) (λ m n r. pair-along _ _ _ _ (text-along tag) r)
          (with_par h (body tag) (over (λ p. p.1 tag e) (λ n d l. l.1 tag e) t)))
          (λ tag. refuses_par (Along F R) Error.UnknownTag tt)
      with_par h (cases w known part) t = known_par (unsigned_at w) (unsigned_tame w) known
          (λ n e. seen_par (variant n) (variant n) (λ x y r. variant-along _ _ _ r) (with_par h (part n) (over (λ p. p n e) (λ nodes d l. l n e) t)))
          (λ n. refuses_par (Along F R) Error.UnknownTag tt)
      with_par h (shapes.reference kind) t = record { out = alike kind; tame = record { comes = λ i. reference_comes look kind i.bytes i.refs } }
      with_par h (nested n) t = enter_par _ _ h (λ get get2 g. g (parts n) (grind (basics, part_of)))

      below_par : (left : ℕ) → DeeperPar E F T R parts (below look parts left) (below look2 parts left)
      unfolding below
      below_par zero = no-deeper
      below_par (suc left) = one-deeper _ _ (with_par (below_par left))

      pub read_par : (levels : ℕ) (s : Shape) → Covers F parts s
          → Par E T (Along F R) (read (record { levels = levels; look = look; parts = parts }) s)
          (read (record { levels = levels; look = look2; parts = parts }) s)
      unfolding read
      read_par levels s t = with_par (below_par (deepest - levels)) s t

      -- so do they read a type that may not be known
      pub typed_par : (levels : ℕ) (o : Option Shape) → ((s : Shape) → o ≡ Some s → Covers F parts s) → (r : Rest A) (q : Rest B) → SameRest T r q
          → Out E T (Along F R)
          (read_typed (record { levels = levels; look = look; parts = parts }) o r) (read_typed (record { levels = levels; look = look2; parts = parts }) o q)
      typed_par levels None t r q same = both-faulty Error.WrongKind tt
      typed_par levels (Some s) t r q same = (read_par levels s (t s refl)).out r q same

-- ---- reading is local: what is read of a front is read of the whole, a fault stays, and what was used reads alone

-- what comes of an input that is read so
comes-of : {A B : Type 0} (context : Context A B) (s : Shape) (input : Rest A) {r : Result (Meaning B × Rest A) Error} → read context s input ≡ r
    → Comes more Any (read context s) input r
comes-of {A} {B} context s input e =
    -- what is looked up stands for itself
    let alike : (k : ℕ) (a b : A) → a ≡ b → OutLook any_cause (λ (c d : B). Unit {0}) (context.look k a) (context.look k b) = λ k a b is. rw is
    (elim (context.look k b) as (λ r. OutLook any_cause (λ (c d : B). Unit {0}) r r) [ Ok c ↦ both-looked-up c c tt | Err e ↦ both-not e e tt ]) in
    let par = read_par {E = any_cause} {F = Unit {0}} {T = AllTwo (λ a b. a ≡ b)} {R = λ c d. Unit {0}} {parts = context.parts} context.look context.look
    (each _ _ alike) context.levels s (inl tt) in
    subst (Comes more Any (read context s) input) e (par.tame.comes input)

pub local : {A B : Type 0} → FrontReadsAlike A B
local context s front after x y m e = let f = comes-of context s front e in rw (f.whole, joins.assoc f.used after (rest x y)) (f.reads (more after (rest x y)))

pub used : {A B : Type 0} → UsedPartReadsAlone A B
used context s input after m e =
    let f = comes-of context s input e in
    let alone : more f.used (rest [] []) ≡ f.used = rw (append-nil f.used.bytes, append-nil f.used.refs) refl in
    record { bytes = f.used.bytes; refs = f.used.refs; whole = f.whole; alone = rw alone at (f.reads (rest [] [])) }

pub lasting : {A B : Type 0} → FaultStays A B
lasting context s front x y e is not_end not_keys = elim (comes-of context s front is).1
    [ inl end ↦ absurd (grind basics) | inr stays ↦ stays (rest x y) ]

-- ---- reading is natural in what stands for references, and forms are

-- f leads from one to the other
abbrev Leads : {A C : Type 0} → (A → C) → A → C → Type 0
Leads f a c = f a ≡ c

module _ {A C : Type 0} (f : A → C) where
  all-map : (k : List A) → AllTwo (Leads f) k (map f k)
  all-map [] = no-two
  all-map (a ∷ k) = more-two a (f a) k (map f k) refl (all-map k)

  map-all : {k : List A} {l : List C} → AllTwo (Leads f) k l → l ≡ map f k
  map-all no-two = refl
  map-all (more-two a c k l e h) = rw (e, map-all h) refl

  rename-along : {F : Type 0} {m : Meaning A} {n : Meaning C} → Along F (Leads f) m n → n ≡ rename f m
  unfolding rename
  rename-along (pair-along x y a b h g) = rw (rename-along h, rename-along g) refl
  rename-along (variant-along n x a h) = rw (rename-along h) refl
  rename-along (reference-along a b r) = rw r refl
  rename-along (followed-along kind x a w h) = rw (rename-along h) refl
  rename-along _ = refl

  pub along-rename : (m : Meaning A) → Along (Unit {0}) (Leads f) m (rename f m)
  unfolding rename
  along-rename (pair a b) = pair-along _ _ _ _ (along-rename a) (along-rename b)
  along-rename (variant n a) = variant-along _ _ _ (along-rename a)
  along-rename (followed kind a) = followed-along _ _ _ tt (along-rename a)
  along-rename x0 = grind (basics, number-along, integer-along, text-along, pattern-along, none-along, reference-along)

natural-out : {A B C D : Type 0} (f : A → C) (g : B → D) {first : Result (Meaning B × Rest A) Error} {second : Result (Meaning D × Rest C) Error}
    → Out one_cause (AllTwo (Leads f)) (Along (Unit {0}) (Leads g)) first second → second ≡ (first >>= λ x. Ok (rename g x.0, rest x.1.bytes (map f x.1.refs)))
natural-out f g (both-given p q v s) = (rw ((rename-along g v), ← s.bytes, ← (map-all f s.refs)) refl)
natural-out f g (both-faulty e sober) = refl
natural-out f g (both-refused e d c) = ap Err (sym c)
natural-out f g (first-refused e r h) = absurd (no_cause h)

pub natural : {A B C D : Type 0} → ReadsAlikeForAnyReferences A B C D
natural {A} {B} {C} {D} f g look other levels parts s input h =
    let alike : (kind : ℕ) (a : A) (c : C) → f a ≡ c → OutLook one_cause (Leads g) (look kind a) (other kind c) =
    λ kind a c e. (grind (basics, both-looked-up, both-not)) in
    let par = read_par look other (each look other alike) levels s (inl tt) in
    natural-out f g (par.out input (rest input.bytes (map f input.refs)) (record { bytes = refl; refs = all-map f input.refs }))

rename_same : {B : Type 0} (m : Meaning B) → rename (λ b. b) m ≡ m
unfolding rename
rename_same (pair a b) = rw (rename_same a, rename_same b) refl
rename_same (variant n a) = rw (rename_same a) refl
rename_same (followed kind a) = rw (rename_same a) refl
rename_same _ = refl

pub read_over : {A B C : Type 0} → ReplacesBeforeLookUp A B C
read_over f look levels parts s input = natural f (λ b. b) (λ kind a. look kind (f a)) look levels parts s input (λ kind a. grind basics)
    ∙ (grind (basics, rename_same))

pub renamed : {A B D : Type 0} → RenamesLookUps A B D
renamed {A} {B} {D} g look levels parts s input =
    let all = natural (λ a. a) g look (λ kind a. look kind a >>= λ b. Ok (g b)) levels parts s input (λ kind a. refl) in
    ap (λ (k : List A). read (at levels (λ kind a. look kind a >>= λ b. Ok (g b)) parts) s (rest input.bytes k)) (sym (map-id input.refs)) ∙ all
    ∙ (grind (basics, map-id))

pub keeps_forms : {A B : Type 0} → KeepsForms A B
keeps_forms {A} {B} f kind_of kind_of2 parts left s m b k kinds h =
    let p = form-along {R = Leads f} (λ a c e. rw (← e) (kinds a)) h (along-rename f m) in
    let P : List B → Type 0 = λ l. Form B kind_of2 parts left s (rename f m) b l in subst P (map-all f p.each) p.form

through-out : {A B C D : Type 0} (f : A → C) (g : B → D) (m : Meaning B) (after : Rest A) {first : Result (Meaning B × Rest A) Error}
    {second : Result (Meaning D × Rest C) Error}
    → Out any_cause (AllTwo (Leads f)) (Along (Unit {0}) (Leads g)) first second → first ≡ Ok (m, after) → second
    ≡ Ok (rename g m, rest after.bytes (map f after.refs))
through-out f g m after x4 e = grind (basics, rename-along, map-all)

pub read_through : {A B C D : Type 0} → ReadsWhatOtherReads A B C D
read_through {A} {B} {C} {D} f g look other levels parts s input after m h e =
    let alike : (kind : ℕ) (a : A) (c : C) → f a ≡ c → OutLook any_cause (Leads g) (look kind a) (other kind c) = λ kind a c i.
    elim (look kind a) as (λ r. look kind a ≡ r → OutLook any_cause (Leads g) r (other kind c)) [
      | Ok b ↦ λ j. (let q : other kind c ≡ Ok (g b) = rw (← i) (h kind a b j) in rw q (both-looked-up b (g b) refl))
      | Err x ↦ λ j. first-not x (other kind c) (λ d. tt)
    ] refl in
    let par = read_par look other (each look other alike) levels s (inl tt) in
    through-out f g m after (par.out input (rest input.bytes (map f input.refs)) (record { bytes = refl; refs = all-map f input.refs })) e
