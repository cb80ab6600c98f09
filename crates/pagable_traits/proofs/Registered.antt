-- Values in a registry, by their index.
-- Tagged values: what writing a tag and a body adds, and what reading by the registered reader gives.
use Rattle.pagable_codec.specs.declared.{deserializer.PagableDeserializer.Ghosts as Deserializers, env.Env.Ghosts as Environments}
use Rattle.pagable_traits.proofs.{
  Parts.{err_along, ok_along},
  Words.{Answer, ArcRef, Bool, Context, Err, Error, Gets, GivesSome, IfErr, Is, IsOutOfMemory, List, MatchesReading, Meaning, Meanings, MovesOn, Nesting},
  Words.{NoForm, Ok, Out, Reads, Refused, Rest, Result, Shape, Some, SomeMeaning, WritesSome, added, ap, arith, bytes_of, context_in, false, get_or, inl, inr},
  Words.{length, length-map, long_or_memory, longest, map, memory_or, memory_refuses, moves_trans, read, read_with, refl, subst, suc, sym, text_at, text_form},
  Words.{then, true, w32, writes_bytes, zero, ℕ, [], ◌++◌, ◌+◌, ◌<◌, ◌>>=◌, ◌∙◌, ◌∷◌, ◌≡◌, ◌≤◌},
}
use Rattle.pagable_value_spec.specs.{
  Canonical.{HasNoCase, IsReadable, LiesIn, Throughout, Within},
  CarriedTypes.{body_of, is_registered, of_tagged, tagged_by},
  Form.{static-form, tagged-form},
  Meaning.lifted,
  Numbers.{bound, unsigned_form},
  Reading.registered,
  Shape.{cases, static_value, tagged},
  Statics.{HasEqual, NoEqualBelow},
  Tagged.{HasDistinctTags, IsLastFor, MeansTagged, NoneFor, ReadsWhatIsWritten, grammars},
}
use Rattle.std.proofs.lemmas.{
  Bool.Decides.nat_tests,
  List.map-id,
  Option.{get_or_from_slice_get, slice_get-map, slice_get_read, slice_get_within},
  Slice.Eq.bytes_eq-Decides,
}
use Rattle.std.specs.{List.slice_get, Prelude.{IfOk, IsTrue}, Str.{IsUtf8, bytes_eq}}

pub ruleset lengths = (length-map)

-- ---- the least index of an equal value

pub none_below : {T : Type 0} (same : T → T → Bool) (value : T) (xs : List T) → NoEqualBelow same value xs 0
none_below same value xs j known lt stands = absurd (omega (arith, lt))

pub below_more : {T : Type 0} (same : T → T → Bool) (value : T) (xs : List T) (i : ℕ) (x : T) → x ≡ get_or xs i x → same value x ≡ false
    → NoEqualBelow same value xs i → NoEqualBelow same value xs (i + 1)
below_more same value xs i x e differs below j known lt stands =
    let less = below j known in let here = get_or_from_slice_get xs i known x in grind (arith, nat_tests, less, here, e, differs, lt, stands)

pub is_equal : {T : Type 0} (same : T → T → Bool) (value : T) (xs : List T) (i : ℕ) (x : T) → i < length xs → x ≡ get_or xs i x → IsTrue (same value x)
    → HasEqual same value xs i
is_equal same value xs i x lt e equal = record { known = x; stands = slice_get_read xs (length xs) i x refl lt e; equal = equal }

pub none_at_all : {T : Type 0} (same : T → T → Bool) (value : T) (xs : List T) (i : ℕ) → length xs ≤ i → NoEqualBelow same value xs i
    → NoEqualBelow same value xs (length xs)
none_at_all same value xs i le below j known lt stands = below j known (omega (arith, lt, le)) stands

pub ruleset finding = (none_below, below_more, is_equal, none_at_all)

-- ---- what stands under an index

pub registered_at : {X : Type 0} (f : X → Meaning ⊥) (xs : List X) (i : ℕ) (x : X) → slice_get xs i ≡ Some x → registered (map f xs) i ≡ Ok (f x)
registered_at f [] i x e = absurd cc
registered_at f (y ∷ ys) zero x e = let same : y ≡ x = cc in rw same refl
registered_at f (y ∷ ys) (suc i) x e = registered_at f ys i x e

pub unregistered_at : {X : Type 0} (f : X → Meaning ⊥) (xs : List X) (i : ℕ) → length xs ≤ i → registered (map f xs) i ≡ Err Error.BadStaticIndex
unregistered_at f [] i le = refl
unregistered_at f (y ∷ ys) i le = grind (arith, nat_tests, unregistered_at f ys)

pub ruleset steps = (registered_at, unregistered_at)

-- the index of a value that stands there is a form of it
pub writes_static : {X : Type 0} (meaning : X → Meaning ArcRef) (x : X) (registry : List (Meaning ⊥)) (i : ℕ) (m : Meaning ⊥) (n : Nesting) (old : Out)
    (w : List ℕ) → meaning x ≡ lifted m → registered registry i ≡ Ok m → i < bound w32 → w ≡ old.bytes ++ unsigned_form w32 i
    → WritesSome (Is meaning x) n (static_value registry) old (record old { bytes = w })
writes_static meaning x registry i m n old w is e lt grown =
    record {
      m = meaning x;
      is = refl;
      wrote = rw is (writes_bytes n (static_value registry) (lifted m) old w (unsigned_form w32 i) grown
          (static-form _ registry i m lt e));
    }

-- ---- writing

pub writes_tagged : (M : Meaning ArcRef → Type 0) (tag : List ℕ) (n : Nesting) (written : List ℕ → Shape) (known : List ℕ → Bool) (body : List ℕ → Shape)
    (old mid new : Out) → IsUtf8 tag → length tag ≤ longest → mid ≡ added old (text_form tag) [] → WritesSome M n (written tag) mid new
    → WritesSome (MeansTagged tag M) n (tagged written known body) old new
writes_tagged M tag n written known body old mid new u le e w = record {
  m = of_tagged tag w.m;
  is = record { body = w.m; is_body = w.is; is = refl };
  wrote = record {
    bytes = text_form tag ++ w.wrote.bytes;
    refs = w.wrote.refs;
    form = tagged-form _ written known body tag w.m _ _ u le w.wrote.form;
    grown = then old mid new _ _ _ _ e w.wrote.grown;
  };
}

-- a tagged value has no form where a tag that fits has no form of the body
no-tagged : (n : Nesting) (written : List ℕ → Shape) (known : List ℕ → Bool) (body : List ℕ → Shape) (tag : List ℕ) (x : Meaning ArcRef)
    → (length tag ≤ longest → NoForm n (written tag) x) → NoForm n (tagged written known body) (of_tagged tag x)
no-tagged n written known body tag x h b k (tagged-form l w' k' b' t y c k2 u le f) = h le c k2 f

pub refused_body : {Z : Type 0} (r : Result Z Error) (M : Meaning ArcRef → Type 0) (tag : List ℕ) (n : Nesting) (written : List ℕ → Shape)
    (known : List ℕ → Bool) (body : List ℕ → Shape)
    → IfErr r (Refused M n (written tag)) → IfErr r (Refused (MeansTagged tag M) n (tagged written known body))
refused_body r M tag n written known body h = err_along r h (λ e k fault.
    let no = k fault in record {
      m = of_tagged tag no.m;
      is = record { body = no.m; is_body = no.is; is = refl };
      no_form = no-tagged n written known body tag no.m (λ le. no.no_form);
    })

pub refused_tag : {Z T : Type 0} (r : Result Z Error) (M : Meanings T) (x : T) (tag : List ℕ) (n : Nesting) (written : List ℕ → Shape) (known : List ℕ → Bool)
    (body : List ℕ → Shape)
    → IfErr r (long_or_memory (length tag)) → IfErr r (Refused (MeansTagged tag (M.of x)) n (tagged written known body))
refused_tag r M x tag n written known body h = err_along r h (λ e k. elim k [
  | inl long ↦ λ fault. record {
    m = of_tagged tag (M.meaning x);
    is = record { body = M.meaning x; is_body = M.is x; is = refl };
    no_form = no-tagged n written known body tag (M.meaning x) (λ le. omega (arith, le, long.0));
  }
  | inr short ↦ memory_refuses e (MeansTagged tag (M.of x)) n (tagged written known body) short.1
])

pub ruleset writes = (ok_along, writes_tagged, refused_body, refused_tag)

-- ---- the last registration of a tag

-- no reader of this tag from this place on
abbrev pub NoneFrom : {F : Type 0} → List ℕ → List (List ℕ × F) → ℕ → Type 0
NoneFrom {F} tag readers i = (j : ℕ) (r : List ℕ × F) → i ≤ j → slice_get readers j ≡ Some r → bytes_eq tag r.0 ≡ false

at_place : {R F : Type 0} (view : R → List ℕ × F) (xs : List R) (i : ℕ) (x : R) → i < length xs → x ≡ get_or xs i x → slice_get (map view xs) i ≡ Some (view x)
at_place view xs i x lt e = slice_get-map view xs i ∙ rw (slice_get_read xs (length xs) i x refl lt e) refl

pub none_past : {R F : Type 0} (view : R → List ℕ × F) (tag : List ℕ) (xs : List R) (i : ℕ) → length xs ≤ i → NoneFrom tag (map view xs) i
none_past view tag xs i le j r past stands = absurd (omega (arith, le, past, slice_get_within (map view xs) j r stands, length-map xs view))

pub none_from_less : {R F : Type 0} (view : R → List ℕ × F) (tag : List ℕ) (xs : List R) (i k : ℕ) (x : R) → k + 1 ≡ i → k < length xs → x ≡ get_or xs k x
    → bytes_eq tag (view x).0 ≡ false → NoneFrom tag (map view xs) i → NoneFrom tag (map view xs) k
none_from_less view tag xs i k x s lt e differs from j r le stands = let at = at_place view xs k x lt e in let later =
    from j r in grind (arith, nat_tests, at, later, differs, stands, s, le)

pub is_last : {R F : Type 0} (view : R → List ℕ × F) (tag : List ℕ) (xs : List R) (i k : ℕ) (x : R) → k + 1 ≡ i → k < length xs → x ≡ get_or xs k x
    → bytes_eq tag (view x).0 ≡ true → NoneFrom tag (map view xs) i → IsLastFor tag (map view xs) (view x).1
is_last {R} {F} view tag xs i k x s lt e equal from =
    let same : tag ≡ (view x).0 = (bytes_eq-Decides tag (view x).0).0 equal in
    let P : List ℕ → Type 0 = λ t. slice_get (map view xs) k ≡ Some (t, (view x).1) in
    record { place = k; stands = subst P (sym same) (at_place view xs k x lt e); last = λ j r less stands. from j r (omega (arith, s, less)) stands }

-- ---- what the model makes of registrations

is-same : (tag : List ℕ) → bytes_eq tag tag ≡ true
is-same tag = (bytes_eq-Decides tag tag).1 refl

not-registered : {X : Type 0} (f : X → List ℕ × Shape) (xs : List X) (tag : List ℕ) → ((j : ℕ) (x : X) → slice_get xs j ≡ Some x → bytes_eq tag (f x).0 ≡ false)
    → is_registered (map f xs) tag ≡ false
not-registered f [] tag h = refl
not-registered f (x ∷ xs) tag h = rw (not-registered f xs tag (λ j y e. h (suc j) y e)) (h 0 x refl)

is-last : {X : Type 0} (f : X → List ℕ × Shape) (xs : List X) (tag : List ℕ) (x : X) (place : ℕ)
    → slice_get xs place ≡ Some x → bytes_eq tag (f x).0 ≡ true → ((j : ℕ) (y : X) → place < j → slice_get xs j ≡ Some y → bytes_eq tag (f y).0 ≡ false)
    → (is_registered (map f xs) tag ≡ true) × (body_of (map f xs) tag ≡ (f x).1)
is-last f [] tag x place e equal last = absurd cc
is-last f (y ∷ ys) tag x zero e equal last = let none = not-registered f ys tag (λ j z stands. last (suc j) z (omega arith) stands) in grind (arith, none)
is-last f (y ∷ ys) tag x (suc place) e equal last = let p = is-last f ys tag x place e equal (λ j z less stands. last (suc j) z (omega (arith, less)) stands) in
    (rw p.0 refl, rw p.0 p.1)

-- ---- reading

read-known : {A B F V : Type 0} (context : Context A B) (written : List ℕ → Shape) (grammar : F → V → Shape) (env : V) (readers : List (List ℕ × F))
    (tag : List ℕ) (f : F) (rest mid : Rest A) → bytes_of text_at (λ t. t) rest ≡ Ok (tag, mid) → IsLastFor tag readers f
    → read context (tagged_by written (grammars grammar env readers)) rest ≡ (read context (grammar f env) mid >>= λ y. Ok (of_tagged tag y.0, y.1))
unfolding read read_with
read-known context written grammar env readers tag f rest mid e last =
    let p = is-last (λ r. (r.0, grammar r.1 env)) readers tag (tag, f) last.place last.stands (is-same tag) last.last in rw (e, p.0, p.1) refl

read-unknown : {A B F V : Type 0} (context : Context A B) (written : List ℕ → Shape) (grammar : F → V → Shape) (env : V) (readers : List (List ℕ × F))
    (tag : List ℕ) (rest mid : Rest A) → bytes_of text_at (λ t. t) rest ≡ Ok (tag, mid) → NoneFor tag readers
    → read context (tagged_by written (grammars grammar env readers)) rest ≡ Err Error.UnknownTag
unfolding read read_with
read-unknown context written grammar env readers tag rest mid e none = rw (e, not-registered (λ r. (r.0, grammar r.1 env)) readers tag none) refl

-- a tag as bytes give it
pub text_is_read : {X : Type 0} (bytes_in : X → List ℕ) (r : Result X Error) (rest last : Rest Answer) (bytes after : List ℕ) → rest.bytes ≡ bytes → last
    ≡ record rest { bytes = after } → MatchesReading IsOutOfMemory (λ t. (bytes_in t, after)) r (text_at bytes)
    → MatchesReading IsOutOfMemory (λ t. (bytes_in t, last)) r (bytes_of text_at (λ t. t) rest)
text_is_read bytes_in r rest last bytes after e f h = grind (arith, nat_tests, e, f, h)

module _ {D E R N H K V : Type 0} (d : Deserializers D E R N H K V) where
  -- what a reader of a part or of the whole owes
  abbrev pub Tells : Type 0 → D → D → Type 0
  Tells gives old new = record {
    gives : gives;
    moves : MovesOn (d.input_state old) (d.input_state new);
    same_env : d.environment new ≡ d.environment old;
    same_levels : d.levels new ≡ d.levels old;
  }

module _ {D E R N H K V T F : Type 0} (env : Environments E N H K V) (d : Deserializers D E R N H K V) (own : Error → Type 0) (tag_of : T → List ℕ)
    (M : T → Meaning ArcRef → Type 0) (grammar : F → E → Shape) where
  -- what a reader of a tagged value owes
  abbrev pub TellsTagged : List (List ℕ × F) → D → D → Result T Error → Type 0
  TellsTagged readers a b r =
      (written : List ℕ → Shape) → Reads env d (memory_or own) (λ x. MeansTagged (tag_of x) (M x))
      (λ c. read c (tagged_by written (grammars grammar (d.environment a) readers))) a b r

  -- no reader is registered
  pub unknown_read : {a b : D} {tag : List ℕ} (readers known : List (List ℕ × F)) (named : List ℕ)
      → Tells d (bytes_of text_at (λ t. t) (d.rest a) ≡ Ok (tag, d.rest b)) a b → named ≡ tag
      → known ≡ readers → NoneFor named known → TellsTagged readers a b (Err Error.UnknownTag)
  unknown_read {a} {b} {tag} readers known named told same all none written = record {
    gives = inl (read-unknown _ written grammar (d.environment a) readers tag _ _ told.gives (rw (same, all) at none));
    moves = told.moves;
    same_env = told.same_env;
    same_levels = told.same_levels;
  }

  after-tag : {P : Type 0} {N : T → Meaning ArcRef → Type 0} {get whole : Context Answer ArcRef → Gets Answer (Meaning ArcRef)} {causes : Error → Type 0}
      {a b c : D}
      (r : Result T Error) → Tells d P a b → Reads env d own M get b c r
      → (GivesSome own M (d.rest c) r (get (context_in env d b) (d.rest b)) → GivesSome causes N (d.rest c) r (whole (context_in env d a) (d.rest a)))
      → Reads env d causes N whole a c r
  after-tag r first told f =
      record {
        gives = f told.gives;
        moves = moves_trans _ _ _ first.moves told.moves;
        same_env = told.same_env ∙ first.same_env;
        same_levels = told.same_levels ∙ first.same_levels;
      }

  -- the body is read, or refused
  pub body_read : {a b c : D} {tag : List ℕ} (readers known : List (List ℕ × F)) (named its : List ℕ) (f : F) (r : Result T Error)
      → Tells d (bytes_of text_at (λ t. t) (d.rest a) ≡ Ok (tag, d.rest b)) a b
      → named ≡ tag → known ≡ readers → IsLastFor named known f → its ≡ named
      → Reads env d own M (λ x. read x (grammar f (d.environment b))) b c r → IfOk r (λ x. tag_of x ≡ its) → TellsTagged readers a c r
  body_read {a = a} {tag = tag} readers known named its f (Ok x) first same all last its_own told of_tag written =
      let known_last = rw (same, all) at last in
      after-tag (Ok x) first told
      (λ h. let g = rw (first.same_levels, first.same_env) at h in record {
        m = of_tagged tag g.m;
        is = record { body = g.m; is_body = g.is; is = ap (λ (t : List ℕ). of_tagged t g.m) (sym (of_tag ∙ its_own ∙ same)) };
        gave = read-known _ written grammar (d.environment a) readers tag f _ _ first.gives known_last ∙ rw g.gave refl;
      })
  body_read {a = a} {tag = tag} readers known named its f (Err e) first same all last its_own told of_tag written =
      let known_last = rw (same, all) at last in
      after-tag (Err e) first told
      (λ h. elim (rw (first.same_levels, first.same_env) at h) [
        | inl none ↦ inl (read-known _ written grammar (d.environment a) readers tag f _ _ first.gives known_last ∙ rw none refl)
        | inr why ↦ inr (inr why)
      ])

-- ---- distinct tags

-- a registered tag is read by its own registration
own-registration : (rs : List (List ℕ × Shape)) (i : ℕ) (tag : List ℕ) (s : Shape) → HasDistinctTags rs → slice_get rs i ≡ Some (tag, s)
    → (is_registered rs tag ≡ true) × (body_of rs tag ≡ s)
own-registration rs i tag s distinct stands =
    rw (map-id rs) at (is-last (λ x. x) rs tag (tag, s) i stands (is-same tag) (λ j r less there. let one = distinct i j (tag, s) r stands there in
    grind (arith, nat_tests, one, less)))

registered-place : (rs : List (List ℕ × Shape)) (tag : List ℕ) → is_registered rs tag ≡ true → (i : ℕ) × (slice_get rs i ≡ Some (tag, body_of rs tag))
registered-place [] tag e = absurd cc
registered-place (r ∷ rs) tag e = go (is_registered rs tag) refl (λ known. registered-place rs tag known)
  where
    go : (b : Bool) → is_registered rs tag ≡ b → (is_registered rs tag ≡ true → (i : ℕ) × (slice_get rs i ≡ Some (tag, body_of rs tag))) → (i : ℕ)
        × (slice_get (r ∷ rs) i ≡ Some (tag, body_of (r ∷ rs) tag))
    go true known later = let p = later known in (suc p.0, rw known p.1)
    go false unknown later =
        let here : bytes_eq tag r.0 ≡ true = rw unknown at e in
        let same : tag ≡ r.0 = (bytes_eq-Decides tag r.0).0 here in
        (0, rw unknown (let P : List ℕ → Type 0 = λ t. slice_get (r ∷ rs) 0 ≡ Some (t, r.1) in subst P (sym same) refl))

no_case-lies : (nodes parts : ℕ → Type 0) (s : Shape) → HasNoCase s → LiesIn nodes parts s
unfolding LiesIn
no_case-lies nodes parts (cases w known part) h = λ n e. let no : false ≡ true = sym (h n) ∙ e in absurd cc
no_case-lies nodes parts s h = absurd h

pub distinct_is_read : (parts : ℕ → Shape) (written : List ℕ → Shape) (rs : List (List ℕ × Shape)) → HasDistinctTags rs → ReadsWhatIsWritten parts written rs
    → Throughout IsReadable parts (tagged_by written rs)
unfolding IsReadable LiesIn Within
distinct_is_read parts written rs distinct reads = record { within = within }
  where
    readable : IsReadable (tagged_by written rs)
    readable = (
      λ tag. elim (reads.all tag) [
        | inl none ↦ inl none
        | inr p ↦ inr (own-registration rs p.0 tag (written tag) distinct p.1)
      ],
      λ tag known. let p = registered-place rs tag known in (reads.each p.0 tag (body_of rs tag) p.1).1.within 0,
    )

    below : (steps : ℕ) → LiesIn (λ n. Unit {0}) (λ n. Within IsReadable parts steps (parts n)) (tagged_by written rs)
    below steps = (
      λ tag. elim (reads.all tag) [
        | inl none ↦ no_case-lies (λ n. Unit {0}) (λ n. Within IsReadable parts steps (parts n)) (written tag) none
        | inr p ↦ ((reads.each p.0 tag (written tag) p.1).1.within (suc steps)).1
      ],
      λ tag known. let p = registered-place rs tag known in ((reads.each p.0 tag (body_of rs tag) p.1).1.within (suc steps)).1,
    )

    within : (steps : ℕ) → Within IsReadable parts steps (tagged_by written rs)
    within zero = readable
    within (suc steps) = (readable, below steps)

-- a tagged value means something where its body does
pub tagged_means : {T : Type 0} (tag : T → List ℕ) (body : T → Meaning ArcRef → Type 0) → ((x : T) → SomeMeaning (body x)) → (x : T)
    → SomeMeaning (MeansTagged (tag x) (body x))
tagged_means tag body has x = (of_tagged (tag x) (has x).0, record { body = (has x).0; is_body = (has x).1; is = refl })
