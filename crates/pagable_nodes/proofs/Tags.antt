-- An enum with tags is written as the tag of its case and then the fields of the case, and is read so.
use Rattle.pagable_codec.specs.declared.{
  deserializer.PagableDeserializer.Ghosts as Deserializers,
  env.Env.Ghosts as Environments,
  serializer.PagableSerializer.Ghosts as Serializers,
}
use Rattle.pagable_nodes.proofs.Enums.{Given, no-shape, read-among, written-among}
use Rattle.pagable_nodes.specs.{CaseFields.{ReadsFields, read_known}, Cases.{CaseOf, Cases, case, encoding_of, is_case, no_more, reads_of, shape_of, writes_of}, NodeCases.{shape-is, typed_shape}, Tags.{ReadsTag, are_tags, body_of_tag, has_tag, known_or_unwritten, lacks_tag, tag_at, tag_place, tagged_shape}}
use Rattle.pagable_traits.proofs.{
  JsonSteps.{Tells, read-err, then-err, then-ok, wrote-err, wrote-then},
  Maps.viewed,
  Registered.{refused_body, writes_tagged},
}
use Rattle.pagable_traits.specs.{Clauses.{Reads, Wrote, value as form}}
use Rattle.pagable_value_spec.specs.{BasicValues.{longest, text_at, text_form}, CarriedTypes.of_tagged, Cursor.{Answer, Is}, Form.{tagged-form, text-form}, Meaning.{Meaning, text as text_meaning}, Outcomes.{IsOutOfMemory, long_or, memory_or}, Reading.{Context, Rest, bytes_of, read, read_with}, References.references_in, Shape.{Shape, text as text_shape}, Tagged.MeansTagged, Writing.{FormAt, Nesting, NoForm, Out, Refused, WritesSome, added}, declared.{error.Error.Error, numbers.ArcRef.ArcRef}}
use Rattle.std.proofs.{Common.{Err, List, Ok, Result, ap, false, inl, inr, length, refl, suc, sym, true, zero, ℕ, [], ◌++◌, ◌∙◌, ◌∷◌, ◌≡◌, ◌≤◌}, lemmas.List.append-nil, lemmas.Slice.Eq.bytes_eq-Decides}
use Rattle.std.specs.{Prelude.{Bool, IfOk, OnOk, cond}, Result.IsErrAnd, Str.{IsUtf8, bytes_eq}}

-- ---- tags and their places

same-tag : (tag : List ℕ) → bytes_eq tag tag ≡ true
same-tag tag = (bytes_eq-Decides tag tag).1 refl

-- what a test was, if one of two values is true
was-false : (b c : Bool) → cond b false c ≡ true → (b ≡ false) × (c ≡ true)
was-false false c e = (refl, e)
was-false true c e = absurd cc

was-true : (b c : Bool) → cond b c false ≡ true → (b ≡ true) × (c ≡ true)
was-true true c e = (refl, e)
was-true false c e = absurd cc

differs : (all : Cases) (tags : List (List ℕ)) (n : ℕ) (tag : List ℕ) → are_tags all tags ≡ true → lacks_tag tags tag ≡ true → is_case all n ≡ true
    → bytes_eq (tag_at tags n) tag ≡ false
differs no_more tags n tag fit apart is = cc
differs (case a more) [] n tag fit apart is = cc
differs (case a more) (t ∷ ts) zero tag fit apart is = (was-false (bytes_eq t tag) (lacks_tag ts tag) apart).0
differs (case a more) (t ∷ ts) (suc n) tag fit apart is = differs more ts n tag (was-true (lacks_tag ts t) (are_tags more ts) fit).1
    (was-false (bytes_eq t tag) (lacks_tag ts tag) apart).1 is

pub place_of_tag : (all : Cases) (tags : List (List ℕ)) (n : ℕ) → are_tags all tags ≡ true → is_case all n ≡ true → tag_place tags (tag_at tags n) ≡ n
place_of_tag no_more tags n fit is = cc
place_of_tag (case a more) [] n fit is = cc
place_of_tag (case a more) (t ∷ ts) zero fit is = rw (same-tag t) refl
place_of_tag (case a more) (t ∷ ts) (suc n) fit is =
    let two = was-true (lacks_tag ts t) (are_tags more ts) fit in
    let other : bytes_eq (tag_at ts n) t ≡ false = differs more ts n t two.1 two.0 is in
    rw (other, place_of_tag more ts n two.1 is) refl

pub tag_of_place : (all : Cases) (tags : List (List ℕ)) (n : ℕ) (tag : List ℕ) → are_tags all tags ≡ true → is_case all n ≡ true → n ≡ tag_place tags tag
    → tag ≡ tag_at tags n
tag_of_place no_more tags n tag fit is at = cc
tag_of_place (case a more) [] n tag fit is at = cc
tag_of_place (case a more) (t ∷ ts) n tag fit is at = by (bytes_eq tag t) refl (λ m. tag_of_place more ts m tag (was-true (lacks_tag ts t) (are_tags more ts) fit).1)
  where
    by : (same : Bool) → bytes_eq tag t ≡ same → ((m : ℕ) → is_case more m ≡ true → m ≡ tag_place ts tag → tag ≡ tag_at ts m) → tag ≡ tag_at (t ∷ ts) n
    by true e further = let here : n ≡ 0 = at ∙ rw e refl in rw here ((bytes_eq-Decides tag t).0 e)
    by false e further =
        let next : n ≡ suc (tag_place ts tag) = at ∙ rw e refl in
        rw next (further (tag_place ts tag) (rw next at is) refl)

-- ---- writing

-- the one form of a text
text-is : (n : Nesting) {m : Meaning ArcRef} {b : List ℕ} {k : List ArcRef} (tag : List ℕ) → FormAt n text_shape m b k → m ≡ text_meaning tag
    → IsUtf8 tag × (length tag ≤ longest) × (b ≡ text_form tag) × (k ≡ [])
text-is n tag (text-form l t u le) e = let same : t ≡ tag = cc in rw (← same) (u, le, refl, refl)

pub tag_added : (n : Nesting) (tag : List ℕ) (old mid : Out) → WritesSome (Is text_meaning tag) n text_shape old mid
    → IsUtf8 tag × (length tag ≤ longest) × (mid ≡ added old (text_form tag) [])
tag_added n tag old mid w =
    let h = text-is n tag w.wrote.form w.is in (h.0, h.1, w.wrote.grown ∙ rw (h.2, h.3) refl)

no-tag : (n : Nesting) (all : Cases) (tags : List (List ℕ)) (tag : List ℕ) (m : Meaning ArcRef) → NoForm n text_shape (text_meaning tag)
    → NoForm n (tagged_shape all tags) (of_tagged tag m)
unfolding tagged_shape
no-tag n all tags tag m lack b k (tagged-form l written known body t x c k2 u le f) = lack (text_form tag) [] (text-form _ tag u le)

module _ (all : Cases) (tags : List (List ℕ)) (fit : are_tags all tags ≡ true) (v : CaseOf all) (M : Meaning ArcRef → Type 0)
    (single : (m : Meaning ArcRef) → M m → m ≡ v.meaning) {causes : Error → Type 0}
    (among : (e : Error) → causes e → (encoding_of all v.number).writes.are e) where
  abbrev own : List ℕ
  own = tag_at tags v.number

  abbrev Whole : Meaning ArcRef → Type 0
  Whole = MeansTagged own v.means

  place : tag_place tags own ≡ v.number
  place = place_of_tag all tags v.number fit v.exists

  body-is : known_or_unwritten (has_tag all tags) (body_of_tag all tags) own ≡ shape_of all v.number
  body-is = rw (place, v.exists) refl

  meant : (m : Meaning ArcRef) → M m → v.means m
  meant m h = rw (single m h) v.is_meaning

  fields-written : (n : Nesting) (part : Shape) (mid new : Out) → shape_of all v.number ≡ part → WritesSome M n part mid new
      → WritesSome v.means n (known_or_unwritten (has_tag all tags) (body_of_tag all tags) own) mid new
  fields-written n part mid new same w = rw (body-is, same) (record { m = w.m; is = meant w.m w.is; wrote = w.wrote })

  fields-lack : (n : Nesting) (part : Shape) (e : Error) → shape_of all v.number ≡ part → Refused M n part e
      → Refused v.means n (known_or_unwritten (has_tag all tags) (body_of_tag all tags) own) e
  fields-lack n part e same l fault =
      let lack = l fault in rw (body-is, same) (record { m = lack.m; is = meant lack.m lack.is; no_form = lack.no_form })

  joins : (n : Nesting) (part : Shape) (old mid new : Out) → shape_of all v.number ≡ part → WritesSome (Is text_meaning own) n text_shape old mid
      → WritesSome M n part mid new → WritesSome Whole n (tagged_shape all tags) old new
  unfolding tagged_shape
  joins n part old mid new same w f =
      let h = tag_added n own old mid w in
      writes_tagged v.means own n (known_or_unwritten (has_tag all tags) (body_of_tag all tags)) (has_tag all tags) (body_of_tag all tags) old mid new h.0 h.1 h.2 (fields-written n part mid new same f)

  lacks : (n : Nesting) (part : Shape) (e : Error) → shape_of all v.number ≡ part → Refused M n part e → Refused Whole n (tagged_shape all tags) e
  unfolding tagged_shape
  lacks n part e same l = let f : Result (Unit {0}) Error = Err e in refused_body f v.means own n
      (known_or_unwritten (has_tag all tags) (body_of_tag all tags)) (has_tag all tags) (body_of_tag all tags) (fields-lack n part e same l)

  module _ {S E N H K V : Type 0} {env : Environments E N H K V} {s : Serializers S E N H K V} where
    -- the tag, and then the fields
    pub tagged_wrote : {X Y : Type 0} {a b c : S} {u : X} {r : Result Y Error} (part : Shape) (tag : List ℕ) → tag ≡ own → shape_of all v.number ≡ part
        → Wrote env s (form (Is text_meaning tag) text_shape) (long_or IsOutOfMemory) a b (Ok u) → Wrote env s (form M part) causes b c r
        → Wrote env s (form Whole (tagged_shape all tags)) (long_or (memory_or (writes_of all).are)) a c r
    tagged_wrote part tag is same f w = wrote-then (rw is at f) w (λ n old mid new. joins n part old mid new same)
        (λ n e l h. lacks n part e same l) (λ e h. inr (inr (written-among all v.number v.exists e (among e h))))

-- the tag was refused
pub tag_unwritten : {S E N H K V X Y : Type 0} {env : Environments E N H K V} {s : Serializers S E N H K V} {a b : S} {e : Error} {r : Result Y Error}
    (all : Cases) (tags : List (List ℕ)) (v : CaseOf all) (tag : List ℕ) → tag ≡ tag_at tags v.number
    → IsErrAnd r (λ f. f ≡ e) → Wrote env s (form (Is text_meaning tag) text_shape) (long_or IsOutOfMemory) a b (let p : Result X Error = Err e in p)
    → Wrote env s (form (MeansTagged (tag_at tags v.number) v.means) (tagged_shape all tags)) (long_or (memory_or (writes_of all).are)) a b r
tag_unwritten all tags v tag same is w = wrote-err is w
    (λ n l h fault. let lack = l fault in record {
      m = of_tagged (tag_at tags v.number) v.meaning;
      is = record { body = v.meaning; is_body = v.is_meaning; is = refl };
      no_form = rw (← same) (no-tag n all tags tag v.meaning (rw lack.is at lack.no_form));
    })
    (λ h. elim h [ inl long ↦ inl long | inr short ↦ inr (inl short) ])

-- ---- references: those of a case are those of its fields

pub tagged_listed : {Y : Type 0} (r : Result Y Error) (m : Meaning ArcRef) (its : List ℕ) (n : Nesting) (tag : List ℕ) (old mid new : Out)
    → WritesSome (Is text_meaning tag) n text_shape old mid → OnOk r (new.refs ≡ mid.refs ++ references_in m)
    → OnOk r (new.refs ≡ old.refs ++ references_in (of_tagged its m))
unfolding references_in
tagged_listed (Ok y) m its n tag old mid new w h =
    h ∙ ap (λ k. k ++ references_in m) (ap (λ (o : Out). o.refs) (tag_added n tag old mid w).2 ∙ append-nil old.refs)
tagged_listed (Err f) m its n tag old mid new w h = tt

pub tagged_case_listed : {Y : Type 0} (r : Result Y Error) (items : Y → List ArcRef) (m : Meaning ArcRef) (its : List ℕ)
    → IfOk r (λ y. items y ≡ references_in m) → IfOk r (λ y. items y ≡ references_in (of_tagged its m))
unfolding references_in
tagged_case_listed r items m its h = h

-- ---- reading

text-one : (s t : List ℕ) (m : Meaning ArcRef) → m ≡ text_meaning s → m ≡ text_meaning t → s ≡ t
text-one s t m e f = let same = sym e ∙ f in cc

both-are : {X Y : Type 0} (x u : X) (y v : Y) → (let p : Result (X × Y) Error = Ok (x, y) in p) ≡ Ok (u, v) → (x ≡ u) × (y ≡ v)
both-are {X} {Y} x u y v e =
    let same : (let p : X × Y = (x, y) in p) ≡ (u, v) = cc in (ap (λ (p : X × Y). p.0) same, ap (λ (p : X × Y). p.1) same)

-- a text that was read, as bytes give it
text-front : (tag : List ℕ) (rest after : Rest Answer) (context : Context Answer ArcRef) (m : Meaning ArcRef)
    → read context text_shape rest ≡ Ok (m, after) → m ≡ text_meaning tag → bytes_of text_at (λ t. t) rest ≡ Ok (tag, after)
unfolding read read_with
text-front tag rest after context m gave is = by (text_at rest.bytes) refl
  where
    by : (r : Result (List ℕ × List ℕ) Error) → text_at rest.bytes ≡ r → bytes_of text_at (λ t. t) rest ≡ Ok (tag, after)
    by (Ok x) e =
        let got : (let p : Given = Ok (text_meaning x.0, record rest { bytes = x.1 }) in p) ≡ Ok (m, after) = rw e at gave in
        let parts = both-are _ _ _ _ got in
        rw (e, text-one x.0 tag m (sym parts.0) is, parts.1) refl
    by (Err f) e = let got : (let p : Given = Err f in p) ≡ Ok (m, after) = rw e at gave in cc

-- a text that was refused refuses the tag
text-refused : (all : Cases) (tags : List (List ℕ)) (context : Context Answer ArcRef) (rest : Rest Answer) (f : Error)
    → read context text_shape rest ≡ (let p : Given = Err f in p) → read context (tagged_shape all tags) rest ≡ (let p : Given = Err f in p)
unfolding read read_with tagged_shape
text-refused all tags context rest f gave = by (text_at rest.bytes) refl
  where
    by : (r : Result (List ℕ × List ℕ) Error) → text_at rest.bytes ≡ r → read context (tagged_shape all tags) rest ≡ (let p : Given = Err f in p)
    by (Ok x) e =
        let got : (let p : Given = Ok (text_meaning x.0, record rest { bytes = x.1 }) in p) ≡ (let p : Given = Err f in p) = rw e at gave in cc
    by (Err g) e = let got : (let p : Given = Err g in p) ≡ (let p : Given = Err f in p) = rw e at gave in rw e got

module _ {D E R N H K V : Type 0} {env : Environments E N H K V} {d : Deserializers D E R N H K V} where
  module _ {tags : List (List ℕ)} {a b : D} {n : ℕ} (first : ReadsTag env d tags a b (Ok n)) where
    abbrev tag : List ℕ
    tag = first.gives.is.tag

    front : bytes_of text_at (λ t. t) (d.rest a) ≡ Ok (tag, d.rest b)
    front = text-front tag _ _ _ first.gives.m first.gives.gave first.gives.is.is

    told : Tells d (Unit {0}) a b
    told = record { gives = tt; moves = first.moves; same_env = first.same_env; same_levels = first.same_levels }

    module _ (all : Cases) (context : Context Answer ArcRef) where
      known-goes-on : (part : Shape) → are_tags all tags ≡ true → is_case all n ≡ true → shape_of all n ≡ part
          → read context (tagged_shape all tags) (d.rest a) ≡ viewed (of_tagged (tag_at tags n)) (read context part (d.rest b))
      unfolding read read_with tagged_shape
      known-goes-on part fit is same =
          let its = tag_of_place all tags n tag fit is first.gives.is.place in
          rw (front, ← first.gives.is.place, is, same, its) refl

      unknown : is_case all n ≡ false → read context (tagged_shape all tags) (d.rest a) ≡ (let p : Given = Err Error.UnknownTag in p)
      unfolding read read_with tagged_shape
      unknown is = rw (front, ← first.gives.is.place, is) refl

      -- the rest of the enum is the fields of the case
      goes-on : are_tags all tags ≡ true → read context (tagged_shape all tags) (d.rest a)
          ≡ viewed (of_tagged (tag_at tags n)) (read_known context (typed_shape all n) (d.rest b))
      goes-on fit = by (is_case all n) refl
        where
          by : (known : Bool) → is_case all n ≡ known → read context (tagged_shape all tags) (d.rest a)
              ≡ viewed (of_tagged (tag_at tags n)) (read_known context (typed_shape all n) (d.rest b))
          by true is = rw (shape-is all n is) (known-goes-on (shape_of all n) fit is refl)
          by false is = rw (no-shape all n is) (unknown is)

  module _ {Z : Type 0} (all : Cases) (view : Z → CaseOf all) (tags : List (List ℕ)) where
    -- the tag, and then the fields
    pub tagged_case_was_read : {a b c : D} {z : Z} {n : ℕ} → are_tags all tags ≡ true → ReadsTag env d tags a b (Ok n)
        → ReadsFields env d view n b c (let r : Result Z Error = Ok z in r)
        → Reads env d (memory_or (reads_of all).are) (λ x. MeansTagged (tag_at tags (view x).number) (view x).means)
        (λ y. read y (tagged_shape all tags)) a c (let r : Result Z Error = Ok z in r)
    tagged_case_was_read {n = n} fit first q = then-ok (of_tagged (tag_at tags n)) (told first) q (goes-on first all _ fit)
        (λ m h. record { body = m; is_body = h.1; is = rw h.0 refl })

    -- the fields were refused
    pub tagged_fields_were_refused : {a b c : D} {e : Error} {r : Result Z Error} {n : ℕ} → are_tags all tags ≡ true → IsErrAnd r (λ f. f ≡ e)
        → ReadsTag env d tags a b (Ok n) → ReadsFields env d view n b c (let p : Result Z Error = Err e in p)
        → Reads env d (memory_or (reads_of all).are) (λ x. MeansTagged (tag_at tags (view x).number) (view x).means)
        (λ y. read y (tagged_shape all tags)) a c r
    tagged_fields_were_refused {e = e} {n = n} fit same_error first q =
        then-err (of_tagged (tag_at tags n)) same_error (told first) q (goes-on first all _ fit) (λ h. inr (read-among all n e h))

    -- the tag was refused
    pub tag_was_refused : {a b : D} {e : Error} {r : Result Z Error} → IsErrAnd r (λ f. f ≡ e)
        → ReadsTag env d tags a b (let p : Result ℕ Error = Err e in p)
        → Reads env d (memory_or (reads_of all).are) (λ x. MeansTagged (tag_at tags (view x).number) (view x).means)
        (λ y. read y (tagged_shape all tags)) a b r
    tag_was_refused same_error first = read-err same_error
        (record { gives = first.gives; moves = first.moves; same_env = first.same_env; same_levels = first.same_levels })
        (λ h. inl h) (λ h. text-refused all tags _ _ _ h)
