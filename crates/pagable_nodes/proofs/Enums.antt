-- An enum is written as the number of its case and then the fields of the case, and is read so.
use Rattle.pagable_codec.proofs.{Reading.moves_refl, Writing.memory_refuses}
use Rattle.pagable_codec.specs.declared.{
  deserializer.PagableDeserializer.Ghosts as Deserializers,
  env.Env.Ghosts as Environments,
  serializer.PagableSerializer.Ghosts as Serializers,
}
use Rattle.pagable_nodes.specs.{
  CaseFields.{ReadsFields, read_known},
  Cases.{CaseOf, Cases, MeansCase, ReadsNumber, case, encoding_of, is_case, no_more, reads_of, shape_of, writes_of},
  NodeCases.{shape-is, typed_shape},
}
use Rattle.pagable_traits.proofs.{JsonSteps.{Tells, read-err, then-err, then-ok, whole-wrote, wrote-err}, Maps.viewed}
use Rattle.pagable_traits.specs.{Clauses.{Reads, Wrote, bytes, value as form}, Meanings.Means}
use Rattle.pagable_value_spec.specs.{Cursor.Answer, Form.case-form, Meaning.{Meaning, none, variant}, Numbers.{bound, unsigned_at, unsigned_form}, Outcomes.{IsOutOfMemory, memory_or}, Reading.{Context, Rest, bytes_of, read, read_with}, References.references_in, Shape.{Shape, cases, nothing}, Writing.{Nesting, NoForm, Out, added}, declared.{error.Error.Error, numbers.ArcRef.ArcRef}}
use Rattle.std.proofs.{Common.{Err, List, None, Ok, Option, Result, Some, ap, false, inl, inr, refl, suc, true, zero, ℕ, [], ◌++◌, ◌<◌, ◌∙◌, ◌≡◌}, lemmas.List.append-nil}
use Rattle.std.specs.{Int.w32, Prelude.{Bool, OnOk}, Result.IsErrAnd}

no-case : (nest : Nesting) (known : ℕ → Bool) (shape : ℕ → Shape) (n : ℕ) (m : Meaning ArcRef) → NoForm nest (shape n) m
    → NoForm nest (cases w32 known shape) (variant n m)
no-case nest known shape n m lack b k (case-form _ _ _ _ _ _ c j lt is f) = lack c j f

-- ---- cases: a value's number is that of a case, whose causes are among those of the enum

pub written-among : (all : Cases) (n : ℕ) → is_case all n ≡ true → (e : Error) → (encoding_of all n).writes.are e → (writes_of all).are e
written-among no_more n is e h = cc
written-among (case a more) zero is e h = inl h
written-among (case a more) (suc n) is e h = inr (written-among more n is e h)

-- ---- writing

module _ (all : Cases) (v : CaseOf all) (M : Meaning ArcRef → Type 0) (n : ℕ) (at : v.number ≡ n)
    (single : (m : Meaning ArcRef) → M m → m ≡ v.meaning) {causes : Error → Type 0} (among : (e : Error) → causes e → (encoding_of all n).writes.are e) where
  known : is_case all n ≡ true
  known = rw (← at) v.exists

  meant : (m : Meaning ArcRef) → M m → MeansCase v (variant n m)
  meant m h = record { part = v.meaning; is_part = v.is_meaning; is = rw (single m h, at) refl }

  module _ {S E N H K V : Type 0} {env : Environments E N H K V} {s : Serializers S E N H K V} where
    -- the number, and then the fields
    pub case_wrote : {X Y : Type 0} {a b c : S} {u : X} {r : Result Y Error} (part : Shape) → shape_of all n ≡ part → n < bound w32
        → Wrote env s (bytes (unsigned_form w32 n)) IsOutOfMemory a b (Ok u) → Wrote env s (form M part) causes b c r
        → Wrote env s (form (MeansCase v) (cases w32 (is_case all) (shape_of all))) (memory_or (writes_of all).are) a c r
    case_wrote part same lt f w = whole-wrote (variant n) (unsigned_form w32 n) part (cases w32 (is_case all) (shape_of all)) M (MeansCase v) meant
        (λ nest m b k g. case-form _ w32 (is_case all) (shape_of all) n m b k lt known (rw same g))
        (λ nest m no. no-case nest (is_case all) (shape_of all) n m (rw same no)) f w (λ e h. inr (written-among all n known e (among e h)))

-- the number was refused
pub number_unwritten : {S E N H K V X Y : Type 0} {env : Environments E N H K V} {s : Serializers S E N H K V} {a b : S} {e : Error} {r : Result Y Error}
    (all : Cases) (v : CaseOf all) (n : ℕ)
    → IsErrAnd r (λ f. f ≡ e) → Wrote env s (bytes (unsigned_form w32 n)) IsOutOfMemory a b (let p : Result X Error = Err e in p)
    → Wrote env s (form (MeansCase v) (cases w32 (is_case all) (shape_of all))) (memory_or (writes_of all).are) a b r
number_unwritten {e = e} all v n is w = wrote-err is w (λ nest l h. memory_refuses e (MeansCase v) nest (cases w32 (is_case all) (shape_of all)) h)
    (λ h. inl h)

-- ---- references: those of a case are those of its fields

pub case_listed : {Y : Type 0} (r : Result Y Error) (m : Meaning ArcRef) (n : ℕ) (old new : List ArcRef) → OnOk r (new ≡ old ++ references_in m)
    → OnOk r (new ≡ old ++ references_in (variant n m))
unfolding references_in
case_listed r m n old new h = h

-- those of the fields, behind a number
pub fields_listed : {Y : Type 0} (r : Result Y Error) (m : Meaning ArcRef) (n : ℕ) (old mid new : Out) (b : List ℕ) → mid ≡ added old b []
    → OnOk r (new.refs ≡ mid.refs ++ references_in m) → OnOk r (new.refs ≡ old.refs ++ references_in (variant n m))
unfolding references_in
fields_listed (Ok y) m n old mid new b e h = h ∙ ap (λ k. k ++ references_in m) (ap (λ (o : Out). o.refs) e ∙ append-nil old.refs)
fields_listed (Err f) m n old mid new b e h = tt

-- ---- reading

-- a number that no case has has no shape
pub no-shape : (all : Cases) (n : ℕ) → is_case all n ≡ false → typed_shape all n ≡ None
no-shape no_more n is = refl
no-shape (case a more) zero is = cc
no-shape (case a more) (suc n) is = no-shape more n is

-- the causes of a case are among those of the enum
pub read-among : (all : Cases) (n : ℕ) (e : Error) → (encoding_of all n).reads.are e → (reads_of all).are e
read-among no_more n e h = h
read-among (case a more) zero e h = inl h
read-among (case a more) (suc n) e h = inr (read-among more n e h)

-- what reading gives, with a value's meaning
abbrev pub Given : Type 0
Given = Result (Meaning ArcRef × Rest Answer) Error

module _ {D E R N H K V : Type 0} {env : Environments E N H K V} {d : Deserializers D E R N H K V} where
  module _ {a b : D} {n : ℕ} (number : ReadsNumber env d a b (Ok n)) where
    number-is : bytes_of (unsigned_at w32) (λ k. k) (d.rest a) ≡ Ok (n, d.rest b)
    number-is = let g = number.gives in rw (← g.is) g.gave

    told : Tells d (Unit {0}) a b
    told = record { gives = tt; moves = number.moves; same_env = number.same_env; same_levels = number.same_levels }

    module _ (context : Context Answer ArcRef) where
      known-goes-on : (known : ℕ → Bool) (shape : ℕ → Shape) (part : Shape) → known n ≡ true → shape n ≡ part
          → read context (cases w32 known shape) (d.rest a) ≡ viewed (variant n) (read context part (d.rest b))
      unfolding read read_with
      known-goes-on known shape part is same = rw (number-is, is, same) refl

      unknown : (known : ℕ → Bool) (shape : ℕ → Shape) → known n ≡ false
          → read context (cases w32 known shape) (d.rest a) ≡ (let p : Given = Err Error.UnknownTag in p)
      unfolding read read_with
      unknown known shape is = rw (number-is, is) refl

      -- the rest of the enum is its fields
      goes-on : (all : Cases)
          → read context (cases w32 (is_case all) (shape_of all)) (d.rest a) ≡ viewed (variant n) (read_known context (typed_shape all n) (d.rest b))
      goes-on all = by (is_case all n) refl
        where
          by : (known : Bool) → is_case all n ≡ known
              → read context (cases w32 (is_case all) (shape_of all)) (d.rest a) ≡ viewed (variant n) (read_known context (typed_shape all n) (d.rest b))
          by true is = rw (shape-is all n is) (known-goes-on (is_case all) (shape_of all) (shape_of all n) is refl)
          by false is = rw (no-shape all n is) (unknown (is_case all) (shape_of all) is)

  module _ {Z : Type 0} (all : Cases) (view : Z → CaseOf all) where
    -- the number, and then the fields
    pub case_was_read : {a b c : D} {z : Z} {n : ℕ} → ReadsNumber env d a b (Ok n)
        → ReadsFields env d view n b c (let r : Result Z Error = Ok z in r)
        → Reads env d (reads_of all).are (λ x. MeansCase (view x)) (λ c. read c (cases w32 (is_case all) (shape_of all))) a c (let r : Result Z Error = Ok z in r)
    case_was_read {n = n} number q = then-ok (variant n) (told number) q (goes-on number _ all)
        (λ m h. record { part = m; is_part = h.1; is = rw h.0 refl })

    -- the fields were refused
    pub fields_were_refused : {a b c : D} {e : Error} {r : Result Z Error} {n : ℕ} → IsErrAnd r (λ f. f ≡ e) → ReadsNumber env d a b (Ok n)
        → ReadsFields env d view n b c (let p : Result Z Error = Err e in p)
        → Reads env d (reads_of all).are (λ x. MeansCase (view x)) (λ c. read c (cases w32 (is_case all) (shape_of all))) a c r
    fields_were_refused {e = e} {n = n} same_error number q =
        then-err (variant n) same_error (told number) q (goes-on number _ all) (read-among all n e)

    -- the number was refused
    pub number_was_refused : {a b : D} {e : Error} {r : Result Z Error} → IsErrAnd r (λ f. f ≡ e)
        → ReadsNumber env d a b (let p : Result ℕ Error = Err e in p) → Reads env d (reads_of all).are (λ x. MeansCase (view x)) (λ c. read c (cases w32 (is_case all) (shape_of all))) a b r
    unfolding read read_with
    number_was_refused same_error number = read-err same_error
        (record { gives = number.gives; moves = number.moves; same_env = number.same_env; same_levels = number.same_levels })
        (λ no. absurd no) (λ h. rw h refl)

  -- ---- what reading the fields of a case owes: where there are none, and where they were refused

  pub no_fields : {Z : Type 0} {causes : Error → Type 0} {L : Means Z} {shape : Option Shape} {a : D} {z : Z} → shape ≡ Some nothing → L z none
      → Reads env d causes L (λ c. read_known c shape) a a (let r : Result Z Error = Ok z in r)
  unfolding read read_with
  no_fields is means = record {
    gives = record { m = none; is = means; gave = rw is refl };
    moves = moves_refl _;
    same_env = refl;
    same_levels = refl;
  }

  pub fields_refused : {X Z : Type 0} {own causes : Error → Type 0} {M : Means X} {L : Means Z} {part : Shape} {shape : Option Shape} {a b : D}
      {e : Error} {r : Result Z Error} → IsErrAnd r (λ f. f ≡ e) → Reads env d own M (λ c. read c part) a b (let p : Result X Error = Err e in p)
      → shape ≡ Some part → own ≡ causes → Reads env d causes L (λ c. read_known c shape) a b r
  fields_refused same_error q is causes = rw (is, ← causes) (read-err same_error
      (record { gives = q.gives; moves = q.moves; same_env = q.same_env; same_levels = q.same_levels }) (λ h. h) (λ h. h))
