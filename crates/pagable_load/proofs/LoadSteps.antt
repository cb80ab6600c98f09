-- What a load needs next, what its steps' calls did, and that each of them is what the step is said to do.
use Rattle.either.specs.declared.Either.{Either}
use Rattle.pagable_core.specs.{Context.at_front, Data.blob_of}
use Rattle.pagable_load.specs.{
  AccessView.{Acting, Acts, ActsThen, AdoptsValue, AsksFor, AsksRoot, IfKnown, IsMade, MakesCallBringing, TakesLazily},
  Decoding.{IsReadAs, Needs},
  Frames.{IsLoadOf, frame_of, frames_of, frames_onto, reading_of},
  LoadSteps.{Drops, Met, TriesStep},
  ResolvedReferences.answer_at,
  Outcomes.{answer_of as answers},
  declared.reading.{Frame.Frame as Held, LoadOutcome.LoadOutcome, Need.Need, Reading.Reading as Own},
}
use Rattle.pagable_pager_spec.specs.{
  Access.{IfBothKnown, IfReads, MakesCall, ReadingStep},
  Basics.{NodeNumber, is_in, or_else},
  Calls.moved,
  Cascade.{AreNewEntries, FallsAnyhow, left_rows},
  Kinds.{is_handle, is_pinning},
  LoadCalls.{EndCall, HandOverCall, LoadFetchCall, from_store, numbers_of, without_load},
  Loads.{IsDecoded, IsOfCell, IsOfKey, LoadDoes, LoadIs, MakesNode, Meets, ReadsNode, ReadsRoot, answer_of, answers_from, handles_of, need_at, need_of},
  Loads.{needs_lazy, needs_nested, nested_frame, read_with, reads, root_frame, to_adopt, with_got},
  Pager.{HoldsItsNodes, HoldsPinned, IsCellOf, IsNewNode, IsPagerWhole, Moves, PagerState, ReadingBrings},
  Refusals.OwnsLoad,
  World.{Alike, Core, Frame, OpenLoad, Reading, Values, result_map, row_at},
  declared.{calls.FetchTarget.FetchTarget, events.LoadAnswer.LoadAnswer, handle_row.{HandleRow.HandleRow, Owner.Owner}},
}
use Rattle.pagable_theorems.proofs.{HandlesKept.{find-both, find-left, found-changed}, HeldValues.pinned_law}
use Rattle.pagable_value_spec.specs.{
  Blob.Blob,
  Cursor.{Answer, GivesSome, InputState, handles_at, rest_at},
  Height.longest_path,
  Meaning.Meaning,
  Reading.{Rest, read_typed},
  Shape.Shape,
  declared.{error.Error.Error, numbers.{ArcRef.ArcRef, HandleNumber.HandleNumber, Kind.Kind, LoadNumber.LoadNumber}},
}
use Rattle.std.proofs.{
  Common.{Bool, Err, List, None, Ok, Option, Result, Some, ap, arith, false, if◌then◌else◌, inl, inr, length, refl, slice_get, subst, sym, true, ℕ, [], ◌++◌},
  Common.{◌+◌, ◌<◌, ◌∙◌, ◌∷◌, ◌≡◌, ◌≤◌},
  lemmas.{Bool.Decides.nat_tests, Grind.common_steps, List.nil_from_length},
}
use Rattle.std.specs.{Arc.arc_value, Global.Global, Option.option_map, Prelude.IsTrue, declared.sync.Arc.Arc}
unfoldable use Rattle.pagable_pager_spec.specs.{Kinds.find_row, Refusals.references_fault}
use Rattle.pagable_core.specs.Context as context

-- answers by place, key and kind are those of the references got
same_answers : (got : List ArcRef) (place : ℕ) (keys : List ℕ) → context.answers_from (answer_at got) place keys ≡ answers_from got place keys
unfolding answers_from
same_answers got place [] = refl
same_answers got place (key ∷ keys) = ap (λ (rest : List Answer). (λ kind. answer_of (slice_get got place) kind) ∷ rest) (same_answers got (place + 1) keys)

-- reading at the front of the blob, with these answers, is reading with these references
pub reads_with : {X E N : Type 0} (own : Error → Type 0) (means : X → Meaning ArcRef → Type 0) (nodes : E → ℕ → Option Shape) (parts : E → ℕ → Shape) (t : ℕ)
    (env other : E) (levels : ℕ) (got : List ArcRef) (bytes keys : List ℕ) (blob : Blob) (lent : ℕ → Option (ArcRef × N)) (st : InputState N)
    (after : Rest Answer) (result : Result X Error)
    → st ≡ at_front (answer_at got) lent bytes keys → levels ≡ 0 → other ≡ env → bytes ≡ blob.bytes → keys ≡ blob.keys
    → GivesSome own means after result (read_typed (handles_at levels (parts other)) (nodes other t) (rest_at st))
    → GivesSome own means after result (read_with (record { nodes = nodes env; parts = parts env }) t blob got)
reads_with own means nodes parts t env other levels got bytes keys blob lent st after result s l e b k h =
    let P : List Answer → Type 0 = λ refs. GivesSome own means after result
    (read_typed (handles_at 0 (parts env)) (nodes env t) (let x : Rest Answer = record { bytes = blob.bytes; refs = refs } in x)) in
    let there : P (context.answers_from (answer_at got) 0 blob.keys) = rw (s, l, e, b, k) at h in
    subst P (same_answers got 0 blob.keys) there

-- ---- the blobs of a load

pub length_onto : (below : List Frame) (fs : List Held) → length (frames_onto below fs) ≡ length below + length fs
unfolding frames_onto
length_onto below [] = omega arith
length_onto below (f ∷ fs) = let e = length_onto (frame_of f ∷ below) fs in omega (arith, e)

pub onto_more : (below : List Frame) (fs : List Held) (f : Held) → frames_onto below (fs ++ f ∷ []) ≡ frame_of f ∷ frames_onto below fs
unfolding frames_onto
onto_more below [] f = refl
onto_more below (g ∷ fs) f = onto_more (frame_of g ∷ below) fs f

pub onto_none : (fs : List Held) → fs ≡ [] → frames_onto [] fs ≡ []
unfolding frames_onto
onto_none fs is = ap (frames_onto []) is

adopts : (below : List Frame) (own : Meaning ArcRef) → 0 < length below → need_at below (reads own) ≡ to_adopt
adopts below own some = grind (arith, nat_tests)

module _ {N : Type 0} (v : Values N) (own : Own) (top : Held) (is : own.top ≡ Some top) (x : N)
    (read : IsReadAs v top.node_type (blob_of (arc_value top.blob)) top.got.items x) where
  pub node_needs : 0 < length own.below.items → Needs v own (Need.Adopt x)
  node_needs some = record { is = grind (arith, nat_tests, length_onto, adopts); there = (grind (arith, nat_tests), some) }

  pub end_needs : length own.below.items ≡ 0 → Needs v own (Need.End x)
  end_needs none = record { is = grind (arith, nat_tests, onto_none, nil_from_length); there = tt }

pub ruleset stacking = (nat_tests, onto_none, onto_more)

pub ruleset needing = (nat_tests, node_needs, end_needs)

-- ---- what a step's call did is what the step is said to do

module _ {S : Type 0} where
  pub told_then : {o n m : Option S} {R T Q : S → S → Type 0} → ((s mid t : S) → R s mid → T mid t → Q s t) → IfBothKnown o n R → IfBothKnown n m T
      → IfBothKnown o m Q
  told_then {o} {n} {m} f h k = grind (arith, nat_tests)

  pub tells_both : {o : Option S} {P Q R : S → Type 0} → ((s : S) → P s → Q s → R s) → IfKnown o P → IfKnown o Q → IfKnown o R
  tells_both {o} f h k = grind (arith, nat_tests, common_steps)

  pub tells_map : {o : Option S} {P Q : S → Type 0} → ((s : S) → P s → Q s) → IfKnown o P → IfKnown o Q
  tells_map f h = tells_both (λ s p q. f s p) h h

  pub tells_all : {o : Option S} {P : S → Type 0} → ((s : S) → P s) → IfKnown o P
  tells_all {o} {P} f = grind (arith, nat_tests, common_steps)

-- ---- what an access does

module _ {A S E : Type 0} {told : A → Option S} {by : A → Acting E} where
  pub acts_map : {o n : A} {after : Acting E → Acting E} {R Q : Acting E → S → S → Type 0} → ActsThen told by o n after R
      → ((s t : S) → R (by o) s t → Q (by o) s t) → ActsThen told by o n after Q
  acts_map {o} {n} h f = record { step = grind (arith, nat_tests); acting = h.acting }

  -- one thing after another
  pub acts_on : {o m n : A} {first next after : Acting E → Acting E} {R T Q : Acting E → S → S → Type 0} → ActsThen told by o m first R
      → ActsThen told by m n next T
      → ((s mid t : S) → R (by o) s mid → T (first (by o)) mid t → Q (by o) s t) → next (first (by o)) ≡ after (by o) → ActsThen told by o n after Q
  acts_on {m = m} {n = n} {next = next} {T = T} h k f is = record {
    step = told_then f h.step (subst (λ a. IfBothKnown (told m) (told n) (T a)) h.acting k.step);
    acting = k.acting ∙ ap next h.acting ∙ is;
  }

  pub acts_then : {o m n : A} {R T Q : Acting E → S → S → Type 0} → Acts told by o m R → Acts told by m n T
      → ((s mid t : S) → R (by o) s mid → T (by o) mid t → Q (by o) s t) → Acts told by o n Q
  acts_then h k f = acts_on h k f refl

  -- nothing is done
  pub acts_same : {o : A} {R : Acting E → S → S → Type 0} → IfKnown (told o) (λ s. R (by o) s s) → Acts told by o o R
  acts_same {o} {R} h = record { step = grind (arith, nat_tests, common_steps); acting = refl }

  pub acts_all : {o : A} {R : Acting E → S → S → Type 0} → ((s : S) → R (by o) s s) → Acts told by o o R
  acts_all f = acts_same (tells_all f)

  -- beside what held before
  pub acts_from : {o n : A} {P : S → Type 0} {R Q : Acting E → S → S → Type 0} → IfKnown (told o) P → Acts told by o n R
      → ((s t : S) → P s → R (by o) s t → Q (by o) s t) → Acts told by o n Q
  acts_from {o} {n} {P} {R} {Q} h k f = record { step = grind (arith, nat_tests, common_steps); acting = k.acting }

-- what is known afterwards was known before
pub told-so : {S : Type 0} {R : S → S → Type 0} (b b' : Bool) (s t : S) → IfBothKnown (if b then Some s else None) (if b' then Some t else None) R → IsTrue b'
    → IsTrue b × R s t
told-so true true s t told is = (refl, told.holds)
told-so false true s t told is = absurd told.holds
told-so true false s t told is = absurd (cc)
told-so false false s t told is = absurd (cc)

-- an access lends what it lent before, for whom it did, and where
pub lender-is : {E : Type 0} {a b : Acting E} → a ≡ b → a.lender ≡ b.lender
lender-is {E} e = ap (λ (a : Acting E). a.lender) e

pub me-is : {E : Type 0} {a b : Acting E} → a ≡ b → a.me ≡ b.me
me-is {E} e = ap (λ (a : Acting E). a.me) e

pub environment-is : {E : Type 0} {a b : Acting E} → a ≡ b → a.environment ≡ b.environment
environment-is {E} e = ap (λ (a : Acting E). a.environment) e

-- ---- which values come

was-held : {N E : Type 0} {s t : PagerState N E} → Moves (λ n x. ⊥) s t → (n : ℕ) (x : N) → t.values n ≡ Some x → s.values n ≡ Some x
was-held m n x is = elim (m.each n x is) [ inl was ↦ was | inr came ↦ absurd came.1 ]

pub none_comes : {N E : Type 0} {comes : ℕ → N → Type 0} {s t : PagerState N E} → Moves (λ n x. ⊥) s t → Moves comes s t
none_comes m = record { each = λ n x is. inl (was-held m n x is); environment = m.environment }

pub moves_then : {N E : Type 0} {comes : ℕ → N → Type 0} {s mid t : PagerState N E} → Moves comes s mid → Moves (λ n x. ⊥) mid t → Moves comes s t
moves_then m k = record { each = λ n x is. m.each n x (was-held k n x is); environment = k.environment ∙ m.environment }

-- a new entry of the list pins nothing
new-mode : (last q : ℕ) (entries : List HandleRow) (row : HandleRow) → AreNewEntries last entries → find_row q entries ≡ Some row → is_pinning row.mode ≡ false
unfolding find_row
new-mode last q [] row new found = absurd (cc)
new-mode last q (h ∷ hs) row (number, mode, owner, new) found = let later = new-mode (last + 1) q hs row new in grind (arith, nat_tests, is_handle)

-- no value comes where the pager stays as it is
none-new : {N E : Type 0} (v : Values N) {s t : PagerState N E} → Alike s.core t.core → IsPagerWhole v s → IsPagerWhole v t → (n : ℕ) (x : N) → s.values n
    ≡ None
    → t.values n ≡ Some x → ⊥
none-new v {s} {t} a whole after n x none some =
    let before = whole.valued n in let now = after.valued n in let rows = a.rows in let cells = a.cells n in grind (arith, nat_tests, common_steps)

unmoved : {N E : Type 0} (v : Values N) {comes other : ℕ → N → Type 0} {s t : PagerState N E} → Alike s.core t.core → IsPagerWhole v t → Moves comes s t
    → IsPagerWhole v s → Moves other s t
unmoved v a after m whole = record {
  each = λ n x is. elim (m.each n x is)
      [ inl was ↦ inl was | inr (none, came) ↦ absurd (none-new v a whole after n x none is) ];
  environment = m.environment;
}

-- what pins after handles were handed over pinned the same node before
record PinnedBefore (w : Core) (k : HandleNumber) (row : HandleRow) : Type 0 where
  was : HandleRow
  live : row_at w k ≡ Some was
  at : was.node ≡ row.node
  pins : is_pinning was.mode ≡ true

module _ {w w' before left : Core} {given : ℕ → Bool} (test : ℕ → Bool) (owner : Owner) (same : left.rows ≡ moved test owner w.rows)
    (f : FallsAnyhow before left given w') (k : HandleNumber) (row : HandleRow) where
  pinned-row : find_row k.0 (moved test owner w.rows) ≡ Some row → is_pinning row.mode ≡ true → PinnedBefore w k row
  pinned-row at pins = let c = found-changed (λ r. test r.number.0) (λ r. record r { owner = owner }) (λ r. refl) k.0 w.rows row at in grind (arith, nat_tests)

  pinned-by : (left_row : Option HandleRow) → find_row k.0 (left_rows f.falls.gone left.rows) ≡ left_row → or_else left_row (find_row k.0 f.falls.entries)
      ≡ Some row → is_pinning row.mode ≡ true → PinnedBefore w k row
  pinned-by (Some other) at is pins =
      let l = find-left f.falls.gone k.0 left.rows in
      let there : find_row k.0 left.rows ≡ Some other = grind (arith, nat_tests) in
      let one : other ≡ row = cc in
      pinned-row (ap (λ rows. find_row k.0 rows) (sym same) ∙ there ∙ ap (λ r. Some r) one) pins
  pinned-by None at is pins = absurd (let e = new-mode left.last.handle k.0 f.falls.entries row f.falls.new is in let no : true ≡ false = sym pins ∙ e in cc)

  pinned-before : row_at w' k ≡ Some row → is_pinning row.mode ≡ true → PinnedBefore w k row
  pinned-before live =
      pinned-by _ refl (sym (find-both k.0 (left_rows f.falls.gone left.rows) f.falls.entries) ∙ ap (λ rows. find_row k.0 rows) (sym f.falls.leaves.rows)
      ∙ live)

-- a load of this key asks for its blob
pub root-asked : {B : Type 0} {see : B → Blob} {w w' : Core} {me : Owner} {own : Own} {r : Result B Error} → IsLoadOf w me own
    → AsksRoot see w me own.load own.key r w'
    → LoadFetchCall w me own.load FetchTarget.Root (result_map (λ d. from_store (see d)) r) w'
root-asked o a = elim a.asked [
  | inl asked ↦ asked
  | inr (other, refused, alike) ↦ let e : Some other.load ≡ Some o.load = sym other.open_load ∙ o.owned.stands_open in
      let same : other.load ≡ o.load = cc in absurd (other.other (ap (λ (x : OpenLoad). x.key) same ∙ o.key))
]

module _ {N : Type 0} (E : Type 0) (v : Values N) (me : Owner) (own : Own) where
  abbrev reading : Reading
  reading = reading_of own

  comes_as : {comes other : ℕ → N → Type 0} {s t : PagerState N E} → ((n : ℕ) (x : N) → comes n x → other n x) → Moves comes s t → Moves other s t
  comes_as f m = record { each = λ n x is. elim (m.each n x is) [ inl was ↦ inl was | inr (none, came) ↦ inr (none, f n x came) ]; environment = m.environment }

  pub met : {does : Core → Type 0} {s t : PagerState N E} {e : Error} → MakesCall v does s t → Meets v s.core me reading e t.core → Met v me reading s e t
  met c m = record { meets = m; moves = none_comes c.moves; holds = λ w. none_comes c.moves }

  went : {does : Core → Type 0} {s t : PagerState N E} {answer : Option (LoadAnswer N)} {frames : List Frame} → MakesCall v does s t
      → IfReads answer (HoldsPinned v t) → LoadDoes v s.core me reading answer frames t.core → ReadingStep v me reading s answer frames t
  went c h d = record { does = record { does = d }; moves = none_comes c.moves; holds = λ w. none_comes c.moves; answers = h; whole = c.whole }

  -- a value that comes is this one, which holds what the handles of its good references pin
  came-held : (x : N) {where_to : ℕ → Type 0} {s t : PagerState N E} → references_fault s.core (Owner.Load own.load) [] (v.references x) ≡ None
      → HoldsPinned v s x → Moves (λ n y. (y ≡ x) × where_to n) s t
      → IsPagerWhole v s → Moves (λ n y. HoldsItsNodes v s y) s t
  came-held x {s = s} good pinned m whole = comes_as (λ n y came. subst (HoldsItsNodes v s) (sym came.0)
      (pinned_law E v s (Owner.Load own.load) x whole good pinned)) m

  goes : {s t : PagerState N E} {outcome : Option (LoadOutcome N)} {frames : List Frame}
      → (IsLoadOf s.core me own → ReadingStep v me reading s (option_map answers outcome) frames t) → TriesStep v me own s (Ok outcome) frames t
  goes f = record { does = f; meets = λ is. tt }

  pub fails : {s t : PagerState N E} {e : Error} {frames : List Frame} → (IsLoadOf s.core me own → Met v me reading s e t)
      → TriesStep v me own s (Err e) frames t
  fails f = record { does = λ is. tt; meets = f }

  module _ (first : frames_of own.top own.below.items ≡ []) where
    pub root_comes : {B : Type 0} (see : B → Blob) (blob : B) (frames : List Frame) → frames ≡ root_frame own.key own.node_type (see blob) ∷ [] → (s t : PagerState N E)
        → MakesCall v (λ w'. AsksRoot see s.core me own.load own.key (Ok blob) w') s t → TriesStep v me own s (Ok None) frames t
    root_comes see blob frames is s t c = goes (λ o. went c tt (inl (record {
      load = o.load;
      blob = see blob;
      first = first;
      open_load = o.owned.stands_open;
      asked = root-asked o c.step;
      goes = is ∙ ap (λ k. root_frame k own.node_type (see blob) ∷ []) (sym o.key);
    })))

  module _ (kind : Kind) (key : ℕ) (top : Held) (under : List Held) (was : frames_of own.top own.below.items ≡ frame_of top ∷ frames_onto [] under) where
    got_goes : (w : Core) (r : ArcRef) (frames : List Frame) → frames ≡ record (frame_of top) { got = top.got.items ++ r ∷ [] } ∷ frames_onto [] under
        → (m : IsMade w kind r) → frames ≡ with_got kind m.row reading.frames
    got_goes w r frames is m = is ∙ ap (λ (x : ArcRef). record (frame_of top) { got = top.got.items ++ x ∷ [] } ∷ frames_onto [] under) m.is
        ∙ ap (with_got kind m.row) (sym was)

    deep : length reading.frames ≡ length under + 1
    deep = let l = length_onto [] under in ap length was ∙ omega (arith, l)

    module _ {B : Type 0} (see : B → Blob) (need : need_of v.types reading.frames ≡ needs_nested kind key) where
      pub nested_known : (r : ArcRef) (frames : List Frame) → frames ≡ record (frame_of top) { got = top.got.items ++ r ∷ [] } ∷ frames_onto [] under
          → (s t : PagerState N E) → MakesCall v (λ w'. AsksFor see s.core me own.load kind key (Ok (Either.Left r)) w') s t
          → TriesStep v me own s (Ok None) frames t
      nested_known r frames is s t c = goes (λ o. went c tt (inr (inl (record {
        kind = kind;
        key = key;
        k = r.handle;
        row = c.step.made.row;
        needs = need;
        asked = c.step.asked;
        made = c.step.made.live;
        goes = got_goes t.core r frames is c.step.made;
      }))))

      pub nested_blob : (blob : B) (frames : List Frame) → frames ≡ nested_frame kind key (see blob) ∷ frame_of top ∷ frames_onto [] under
          → length under < longest_path → (s t : PagerState N E) → MakesCall v (λ w'. AsksFor see s.core me own.load kind key (Ok (Either.Right blob)) w') s t
          → TriesStep v me own s (Ok None) frames t
      nested_blob blob frames is short s t c = goes (λ o. went c tt (inr
          (inr (inl (record {
            kind = kind;
            key = key;
            blob = see blob;
            needs = need;
            short = omega (arith, deep, short);
            asked = c.step.asked;
            goes = is ∙ ap (λ fs. nested_frame kind key (see blob) ∷ fs) (sym was);
          })))))

      pub nested_deep : (blob : B) (e : Error) (frames : List Frame) → e ≡ Error.TooDeep → longest_path ≤ length under → (s t : PagerState N E)
          → MakesCall v (λ w'. AsksFor see s.core me own.load kind key (Ok (Either.Right blob)) w') s t → TriesStep v me own s (Err e) frames t
      nested_deep blob e frames is long s t c = fails (λ o. met c (inr (inr
          (inl (kind, key, need, inr (see blob, is, (omega (arith, deep, long)), c.step.asked))))))

    module _ (need : need_of v.types reading.frames ≡ needs_lazy kind key) where
      pub lazy_comes : (r : ArcRef) (frames : List Frame) → frames ≡ record (frame_of top) { got = top.got.items ++ r ∷ [] } ∷ frames_onto [] under
          → (s t : PagerState N E) → MakesCall v (λ w'. TakesLazily s.core me own.load kind key (Ok r) w') s t → TriesStep v me own s (Ok None) frames t
      lazy_comes r frames is s t c = goes (λ o. went c tt (inr (inr (inr
          (inl (record {
            kind = kind;
            key = key;
            k = r.handle;
            row = c.step.made.row;
            needs = need;
            asked = c.step.taken;
            made = c.step.made.live;
            goes = got_goes t.core r frames is c.step.made;
          }))))))

  module _ (x : N) (node : ReadsNode v reading x) (top under : Held) (rest : List Held)
      (was : frames_of own.top own.below.items ≡ frame_of top ∷ frame_of under ∷ frames_onto [] rest) where
    -- the same by the blobs that were taken off
    abbrev own_node : ReadsNode v reading x
    own_node = let is : frame_of top ≡ node.top = let e : frame_of top ∷ frame_of under ∷ frames_onto [] rest ≡ node.top ∷ node.below =
        sym was ∙ node.frames in cc in
        record {
          top = frame_of top;
          below = frame_of under ∷ frames_onto [] rest;
          frames = was;
          needs = node.needs;
          decoded = subst (λ (f : Frame). IsDecoded v f x) (sym is) node.decoded;
        }

    brought : {s t : PagerState N E} → Moves (λ n y. (y ≡ x) × IsNewNode s.core n) s t → Moves (ReadingBrings v s.core reading) s t
    brought {s} m = comes_as (λ n y came. inl (subst (ReadsNode v reading) (sym came.0) node, came.1)) m

    pub adopt_comes : (r : ArcRef) (frames : List Frame) → frames ≡ record (frame_of under) { got = under.got.items ++ r ∷ [] } ∷ frames_onto [] rest
        → (s t : PagerState N E) → HoldsPinned v s x
        → MakesCallBringing v (λ w'. AdoptsValue s.core me own.load top.kind top.key x (v.node_type x) (v.references x) (Ok r) w')
        (λ n y. (y ≡ x) × IsNewNode s.core n) s t → TriesStep v me own s (Ok None) frames t
    adopt_comes r frames is s t pinned c =
        goes (λ o. record {
          does = record { does = inr (inr (inr (inr made))) };
          moves = brought c.moves;
          holds = came-held x c.step.adopted.adopts.good pinned c.moves;
          answers = tt;
          whole = c.whole;
        })
      where
        made : MakesNode v s.core me reading frames t.core
        made =
            let goes = is ∙ ap (λ (y : ArcRef). record (frame_of under) { got = under.got.items ++ y ∷ [] } ∷ frames_onto [] rest) c.step.made.is in
            record { x = x; reads_node = own_node; k = r.handle; row = c.step.made.row; adopted = c.step.adopted; made = c.step.made.live; goes = goes }

    pub adopt_refused : (e : Error × N) (frames : List Frame) (s t : PagerState N E)
        → MakesCallBringing v (λ w'. AdoptsValue s.core me own.load top.kind top.key x (v.node_type x) (v.references x) (Err e) w')
        (λ n y. (y ≡ x) × IsNewNode s.core n) s t → TriesStep v me own s (Err e.0) frames t
    adopt_refused e frames s t c = fails (λ o. record {
      meets = inr (inr (inr (inr (inl (record {
        x = x;
        reads_node = own_node;
        adopted = record { adopts = tt; refused = (refl, c.step.adopted.refused.1) };
      })))));
      moves = brought c.moves;
      holds = unmoved v c.step.adopted.refused.1.stays c.whole c.moves;
    })

  module _ (x : N) (root : ReadsRoot v reading x) (cell : own.for_cell ≡ true) where
    for_cell : (w : Core) → IsLoadOf w me own → LoadIs w reading IsOfCell
    for_cell w o = record { load = o.load; open_load = o.owned.stands_open; sort = grind (arith, nat_tests) }

    comes : {s t : PagerState N E} → Moves (λ n y. (y ≡ x) × IsCellOf s.core own.load n) s t → Moves (ReadingBrings v s.core reading) s t
    comes {s} m = comes_as (λ n y came. inr (subst (ReadsRoot v reading) (sym came.0) root, came.1)) m

    pub end_pins : (k : HandleNumber) (read : Option (Arc N Global)) (frames : List Frame) → frames ≡ [] → (s t : PagerState N E) → HoldsPinned v s x
        → MakesCallBringing v (λ w'. EndCall s.core me own.load x (v.node_type x) (v.references x) (Ok k) w') (λ n y. (y ≡ x) × IsCellOf s.core own.load n) s t
        → TriesStep v me own s (Ok (Some (LoadOutcome.Pinned k read))) frames t
    end_pins k read frames none s t pinned c =
        goes (λ o. record {
          does = record { does = (record { x = x; reads_root = root; of_cell_load = for_cell s.core o; ended = c.step }, none) };
          moves = comes c.moves;
          holds = came-held x c.step.installs.2.good pinned c.moves;
          answers = tt;
          whole = c.whole;
        })

    pub end_closed : (e : Error) (frames : List Frame) → frames ≡ [] → (s t : PagerState N E) → HoldsPinned v s x
        → MakesCallBringing v (λ w'. EndCall s.core me own.load x (v.node_type x) (v.references x) (Err (e, None)) w')
        (λ n y. (y ≡ x) × IsCellOf s.core own.load n) s t
        → TriesStep v me own s (Ok (Some (LoadOutcome.Refused e))) frames t
    end_closed e frames none s t pinned c =
        goes (λ o. record {
          does = record { does = (inr (record { x = x; reads_root = root; ended = c.step }), none) };
          moves = comes c.moves;
          holds = came-held x c.step.refused.may.good pinned c.moves;
          answers = tt;
          whole = c.whole;
        })

    pub end_refused : (e : Error) (y : N) (frames : List Frame) (s t : PagerState N E)
        → MakesCallBringing v (λ w'. EndCall s.core me own.load x (v.node_type x) (v.references x) (Err (e, Some y)) w')
        (λ n z. (z ≡ x) × IsCellOf s.core own.load n) s t
        → TriesStep v me own s (Err e) frames t
    end_refused e y frames s t c = fails (λ o. record {
      meets = inr (inr (inr (inr (inr (record {
        x = x;
        reads_root = root;
        refuses = inl (
          for_cell s.core o,
          subst (λ z. EndCall s.core me own.load x (v.node_type x) (v.references x) (Err (e, Some z)) t.core) c.step.refused.0
              c.step,
        );
      })))));
      moves = comes c.moves;
      holds = unmoved v c.step.refused.1.stays c.whole c.moves;
    })

  module _ (x : N) (root : ReadsRoot v reading x) (sort : own.for_cell ≡ false) (named : List HandleNumber) (is : named ≡ handles_of (v.references x)) where
    for_key : (w : Core) → IsLoadOf w me own → LoadIs w reading IsOfKey
    for_key w o = record { load = o.load; open_load = o.owned.stands_open; sort = grind (arith, nat_tests) }

    handed-holds : {s t : PagerState N E} → MakesCall v (λ w'. HandOverCall s.core me own.load named (Ok tt) w') s t → HoldsPinned v s x → HoldsPinned v t x
    handed-holds {s} {t} c pinned = record {
      each = λ r y value.
          let (row, live, (pins, held)) = value.found in
          let left = record (without_load s.core own.load) { rows = moved (is_in (numbers_of named)) me s.core.rows } in
          let p = pinned-before {w = s.core} {left = left} (is_in (numbers_of named)) me refl c.step.hands.1 r.handle row live pins in
          pinned.each r y (record {
            found = (p.was, p.live, (p.pins, ap (λ (n : NodeNumber). s.values n.0) p.at ∙ was-held c.moves row.node.0 y held));
            refused = tt;
          });
    }

    pub hands_over : (frames : List Frame) → frames ≡ [] → (s t : PagerState N E) → HoldsPinned v s x
        → MakesCall v (λ w'. HandOverCall s.core me own.load named (Ok tt) w') s t → TriesStep v me own s (Ok (Some (LoadOutcome.Read x))) frames t
    hands_over frames none s t pinned c = goes (λ o. went c (handed-holds c pinned) (
      record { reads_root = root; of_key_load = for_key s.core o; handed = subst (λ hs. HandOverCall s.core me own.load hs (Ok tt) t.core) is c.step },
      none,
    ))

    pub hand_over_refused : (e : Error) (frames : List Frame) (s t : PagerState N E) → MakesCall v (λ w'. HandOverCall s.core me own.load named (Err e) w') s t
        → TriesStep v me own s (Err e) frames t
    hand_over_refused e frames s t c = fails (λ o. met c (inr (inr (inr (inr
        (inr (record {
          x = x;
          reads_root = root;
          refuses = inr (for_key s.core o, subst (λ hs. HandOverCall s.core me own.load hs (Err e) t.core) is c.step);
        })))))))

  -- ---- a refusal gives the load up

  -- while it is met the load stays open
  stays_open : (w w' : Core) (e : Error) → Meets v w me reading e w' → w'.loads own.load.0 ≡ w.loads own.load.0
  stays_open w w' e m = grind (arith, common_steps, nat_tests)

  pub gives_up : (e : Error) (l : LoadNumber) (frames none : List Frame) → l ≡ own.load → none ≡ [] → (s mid t : PagerState N E)
      → TriesStep v me own s (Err e) frames mid → Drops v me l mid t
      → TriesStep v me own s (Ok (Some (LoadOutcome.Refused e))) none t
  gives_up e l frames none at is s mid t tried dropped = goes (λ o.
      let d = subst (λ n. Drops v me n mid t) at dropped in
      let m = tried.meets o in
      let open_load : OwnsLoad mid.core me own.load o.load = record {
        stands_open = stays_open s.core mid.core e m.meets ∙ o.owned.stands_open;
        own = o.owned.own;
      } in
      record {
        does = record { does = (inl (record { mid = mid.core; meets = m.meets; told = d.told; closes = grind (arith, nat_tests) }), is) };
        moves = moves_then m.moves d.call.moves;
        holds = λ w. moves_then (m.holds w) d.call.moves;
        answers = tt;
        whole = d.call.whole;
      })

pub ruleset giving_up = (nat_tests, acts_then, gives_up)
