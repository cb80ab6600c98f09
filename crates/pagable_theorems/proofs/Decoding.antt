-- What a blob asks for next depends only on the kinds of the references that were got. A blob that asks for nothing more is a form of some value, which names
-- no handle twice if the handles that were got are distinct. The value leads to what the blob's key reads as: reading the blob with the references that were
-- got runs parallel to reading it with its bare keys, each of which reads as the tree of the node that was got for it.
use Rattle.pagable_pager_spec.specs.{
  Loads.{IsDecoded, answer_of, answers_from, asks, is_faulty, next_by, next_of, read_with, reads},
  Order.{after_kinds, some_of},
  Pager.{FrameFits, MeaningStands, NodeStands, ReadsNodeTree, followed-stands, integer-stands, none-stands, number-stands, pair-stands, pattern-stands},
  Pager.{reference-stands, text-stands, variant-stands},
  Refusals.reference_fault,
  Runs.ReadsAsValue,
}
use Rattle.pagable_theorems.proofs.{
  Naturality.{Out, OutLook, any_cause, both-faulty, both-given, both-looked-up, both-not, both-refused, each, first-not, first-refused, keeps_forms, no_cause},
  Naturality.{one_cause, read_par, renamed, typed_par},
  RoundTrip.{Looked, form-again, looks-itself, not-looked, one-looked, read_again},
  Trees.{AllTwo, Along, at-most-sum, counted, each-two, followed-along, integer-along, more-two, no-two, none-along, number-along, one-true},
  Trees.{pair-along, pattern-along, reference-along, refs-two, same-number, self-number, swap-two, text-along, tree_is, variant-along},
  Words.{Among, ArcRef, Blob, Bool, Core, Err, Error, Form, Frame, IsLawful, IsReadable, IsReadableType, IsReference, Kind, List, Meaning, None, Ok, Option},
  Words.{Owner, PagerState, Result, Shape, Some, Throughout, Tree, Types, Values, and_parts, ap, append-nil, append_assoc, arith},
  Words.{basics, cases_Bool, cases_lt, false, followed, if◌then◌else◌, inl, inr, integer-leads, is_eager, is_in, length, length-append, map, next_in, none},
  Words.{one, pair, read, reference, references_fault, references_in, refl, rest, slice_get, subst, suc, sum_by-cons, sym, times, tree, true, type_of, variant},
  Words.{zero, ℕ, [], ◌&&◌, ◌++◌, ◌+◌, ◌==◌, ◌∙◌, ◌∷◌, ◌≡◌, ◌≤◌, ◌⊎◌},
}
use Rattle.pagable_theorems.specs.{
  FormLaws.at,
  TreeSteps.{Decoded, LeadsTo, followed-leads, none-leads, number-leads, pair-leads, pattern-leads, reference-leads, text-leads, variant-leads},
}
use Rattle.pagable_value_spec.specs.{
  Cursor.{Answer, answer_at, handles_at},
  Meaning.{integer, number, pattern, text},
  ReadSteps.◌>>=◌,
  Reading.{Rest, deepest},
  References.SameReferences,
  Trees.{IsFollowed, KeyRef, ReadsAs, integer-followed, key_ref, none-followed, number-followed, pair-followed, pattern-followed, reference-followed, rest_of},
  Trees.{text-followed, variant-followed},
  Writing.kind_of_arc,
}
use Rattle.std.proofs.{Common.sum_by, lemmas.{List.{length-map, map-append}, Option.{slice_get-get_or, slice_get_past}}}

abbrev pub kinds_of : List ArcRef → List ℕ
kinds_of got = map (λ (r : ArcRef). r.kind.0) got

abbrev AnswersAlike : Answer → Answer → Type 0
AnswersAlike a b = (kind : ℕ) → OutLook one_cause (λ r q. Unit {0}) (a kind) (b kind)

got-alike : (got : List ArcRef) (place : ℕ) → AnswersAlike (answer_of (slice_get got place)) (answer_of (slice_get (some_of (kinds_of got)) place))
got-alike (r ∷ rs) (suc place) kind = got-alike rs place kind
got-alike x0 x1 kind = grind (basics, both-not, both-looked-up)

answers-alike : (got : List ArcRef) (place : ℕ) (keys : List ℕ) → AllTwo AnswersAlike (answers_from got place keys)
    (answers_from (some_of (kinds_of got)) place keys)
unfolding answers_from
answers-alike got place [] = no-two
answers-alike got place (key ∷ keys) = more-two _ _ _ _ (got-alike got place) (answers-alike got (place + 1) keys)

-- what is answered for keys goes with as many others where it does in each place
answers-two : {Y : Type 0} (R : Answer → Y → Type 0) (got : List ArcRef) (place : ℕ) (keys : List ℕ) (ys : List Y) → length keys ≡ length ys
    → ((i : ℕ) (y : Y) → slice_get ys i ≡ Some y → (n : ℕ) → n ≡ place + i → R (answer_of (slice_get got n)) y) → AllTwo R (answers_from got place keys) ys
unfolding answers_from
answers-two R got place [] [] few all = no-two
answers-two R got place (k ∷ ks) (y ∷ ys) few all =
    more-two _ y _ ys (all 0 y refl place (omega arith)) (answers-two R got (place + 1) ks ys (omega arith)
    (λ i z is n at. all (suc i) z is n (omega arith)))
answers-two R got place _ _ few all = absurd (omega arith)

-- the same next, but for the references in what is read
by-alike : (key : Option ℕ) {first second : Result (Meaning ArcRef × Rest Answer) Error}
    → Out one_cause (AllTwo AnswersAlike) (Along (Unit {0}) (λ r q. Unit {0})) first second
    → ((own : Meaning ArcRef) → next_by key first ≡ reads own → ⊥) → next_by key second ≡ next_by key first
by-alike key (both-given p q v s) isnt = absurd (isnt p.0 refl)
by-alike key (both-faulty e sober) isnt = refl
by-alike key (both-refused e f same) isnt = ap (λ x. next_by key (Err x)) (sym same)
by-alike key (first-refused e r c) isnt = absurd (no_cause c)

next-alike : (types : Types) (t : ℕ) (blob : Blob) (got : List ArcRef) → ((own : Meaning ArcRef) → next_of types t blob got ≡ reads own → ⊥)
    → after_kinds types t blob (kinds_of got) ≡ next_of types t blob got
next-alike types t blob got isnt =
    let two = typed_par {E = one_cause} {F = Unit {0}} {T = AllTwo AnswersAlike} {R = (λ r q. Unit {0})} {parts = types.parts} answer_at answer_at
    (each _ _ (λ kind a b h. h kind)) 0 (types.nodes t) (λ s is. inl tt)
    (rest blob.bytes (answers_from got 0 blob.keys)) (rest blob.bytes (answers_from (some_of (kinds_of got)) 0 blob.keys))
    (record { bytes = refl; refs = answers-alike got 0 blob.keys }) in
    ap (λ n. next_by (slice_get blob.keys n) (read_with types t blob (some_of (kinds_of got)))) (length-map (kinds_of got) _ ∙ length-map got _)
    ∙ by-alike _ two isnt

pub asks-by-kinds : (types : Types) (t : ℕ) (blob : Blob) (got : List ArcRef) (kind : Kind) (key : ℕ) → next_of types t blob got ≡ asks kind key
    → after_kinds types t blob (kinds_of got) ≡ asks kind key
asks-by-kinds types t blob got kind key is = next-alike types t blob got (λ own e. cc (sym e ∙ is)) ∙ is

pub faulty-by-kinds : (types : Types) (t : ℕ) (blob : Blob) (got : List ArcRef) (e : Error) → next_of types t blob got ≡ is_faulty e
    → after_kinds types t blob (kinds_of got) ≡ is_faulty e
faulty-by-kinds types t blob got e is = next-alike types t blob got (λ own o. cc (sym o ∙ is)) ∙ is

pub kinds-pushed : (got : List ArcRef) (r : ArcRef) → kinds_of (got ++ r ∷ []) ≡ kinds_of got ++ r.kind.0 ∷ []
kinds-pushed got r = map-append (λ (q : ArcRef). q.kind.0) got (r ∷ [])

-- an answer, by the kind of its reference
abbrev pub look_kind : ℕ → Answer → Result ℕ Error
look_kind kind a = answer_at kind a >>= λ r. Ok (kind_of_arc r)

-- what is looked up of kinds, where the front is behind and the back was got
abbrev pub Lookup : List ArcRef → List ArcRef → List ℕ → List ℕ → Result (List Answer) Error → Type 0
Lookup front back keys kinds c = Looked look_kind (λ k. k) (answers_from (front ++ back) (length front) keys) kinds c

pub at-place : (front : List ArcRef) (g : ArcRef) (back : List ArcRef) → slice_get (front ++ g ∷ back) (length front) ≡ Some g
at-place [] g back = refl
at-place (x ∷ xs) g back = at-place xs g back

pub looked-none : (front : List ArcRef) (kind key : ℕ) (kinds keys : List ℕ) → Lookup front [] (key ∷ keys) (kind ∷ kinds) (Err (Error.Storage kind))
unfolding answers_from
looked-none front kind key kinds keys = not-looked _ _ _ _ _ (rw (slice_get_past (front ++ []) (length front) (omega (arith, length-append front []))) refl)

pub looked-more : (front : List ArcRef) (g : ArcRef) (back : List ArcRef) (kind key : ℕ) (kinds keys : List ℕ) (c : Result (List Answer) Error)
    → g.kind.0 ≡ kind → Lookup (front ++ g ∷ []) back keys kinds c → Lookup front (g ∷ back) (key ∷ keys) (kind ∷ kinds) c
unfolding answers_from
looked-more front g back kind key kinds keys c same tail =
    let moved = subst (λ gs. Looked look_kind (λ k. k) (answers_from gs (length (front ++ g ∷ [])) keys) kinds c) (append_assoc front (g ∷ []) back) tail in
    one-looked _ _ _ _ c (let there = at-place front g back in grind (arith, self-number))
    (subst (λ n. Looked look_kind (λ k. k) (answers_from (front ++ g ∷ back) n keys) kinds c) (length-append front (g ∷ [])) moved)

-- where the first were got, the next one is refused
pub looked : {X : Type 0} (kind : X → ℕ) (front back : List ArcRef) (done : List X) (q : X) (more : List X) (keys : List ℕ) → kinds_of back ≡ map kind done
    → length keys ≡ length (done ++ q ∷ more) → Lookup front back keys (map kind (done ++ q ∷ more)) (Err (Error.Storage (kind q)))
looked kind front [] [] q more (key ∷ keys) same few = looked-none front (kind q) key (map kind more) keys
looked kind front (g ∷ back) (d ∷ done) q more (key ∷ keys) same few =
    looked-more front g back (kind d) key (map kind (done ++ q ∷ more)) keys _ (cc) (looked kind (front ++ g ∷ []) back done q more keys (cc) (omega arith))
looked kind front x1 x2 q more x4 same few = grind basics

-- A blob that is a form of a value of the type, which names no handle twice: its bytes, and a key for each reference.
pub record IsFormOf (types : Types) (t : ℕ) (blob : Blob) (refs : List ArcRef) : Type 0 where
  pub shape : Shape
  pub own : Meaning ArcRef
  pub is : types.nodes t ≡ Some shape
  pub can : Throughout IsReadable types.parts shape
  pub form : Form ArcRef kind_of_arc types.parts deepest shape own blob.bytes refs
  pub as_many : length blob.keys ≡ length refs
  pub once : (q : ℕ) → times (λ (r : ArcRef). r.handle.0 == q) (references_in own) ≤ 1

-- the one was got in the place of the other
record InPlace (got refs : List ArcRef) (g r : ArcRef) : Type 0 where
  place : ℕ
  of_got : slice_get got place ≡ Some g
  of_refs : slice_get refs place ≡ Some r

-- a reference is read as its own kind
abbrev own_look : ℕ → ArcRef → Result ArcRef Error
own_look kind r = if r.kind.0 == kind then Ok r else Err Error.WrongKind

kind-at : (got refs : List ArcRef) → kinds_of got ≡ kinds_of refs → (place : ℕ) (r : ArcRef) → slice_get refs place ≡ Some r → (g : ArcRef)
    × (slice_get got place ≡ Some g) × (g.kind.0 ≡ r.kind.0)
kind-at got [] same place r is = absurd (cc)
kind-at [] (x ∷ refs) same place r is = absurd (cc)
kind-at (g ∷ got) (x ∷ refs) same zero r is = (g, refl, cc)
kind-at (g ∷ got) (x ∷ refs) same (suc place) r is = kind-at got refs (cc) place r is

-- what was read in the one way was read in the other
pub given-too : {A B X Y : Type 0} {E : Error → Error → Type 0} {T : List A → List B → Type 0} {V : X → Y → Type 0} {x : X} {after : Rest A}
    {first : Result (X × Rest A) Error} {second : Result (Y × Rest B) Error}
    → Out E T V first second → first ≡ Ok (x, after) → (y : Y) × (left : Rest B) × (second ≡ Ok (y, left)) × V x y
given-too x0 e = grind (basics, both-given)

-- What was got for a blob was asked for, one reference after another.
pub data GotAsked (types : Types) (t : ℕ) (blob : Blob) : List ArcRef → Type 0 where
  none-got : (got : List ArcRef) → got ≡ [] → GotAsked types t blob got
  one-got : (got more : List ArcRef) (r : ArcRef) (key : ℕ) → GotAsked types t blob got → next_of types t blob got ≡ asks r.kind key → more ≡ got ++ r ∷ []
      → GotAsked types t blob more

-- What each blob has got was asked for, and each blob but the root's was asked for by the one below it, through a reference that is read together with it.
unfoldable pub FramesAsked : Types → List Frame → Type 0
FramesAsked types [] = Unit {0}
FramesAsked types (frame ∷ []) = GotAsked types frame.node_type frame.blob frame.got
FramesAsked types (frame ∷ below ∷ rest) =
    GotAsked types frame.node_type frame.blob frame.got × (is_eager frame.kind.0 ≡ true) × (next_in types below ≡ asks frame.kind frame.key)
    × FramesAsked types (below ∷ rest)

-- What comes next where the first of the form's references were got: it is read, and all were got, or it asks for one more.
pub data Ahead (types : Types) (t : ℕ) (blob : Blob) (refs got : List ArcRef) : Type 0 where
  all-done : (own : Meaning ArcRef) → next_of types t blob got ≡ reads own → kinds_of got ≡ kinds_of refs → Ahead types t blob refs got
  one-left : (done left : List ArcRef) (q : ArcRef) (key : ℕ) → refs ≡ done ++ q ∷ left → kinds_of got ≡ kinds_of done → slice_get blob.keys (length done)
      ≡ Some key
      → next_of types t blob got ≡ asks q.kind key → Ahead types t blob refs got

module _ (types : Types) (t : ℕ) (blob : Blob) (refs : List ArcRef) (f : IsFormOf types t blob refs) where
  abbrev input : List ArcRef → Rest Answer
  input got = rest blob.bytes (answers_from got 0 blob.keys)

  by-shape : (got : List ArcRef) → read_with types t blob got ≡ read (handles_at 0 types.parts) f.shape (input got)
  by-shape got = rw f.is refl

  -- with the first of its references it asks for the next
  asks-next : (got done : List ArcRef) (q : ArcRef) (more : List ArcRef) → refs ≡ done ++ q ∷ more → kinds_of got ≡ kinds_of done
      → (key : ℕ) × (slice_get blob.keys (length done) ≡ Some key) × (next_of types t blob got ≡ asks q.kind key)
  unfolding read
  asks-next got done q more split same =
      let few : length blob.keys ≡ length (done ++ q ∷ more) = f.as_many ∙ ap length split in
      let stops = subst (λ (rs : List ArcRef). Lookup [] got blob.keys (map kind_of_arc rs) (Err (Error.Storage q.kind.0))) (sym split)
      (looked kind_of_arc [] got done q more blob.keys same few) in
      let stopped = form-again [] (keeps_forms kind_of_arc kind_of_arc (λ k. k) types.parts deepest f.shape f.own blob.bytes refs (λ a. refl) f.form) stops
      f.can in
      let refused : read (at 0 look_kind types.parts) f.shape (input got) ≡ Err (Error.Storage q.kind.0) = rw append-nil at stopped in
      let as_read = sym (renamed kind_of_arc answer_at 0 types.parts f.shape (input got)) ∙ refused in
      let first : read (handles_at 0 types.parts) f.shape (input got) ≡ Err (Error.Storage q.kind.0) = grind basics in
      let there = slice_get-get_or blob.keys (length done) 0 (omega (arith, length-append done (q ∷ more))) in
      let kind = λ (r : ArcRef). r.kind.0 in
      let gotten : length got ≡ length done = sym (length-map got kind) ∙ ap length same ∙ length-map done kind in (
        _,
        there,
        ap (λ r. next_by (slice_get blob.keys (length got)) r) (by-shape got ∙ first)
            ∙ ap (λ o. next_by o (Err (Error.Storage q.kind.0))) (ap (slice_get blob.keys) gotten ∙ there),
      )

  module _ (got : List ArcRef) (same : kinds_of got ≡ kinds_of refs) where
    abbrev Answers : Answer → ArcRef → Type 0
    Answers a r = (kind : ℕ) → OutLook one_cause (λ r g. InPlace got refs g r) (own_look kind r) (a kind)

    -- with all of them it is read, and refers in each place to what was got there
    reads-all : (own : Meaning ArcRef) × (next_of types t blob got ≡ reads own) × Along ⊥ (λ r g. InPlace got refs g r) f.own own
    unfolding read
    reads-all =
        let all = swap-two (answers-two Answers got 0 blob.keys refs f.as_many (λ i r is n at.
        let g = kind-at got refs same i r is in let here : n ≡ i = omega arith in
        subst (λ o. Answers (λ kind. answer_of o kind) r) (sym (ap (slice_get got) here ∙ g.1)) (grind (arith, both-looked-up, both-not)))) in
        let par = read_par {E = one_cause} {F = ⊥} {T = AllTwo (λ r a. Answers a r)} {R = λ r g. InPlace got refs g r} own_look answer_at
        (each _ _ (λ kind r a h. h kind)) 0 f.shape (inr f.can) in
        let whole : read (record { levels = 0; look = own_look; parts = types.parts }) f.shape (rest blob.bytes refs) ≡ Ok (f.own, rest [] []) =
        rw (append-nil, append-nil) at (read_again types.parts f.shape f.can 0 own_look kind_of_arc f.own blob.bytes [] refs refs []
        (looks-itself (λ r. let e = self-number r.kind.0 in rw e refl) refs) f.form) in
        let out = par.out (rest blob.bytes refs) (rest blob.bytes (answers_from got 0 blob.keys)) (record { bytes = refl; refs = all }) in
        let (own, left, given, along) = given-too out whole in
        (own, ap (λ r. next_by (slice_get blob.keys (length got)) r) (by-shape got ∙ given), along)

  ahead : (got done left : List ArcRef) → refs ≡ done ++ left → kinds_of got ≡ kinds_of done → Ahead types t blob refs got
  ahead got done [] split same = let all = same ∙ ap kinds_of (sym (split ∙ append-nil done)) in let w = reads-all got all in all-done w.0 w.1 all
  ahead got done (q ∷ left) split same = let a = asks-next got done q left split same in one-left done left q a.0 split same a.1 a.2

  pub comes-to : {got : List ArcRef} → GotAsked types t blob got → Ahead types t blob refs got
  comes-to (none-got got is) = ahead got [] refs refl (ap kinds_of is)
  comes-to (one-got got more r key h next is) = subst (Ahead types t blob refs) (sym is) (elim (comes-to h) [
    | all-done own read all ↦ absurd (cc (sym read ∙ next))
    | one-left done left q k split same there asked ↦
        let kinds : q.kind ≡ r.kind = cc in
        ahead (got ++ r ∷ []) (done ++ q ∷ []) left (split ∙ sym (append_assoc done (q ∷ []) left))
        (kinds-pushed got r ∙ ap (λ ks. ks ++ r.kind.0 ∷ []) same ∙ ap (λ (k : Kind). kinds_of done ++ k.0 ∷ []) (sym kinds) ∙ sym (kinds-pushed done q))
  ])

-- ---- a value that was read of a form names no handle twice, where the handles that were got are apart. So nothing is to be said against its references, where
-- each is good

abbrev pub AreApart : List ArcRef → Type 0
AreApart got = (i j : ℕ) (r q : ArcRef) → slice_get got i ≡ Some r → slice_get got j ≡ Some q → r.handle.0 ≡ q.handle.0 → i ≡ j

module _ (types : Types) (t : ℕ) (blob : Blob) (refs got : List ArcRef) (f : IsFormOf types t blob refs) (same : kinds_of got ≡ kinds_of refs)
    (apart : AreApart got) where
  -- where a handle was got, all that is named by it was one reference
  no-more : (q : ℕ) (r : ArcRef) (g : ArcRef) → InPlace got refs g r → g.handle.0 ≡ q → {xs ys : List ArcRef} → AllTwo (InPlace got refs) xs ys
      → times (λ (x : ArcRef). x.handle.0 == q) xs ≤ times (λ (y : ArcRef). y.handle.0 == r.handle.0) ys
  no-more q r g p is no-two = omega arith
  no-more q r g p is (more-two a b xs ys h more) =
      let tail = no-more q r g p is more in
      let left = sum_by-cons (λ (x : ArcRef). one (x.handle.0 == q)) a xs in
      let right = sum_by-cons (λ (y : ArcRef). one (y.handle.0 == r.handle.0)) b ys in
      grind (basics, one, same-number, self-number)

  -- what is read names no handle twice
  pub reads-once : (own : Meaning ArcRef) → next_of types t blob got ≡ reads own → (q : ℕ) → times (λ (r : ArcRef). r.handle.0 == q) (references_in own) ≤ 1
  reads-once own is q = elim (cases_lt 0 (times (λ (r : ArcRef). r.handle.0 == q) (references_in own))) [
    | inr few ↦ omega arith
    | inl some ↦
        let (read, next, along) = reads-all types t blob refs f got same in let e : read ≡ own = (cc (sym next ∙ is)) in
        let two = swap-two (refs-two (subst (λ m. Along ⊥ (λ r g. InPlace got refs g r) f.own m) e along)) in
        let (g, among, named) = counted (λ (r : ArcRef). one (r.handle.0 == q)) (references_in own) some in
        let (r, place) = each-two two g among in
        omega (arith, no-more q r g place (same-number g.handle.0 q (one-true _ named)) two, f.once r.handle.0)
  ]

-- ---- nothing is said against references that are good and apart

pub fine : (w : Core) (owner : Owner) (seen : List ℕ) (rs : List ArcRef) → ((r : ArcRef) → Among rs r → IsReference w owner r)
    → ((r : ArcRef) → Among rs r → is_in seen r.handle.0 ≡ false)
    → ((q : ℕ) → times (λ (r : ArcRef). r.handle.0 == q) rs ≤ 1) → references_fault w owner seen rs ≡ None
unfolding references_fault is_in
fine w owner seen [] good new once = refl
fine w owner seen (r ∷ rs) good new once =
    let rest = fine w owner (r.handle.0 ∷ seen) rs (λ q among. good q (suc among.0, among.1)) (λ q among.
    let n = new q (suc among.0, among.1) in
    let a = once q.handle.0 in
    let b = sum_by-cons (λ (x : ArcRef). one (x.handle.0 == q.handle.0)) r rs in
    let c = at-most-sum (λ (x : ArcRef). one (x.handle.0 == q.handle.0)) rs q among in
    let d : one (q.handle.0 == q.handle.0) ≡ 1 = ap one (self-number q.handle.0) in
    elim (cases_Bool (r.handle.0 == q.handle.0)) [
      | inl e ↦ absurd (let z : one (r.handle.0 == q.handle.0) ≡ 1 = ap one e in omega arith)
      | inr e ↦ rw (e, n) refl
    ])
    (λ q. omega (arith, once q, sum_by-cons (λ (x : ArcRef). one (x.handle.0 == q)) r rs)) in
    let first : reference_fault w owner seen r ≡ None = let is = good r (zero, refl) in grind (arith, self-number) in
    rw first rest

read-gives : (key : Option ℕ) (r : Result (Meaning ArcRef × Rest Answer) Error) (own : Meaning ArcRef) → next_by key r ≡ reads own → (after : Rest Answer)
    × (r ≡ Ok (own, after))
read-gives key (Ok (m, after)) own is = let same : m ≡ own = cc in (after, rw same refl)
read-gives key (Err e) own is = absurd (grind basics)

-- the key that a blob asks for next is the next of its keys
pub asks_next : (types : Types) (frame : Frame) (kind : Kind) (key : ℕ) → next_in types frame ≡ asks kind key → slice_get frame.blob.keys (length frame.got)
    ≡ Some key
asks_next types frame kind key is = grind basics

-- ---- what is answered, place by place

-- the reference was got, and its node's tree is what the bare key in its place reads as
record Found (types : Types) (stored : ℕ → Option Blob) (trees : ℕ → Tree) (got : List ArcRef) (r : ArcRef) (k : KeyRef) : Type 0 where
  kind : k.kind ≡ r.kind.0
  among : Among got r
  tree_read : ReadsNodeTree types stored trees k.key (type_of r.kind.0) r.node.0

-- what answers for the key
abbrev AnswersFor : (types : Types) (stored : ℕ → Option Blob) (trees : ℕ → Tree) (got : List ArcRef) → Answer → ℕ → Type 0
AnswersFor types stored trees got answer key = (kind : ℕ) → OutLook any_cause (Found types stored trees got) (answer kind) (Ok (key_ref kind key))

pub among-either : {X : Type 0} (xs ys : List X) (i : ℕ) (r : X) → slice_get (xs ++ ys) i ≡ Some r → Among xs r ⊎ Among ys r
among-either (x ∷ xs) ys (suc i) r is = elim (among-either xs ys i r is) [ inl a ↦ inl (suc a.0, a.1) | inr b ↦ inr b ]
among-either x0 ys x2 r is = grind basics

module _ {types : Types} {stored : ℕ → Option Blob} {trees : ℕ → Tree} {got : List ArcRef} where
  answer-of : (o : Option ArcRef) (key : ℕ) → ((r : ArcRef) → o ≡ Some r → Among got r × ReadsNodeTree types stored trees key (type_of r.kind.0) r.node.0)
      → AnswersFor types stored trees got (answer_of o) key
  answer-of x0 key h kind = grind (basics, first-not, both-looked-up, same-number)

  -- what was read leads to a tree, to which the bare keys lead too
  leads-follows : {x : Meaning ArcRef} {m : Meaning KeyRef} → Along ⊥ (Found types stored trees got) x m → (a : Meaning ⊥) × LeadsTo trees x a
      × IsFollowed (ReadsAs stored types) m a
  leads-follows (number-along n) = (number n, number-leads n, number-followed n)
  leads-follows (integer-along z) = (integer z, integer-leads z, integer-followed z)
  leads-follows (text-along t) = (text t, text-leads t, text-followed t)
  leads-follows (pattern-along t) = (pattern t, pattern-leads t, pattern-followed t)
  leads-follows none-along = (none, none-leads, none-followed)
  leads-follows (pair-along x y a b h g) = let p = leads-follows h in let q =
      leads-follows g in (pair p.0 q.0, pair-leads x y p.0 q.0 p.1 q.1, pair-followed a b p.0 q.0 p.2 q.2)
  leads-follows (variant-along n x a h) = let p = leads-follows h in (variant n p.0, variant-leads n x p.0 p.1, variant-followed n a p.0 p.2)
  leads-follows (reference-along r k f) =
      let t = trees r.node.0 in let read = f.tree_read in
      let typed : t.type ≡ type_of k.kind = read.typed ∙ ap type_of (sym f.kind) in
      let own = subst (λ n. ReadsAs stored types n k.key read.reads.own) typed read.reads.reads in
      let led = reference-followed k read.reads.own t.meaning own read.reads.follows in (
        followed r.kind.0 t.meaning,
        reference-leads r t.meaning read.typed refl,
        subst (λ n. IsFollowed (ReadsAs stored types) (reference k) (followed n t.meaning)) f.kind led,
      )
  leads-follows (followed-along kind x a n h) = absurd n

-- ---- a value's references are among those of its meaning

abbrev is_ref : ArcRef → ArcRef → Bool
is_ref r q = (q.kind.0 == r.kind.0) && ((q.node.0 == r.node.0) && (q.handle.0 == r.handle.0))

pub meant-refs : (rs ss : List ArcRef) → SameReferences rs ss → (r : ArcRef) → Among rs r → Among ss r
meant-refs rs ss same r among =
    let itself : is_ref r r ≡ true = rw (self-number r.kind.0, self-number r.node.0, self-number r.handle.0) refl in
    let one_here : 1 ≤ sum_by (λ q. one (is_ref r q)) rs = let a = at-most-sum (λ q. one (is_ref r q)) rs r among in rw itself at a in
    let found = counted (λ q. one (is_ref r q)) ss (omega (arith, one_here, same (is_ref r))) in
    subst (Among ss) (grind (arith, and_parts, same-number)) found.1

module _ {N : Type 0} {v : Values N} (lawful : IsLawful v) {stored : ℕ → Option Blob} {trees : ℕ → Tree} where
  pub decodes : (frame : Frame) (x : N) → IsReadableType v.types frame.node_type → FrameFits v.types stored trees frame → IsDecoded v frame x
      → Decoded v stored trees frame x
  decodes frame x readable fits decoded =
      let given = read-gives _ _ decoded.own decoded.read in
      let all = answers-two (AnswersFor v.types stored trees frame.got) frame.got 0 frame.blob.keys frame.blob.keys refl (λ i key is n at.
      answer-of (slice_get frame.got n) key (λ r there. (
        (n, there),
        let same : n ≡ i = omega arith in
            fits.got i key r (subst (λ k. slice_get frame.got k ≡ Some r) same there) is,
      ))) in
      let both = typed_par {E = any_cause} {F = ⊥} {T = AllTwo (AnswersFor v.types stored trees frame.got)} {R = Found v.types stored trees frame.got}
      {parts = v.types.parts} answer_at
      (λ kind key. Ok (key_ref kind key)) (each _ _ (λ kind a key h. h kind)) 0 (v.types.nodes frame.node_type) (λ s is. inr (readable s is))
      (rest frame.blob.bytes (answers_from frame.got 0 frame.blob.keys)) (rest_of frame.blob) (record { bytes = refl; refs = all }) in
      let two = given-too both given.1 in
      let led = leads-follows two.3 in
      record {
        t = tree frame.node_type led.0;
        typed = refl;
        reads = record { own = two.0; reads = record { blob = frame.blob; stored = fits.is; rest = two.1; reads = two.2 }; follows = led.2 };
        leads = record { own = decoded.own; typed = decoded.typed; means = decoded.means; leads = led.1 };
        got = λ r among. (each-two (refs-two two.3) r (meant-refs _ _ (lawful.refers x decoded.own decoded.means) r among)).1.among;
      }

-- ---- and stands for its tree

pub among-left : {X : Type 0} (xs ys : List X) (i : ℕ) (r : X) → slice_get xs i ≡ Some r → Among (xs ++ ys) r
among-left (x ∷ xs) ys (suc i) r is = let a = among-left xs ys i r is in (suc a.0, a.1)
among-left x0 ys x2 r is = grind basics

pub among-right : {X : Type 0} (xs ys : List X) (i : ℕ) (r : X) → slice_get ys i ≡ Some r → Among (xs ++ ys) r
among-right [] ys i r is = (i, is)
among-right (x ∷ xs) ys i r is = let a = among-right xs ys i r is in (suc a.0, a.1)

module _ {N E : Type 0} {v : Values N} {s : PagerState N E} {trees : ℕ → Tree} where
  -- a meaning that leads to a tree stands for it where the nodes that it refers to do
  leads-stands : {x : Meaning ArcRef} {a : Meaning ⊥} → LeadsTo trees x a
      → ((r : ArcRef) → Among (references_in x) r → NodeStands v s r.node.0 (trees r.node.0)) → MeaningStands v s x a
  unfolding references_in
  leads-stands (pair-leads x y a b f g) h =
      let left = leads-stands f (λ r among. h r (among-left (references_in x) (references_in y) among.0 r among.1)) in
      let right = leads-stands g (λ r among. h r (among-right (references_in x) (references_in y) among.0 r among.1)) in
      pair-stands x y a b left right
  leads-stands (variant-leads i x a f) h = variant-stands i x a (leads-stands f h)
  leads-stands (followed-leads kind x a n f) h = followed-stands kind x a (leads-stands f h)
  leads-stands (reference-leads r a typed meant) h = reference-stands r a
      (subst (λ (t : Tree). NodeStands v s r.node.0 t) (tree_is typed meant) (h r (zero, refl)))
  leads-stands l h = search (number-stands, integer-stands, text-stands, pattern-stands, none-stands)

-- a key reads as the tree for which a value that was read of its blob stands, where the nodes of its references stand for theirs
pub read_stands : {N E : Type 0} {v : Values N} → IsLawful v → (s : PagerState N E) (trees : ℕ → Tree) (frame : Frame) (x : N)
    → IsReadableType v.types frame.node_type → FrameFits v.types s.core.stored trees frame → IsDecoded v frame x → ((r : ArcRef) → Among (v.references x) r
    → NodeStands v s r.node.0 (trees r.node.0)) → ReadsAsValue v s x frame.key
read_stands {v = v} lawful s trees frame x readable fits decoded nodes =
    let read = decodes lawful frame x readable fits decoded in let led = read.leads in
    let meant = leads-stands led.leads (λ r among. nodes r (meant-refs _ _ (λ is. sym (lawful.refers x led.own led.means is)) r among)) in
    record { read = read.t; stands = record { own = led.own; typed = led.typed; means = led.means; stands = meant }; reads = read.reads }
