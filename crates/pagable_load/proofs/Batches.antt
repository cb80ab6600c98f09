-- What a blob asks for depends on kinds alone: two readings with references of the same kinds run in parallel, up to where one of them asks for a reference
-- that wasn't got.
use Rattle.pagable_load.specs.{
  Decoding.{AsksNext, EachRowFits, Foresees, FramesChange, FramesChangeFor, GotMore, InnermostRemovedIf, KeptIfKindAt, NeedsNext, RowFits, RowFitsFrame},
  Decoding.{RowsFit, RowsStayFit, is_adoption, kinds_of, stacked},
  LoadEnd.{EndsOrLeavesLess, left_behind, left_in, many, to_do, weight, weight_on},
  declared.reading.Need.Need as Needed,
}
use Rattle.pagable_pager_spec.specs.{
  Basics.Types,
  Loads.{Need, answer_of, answers_from, asks, need_at, need_of, needs_lazy, needs_nested, next_by, next_of, read_with as read_blob},
  World.Frame,
}
use Rattle.pagable_theorems.proofs.{
  Naturality.{Out, SameRest, Sober, both-faulty, both-given, both-refused, first-refused, typed_par},
  Trees.{Along, reference-along},
}
use Rattle.pagable_value_spec.specs.{
  Blob.Blob,
  Cursor.{Answer, answer_at},
  Meaning.Meaning,
  ReadSteps.◌>>=◌,
  Reading.{Rest, reference_at},
  declared.{error.Error.Error, numbers.{ArcRef.ArcRef, Kind.Kind}},
}
use Rattle.std.proofs.{
  Common.{Bool, Err, List, None, Ok, Option, Result, Some, ap, arith, drop, false, inl, inr, length, refl, slice_get, subst, suc, sym, true, zero, ℕ, [], ◌*◌},
  Common.{◌++◌, ◌+◌, ◌-◌, ◌<◌, ◌==◌, ◌^◌, ◌∙◌, ◌∷◌, ◌≡◌, ◌≤◌, ◌⊎◌},
  Math.Nat.mul-le-mul_right,
  lemmas.{Bool.{Decides.nat_tests, cases_Bool, eqb-true}, Grind.common_steps},
  lemmas.{List.{append_assoc, at_drop_all, at_drop_more, length-append, length-map, map-append}, Option.{slice_get-get_or, slice_get_cases, slice_get_within}},
}
use Rattle.std.specs.declared.{alloc.Global.Global, vec.Vec.Vec}
use Rattle.pagable_value_spec.specs.Meaning as meanings

-- ---- kinds that are asked for

kinds_joined : (xs ys : List ArcRef) → kinds_of (xs ++ ys) ≡ kinds_of xs ++ kinds_of ys
kinds_joined xs ys = map-append (λ (r : ArcRef). r.kind.0) xs ys

-- the kinds of a row from a place on, by what stands there
abbrev pub headed : Option ArcRef → List ℕ → List ℕ
headed None rest = []
headed (Some x) rest = x.kind.0 ∷ rest

from : (xs : List ArcRef) (place : ℕ) → kinds_of (drop place xs) ≡ headed (slice_get xs place) (kinds_of (drop (place + 1) xs))
from xs place = grind (arith, nat_tests, common_steps, slice_get_cases, at_drop_more, at_drop_all)

-- ---- two readings side by side: of what was got, after which one of the kind k comes, and of a row, which begins alike and after which one of this kind is asked for

-- what both give isn't asked
abbrev Aside : Meaning ArcRef → Meaning ArcRef → Type 0
Aside = Along (Unit {0}) (λ r q. Unit {0})

module _ (xs got : List ArcRef) (kind k : ℕ) (back : List ℕ) where
  -- they are at the same place
  record Beside (own row : List Answer) : Type 0 where
    place : ℕ
    keys : List ℕ
    own_is : own ≡ answers_from got place keys
    row_is : row ≡ answers_from xs place keys
    left : kinds_of (drop place xs) ++ kind ∷ [] ≡ kinds_of (drop place got) ++ k ∷ back

  -- where the row's reading stops at its kind, the other stops at k
  abbrev Stops : Error → Error → Type 0
  Stops e f = f ≡ Error.Storage kind → e ≡ Error.Storage k

  abbrev Sided : Result (Meaning ArcRef × Rest Answer) Error → Result (Meaning ArcRef × Rest Answer) Error → Type 0
  Sided = Out Stops Beside Aside

  at_one : (p o : Option ArcRef) (n : ℕ) (ps os : List ℕ) (i j : Rest Answer) → headed o os ++ kind ∷ [] ≡ headed p ps ++ k ∷ back
      → (os ++ kind ∷ [] ≡ ps ++ k ∷ back → SameRest Beside i j)
      → Sided (answer_of p n >>= λ x. let r : Result (Meaning ArcRef × Rest Answer) Error = Ok (meanings.reference x, i) in r)
      (answer_of o n >>= λ x. let r : Result (Meaning ArcRef × Rest Answer) Error = Ok (meanings.reference x, j) in r)
  at_one None None n ps os i j is more = both-refused (Error.Storage n) (Error.Storage n) (λ at. cc)
  at_one (Some g) None n ps os i j is more = absurd (let e : 1 ≡ suc (length (ps ++ k ∷ back)) = ap length is in omega (arith, e, length-append ps (k ∷ back)))
  at_one None (Some x) n ps os i j is more = elim (cases_Bool (x.kind.0 == n)) [
    | inl e ↦ let same : x.kind.0 ≡ n = eqb-true _ _ e in first-refused (Error.Storage n) _ (λ f at. cc)
    | inr e ↦ rw e (both-refused (Error.Storage n) Error.WrongKind (λ at. cc))
  ]
  at_one (Some g) (Some x) n ps os i j is more =
      let same : g.kind.0 ≡ x.kind.0 = cc in
      let alike : (g.kind.0 == n) ≡ (x.kind.0 == n) = ap (λ m. m == n) same in
      elim (cases_Bool (x.kind.0 == n)) [
        | inl e ↦ rw (alike, e) (both-given _ _ (reference-along g x tt) (more (cc)))
        | inr e ↦ rw (alike, e) (both-faulty Error.WrongKind tt)
      ]

  at_key : (n place : ℕ) (keys : List ℕ) (i j : Rest Answer) → j.bytes ≡ i.bytes → kinds_of (drop place xs) ++ kind ∷ [] ≡ kinds_of (drop place got) ++ k ∷ back
      → Sided (reference_at answer_at n (answers_from got place keys) i) (reference_at answer_at n (answers_from xs place keys) j)
  unfolding answers_from
  at_key n place [] i j bytes is = both-faulty Error.NoMoreKeys tt
  at_key n place (key ∷ keys) i j bytes is = at_one (slice_get got place) (slice_get xs place) n (kinds_of (drop (place + 1) got))
      (kinds_of (drop (place + 1) xs)) _ _
      (ap (λ zs. zs ++ kind ∷ []) (sym (from xs place)) ∙ is ∙ ap (λ zs. zs ++ k ∷ back) (from got place))
      (λ rest. record { bytes = bytes; refs = record { place = place + 1; keys = keys; own_is = refl; row_is = refl; left = rest } })

  beside : (n : ℕ) (i j : Rest Answer) → SameRest Beside i j → Sided (reference_at answer_at n i.refs i) (reference_at answer_at n j.refs j)
  beside n i j b = let s = b.refs in rw (s.own_is, s.row_is) (at_key n s.place s.keys _ _ b.bytes s.left)

  stopped : {own row : Result (Meaning ArcRef × Rest Answer) Error} → Sided own row → row ≡ Err (Error.Storage kind) → own ≡ Err (Error.Storage k)
  stopped (both-given p q v s) is = absurd (cc)
  stopped (both-faulty e sober) is = absurd (let at : e ≡ Error.Storage kind = cc in subst Sober at sober)
  stopped (both-refused e f c) is = ap Err (c (cc))
  stopped (first-refused e r c) is = ap Err (c (Error.Storage kind) refl)

-- ---- what comes next

pub stopped_at : (found : Option ℕ) (r : Result (Meaning ArcRef × Rest Answer) Error) (kind : Kind) (key : ℕ) → next_by found r ≡ asks kind key
    → (r ≡ Err (Error.Storage kind.0)) × (found ≡ Some key)
stopped_at found r kind key e = grind (arith, nat_tests)

module _ (types : Types) (t : ℕ) (blob : Blob) where
  row_asked : (xs : List ArcRef) (kind : Kind) (key : ℕ) → next_of types t blob xs ≡ asks kind key
      → (got : List ArcRef) (k : ℕ) (back : List ℕ) → kinds_of xs ++ kind.0 ∷ [] ≡ kinds_of got ++ k ∷ back → AsksNext types t blob got k
  row_asked xs kind key next got k back is =
      let s = stopped_at (slice_get blob.keys (length xs)) (read_blob types t blob xs) kind key next in
      let within = slice_get_within blob.keys (length xs) key s.1 in
      let many = λ (rs : List ArcRef). length-map rs (λ (r : ArcRef). r.kind.0) in
      let short : length got < length blob.keys =
      omega (arith, within, ap length is, length-append (kinds_of xs) (kind.0 ∷ []), length-append (kinds_of got) (k ∷ back), many xs, many got) in
      let there = slice_get-get_or blob.keys (length got) 0 short in
      let input : List ArcRef → Rest Answer = λ gs. record { bytes = blob.bytes; refs = answers_from gs 0 blob.keys } in
      let goes =
      typed_par {E = Stops xs got kind.0 k back} {F = Unit {0}} {T = Beside xs got kind.0 k back} {R = λ r q. Unit {0}} {parts = types.parts} answer_at
      answer_at (beside xs got kind.0 k back)
      0 (types.nodes t) (λ o is. inl tt) (input got) (input xs) (record {
        bytes = refl;
        refs = record { place = 0; keys = blob.keys; own_is = refl; row_is = refl; left = is };
      }) in
      let err : read_blob types t blob got ≡ Err (Error.Storage k) = stopped xs got kind.0 k back goes s.0 in
      record { key = _; there = there; next = ap (next_by (slice_get blob.keys (length got))) err ∙ ap (λ o. next_by o (Err (Error.Storage k))) there }

-- a row that was found by stand-ins, the last of which is asked for after all others
foreseen : (types : Types) (f : Frame) (row xs noted : List ArcRef) (last : ArcRef) (kind : Kind) (key : ℕ) → row ≡ xs ++ last ∷ []
    → xs ≡ f.got ++ noted → kind.0 ≡ last.kind.0 → next_of types f.node_type f.blob xs ≡ asks kind key → Foresees types f (kinds_of row)
foreseen types f row xs noted last kind key is split same next = grind (arith, nat_tests, append_assoc, kinds_joined, row_asked)

pub row_found : (types : Types) (f : Frame) (fs frames : List Frame) (row xs noted : List ArcRef) (last : ArcRef) (kind : Kind) (key : ℕ) → frames ≡ f ∷ fs
    → row ≡ xs ++ last ∷ []
    → xs ≡ f.got ++ noted → kind.0 ≡ last.kind.0 → next_of types f.node_type f.blob xs ≡ asks kind key → RowFits types frames row
row_found types f fs frames row xs noted last kind key there is split same next =
    record {
      is = λ g gs at. let e : f ∷ fs ≡ g ∷ gs = sym there ∙ at in let one : f ≡ g = cc in
          inr (subst (λ x. Foresees types x (kinds_of row)) one (foreseen types f row xs noted last kind key is split same next));
    }

-- what stands in the row behind what was got
next_in_row : (row got : List ArcRef) (r : ArcRef) (ahead : List ℕ) → kinds_of row ≡ kinds_of got ++ ahead → slice_get row (length got) ≡ Some r
    → (more : List ℕ) × (ahead ≡ r.kind.0 ∷ more)
next_in_row [] got r ahead is at = absurd (cc)
next_in_row (x ∷ row) [] r ahead is at = let e : x ≡ r = cc in (kinds_of row, sym is ∙ ap (λ (z : ArcRef). z.kind.0 ∷ kinds_of row) e)
next_in_row (x ∷ row) (g ∷ got) r ahead is at = next_in_row row got r ahead (cc) at

-- a reference of the kind is got
pub still_ahead : (types : Types) (f : Frame) (row : List ArcRef) (r s : ArcRef) → Foresees types f (kinds_of row) → slice_get row (length f.got) ≡ Some r
    → s.kind.0 ≡ r.kind.0
    → Foresees types (record f { got = f.got ++ s ∷ [] }) (kinds_of row)
still_ahead types f row r s h at same = grind (arith, nat_tests, append_assoc, kinds_joined, next_in_row)

-- what a row tells of the innermost blob
told_by : (types : Types) (top : Frame) (fs : List Frame) (row : List ArcRef) (r : ArcRef) (key : ℕ) → slice_get row (length top.got) ≡ Some r
    → slice_get top.blob.keys (length top.got) ≡ Some key → RowFitsFrame types top row → NeedsNext types (top ∷ fs) r.kind key
told_by types top fs row r key at_row at_key (inl none) = absurd (let e : slice_get [] (length top.got)
    ≡ Some r = subst (λ xs. slice_get xs (length top.got) ≡ Some r) none at_row in cc)
told_by types top fs row r key at_row at_key (inr h) =
    let more = next_in_row row top.got r h.ahead h.split at_row in
    let a = h.each top.got r.kind.0 more.0 (h.split ∙ ap (λ xs. kinds_of top.got ++ xs) more.1) in
    let same : a.key ≡ key = let e = sym a.there ∙ at_key in cc in
    record { is = ap (need_at fs) (a.next ∙ ap (asks r.kind) same) }

pub row_tells : (types : Types) (top : Frame) (fs frames : List Frame) (row : List ArcRef) (r : ArcRef) (key place : ℕ) → frames ≡ top ∷ fs → place
    ≡ length top.got → slice_get row place ≡ Some r
    → slice_get top.blob.keys place ≡ Some key → RowFits types frames row → NeedsNext types frames r.kind key
row_tells types top fs frames row r key place is count at_row at_key h =
    let P : ℕ → Type 0 = λ n. (slice_get row n ≡ Some r) × (slice_get top.blob.keys n ≡ Some key) in
    let at : P (length top.got) = subst P count (at_row, at_key) in
    subst (λ fr. NeedsNext types fr r.kind key) (sym is) (told_by types top fs row r key at.0 at.1 (h.is top fs is))

-- ---- what is ahead of all blobs, and how it follows a step

last_of : (xs : List ArcRef) (x : ArcRef) → slice_get (xs ++ x ∷ []) (length xs) ≡ Some x
last_of [] x = refl
last_of (y ∷ xs) x = last_of xs x

none_known : (types : Types) (frames : List Frame) → EachRowFits types frames []
none_known types [] = tt
none_known types (f ∷ fs) = tt

pub none_ahead : (types : Types) (frames : List Frame) (rows : List (List ArcRef)) → rows ≡ [] ∷ [] → RowsFit types frames rows
none_ahead types [] rows is = record { are = tt }
none_ahead types (f ∷ fs) rows is = record { are = subst (EachRowFits types (f ∷ fs)) (sym is) (inl refl, none_known types fs) }

pub with_top : {types : Types} (frames : List Frame) {row row' : List ArcRef} {rows : List (List ArcRef)} → RowsFit types frames (row ∷ rows)
    → RowFits types frames row' → RowsFit types frames (row' ∷ rows)
with_top [] a h = record { are = tt }
with_top (f ∷ fs) a h = record { are = (h.is f fs refl, a.are.1) }

pub stacked_more : (rows : List (List ArcRef)) (xs : List (Vec ArcRef Global)) (x : Vec ArcRef Global) → stacked rows (xs ++ x ∷ []) ≡ x.items ∷ stacked rows xs
unfolding stacked
stacked_more rows [] x = refl
stacked_more rows (y ∷ xs) x = stacked_more (y.items ∷ rows) xs x

pub stacked_none : (xs : List (Vec ArcRef Global)) → xs ≡ [] → stacked [] xs ≡ []
unfolding stacked
stacked_none xs is = ap (stacked []) is

pub ruleset leaving = (nat_tests, stacked_more, stacked_none)

-- the innermost blob has got a reference, and its row stays where that is of its kind
got_on : (types : Types) (f : Frame) (r : ArcRef) (row row' : List ArcRef) (place : ℕ) (kind : Kind) → place ≡ length f.got → kind.0 ≡ r.kind.0
    → RowFitsFrame types f row → KeptIfKindAt place kind row row'
    → RowFitsFrame types (record f { got = f.got ++ r ∷ [] }) row'
got_on types f r row row' place kind at of_kind h (inl none) = inl none
got_on types f r row row' place kind at of_kind (inl none) (inr (same, (s, there, is))) = inl (same ∙ none)
got_on types f r row row' place kind at of_kind (inr h) (inr (same, (s, there, is))) =
    let here = subst (λ n. slice_get row n ≡ Some s) at there in
    inr (subst (λ xs. Foresees types (record f { got = f.got ++ r ∷ [] }) (kinds_of xs)) (sym same) (still_ahead types f row s r h here (sym of_kind ∙ is)))

-- what is known of the blobs before the innermost was read, and then of those below it
left_on : (types : Types) (top : Frame) (below : List Frame) (rows mid : List (List ArcRef)) → InnermostRemovedIf true rows mid
    → EachRowFits types (top ∷ below) rows → EachRowFits types below mid
left_on types top below rows mid (inl (row, is)) a = (subst (EachRowFits types (top ∷ below)) is a).1
left_on types top below rows mid (inr is) a = (none_ahead types below mid is).are

-- a reference was got at the last place
more_on : (new : List Frame) (types : Types) (old : List Frame) (r : ArcRef) (g : GotMore old new r) (row row' : List ArcRef) (rest : List (List ArcRef))
    (f : Frame) (fs : List Frame) (place : ℕ) (kind : Kind) (last : ArcRef)
    → new ≡ f ∷ fs → place + 1 ≡ length f.got → slice_get f.got place ≡ Some last → kind ≡ last.kind → EachRowFits types old (row ∷ rest)
    → KeptIfKindAt place kind row row' → EachRowFits types new (row' ∷ rest)
more_on new types old r g row row' rest f fs place kind last is count at of a kept =
    let same : f ≡ record g.f { got = g.f.got ++ r ∷ [] } = let e : f ∷ fs ≡ record g.f { got = g.f.got ++ r ∷ [] } ∷ g.fs = sym is ∙ g.is in cc in
    let gots : f.got ≡ g.f.got ++ r ∷ [] = ap (λ (x : Frame). x.got) same in
    let here : place ≡ length g.f.got = let n = length-append g.f.got (r ∷ []) in omega (arith, count, ap length gots, n) in
    let one : last ≡ r = let e : Some last ≡ Some r = sym at ∙ ap (λ xs. slice_get xs place) gots ∙ ap (slice_get (g.f.got ++ r ∷ [])) here
    ∙ last_of g.f.got r in cc in
    let was = subst (λ fr. EachRowFits types fr (row ∷ rest)) g.was a in
    subst (λ fr. EachRowFits types fr (row' ∷ rest)) (sym g.is) (
      got_on types g.f r row row' place kind here
          (ap (λ (k : Kind). k.0) of ∙ ap (λ (x : ArcRef). x.kind.0) one) was.0 kept,
      was.1,
    )

-- what has got one reference more has got some
some_got : (old new : List Frame) (r : ArcRef) (f : Frame) (fs : List Frame) → GotMore old new r → new ≡ f ∷ fs → 0 < length f.got
some_got old new r f fs g is =
    let same : f ≡ record g.f { got = g.f.got ++ r ∷ [] } = let e : f ∷ fs ≡ record g.f { got = g.f.got ++ r ∷ [] } ∷ g.fs = sym is ∙ g.is in cc in
    let n = length-append g.f.got (r ∷ []) in
    omega (arith, n, ap (λ (x : Frame). length x.got) same)

module _ (types : Types) (new : List Frame) (rows mid rows' : List (List ArcRef)) (f : Frame) (fs : List Frame) (is : new ≡ f ∷ fs) where
  -- a blob came, of which nothing was got
  came : (b : Bool) (old : List Frame) → f.got ≡ [] → (rows' ≡ [] ∷ mid) ⊎ (rows' ≡ [] ∷ []) → InnermostRemovedIf b rows mid → FramesChange b old new
      → EachRowFits types old rows
      → EachRowFits types new rows'
  came true old none after left go a = absurd (let some = some_got go.below new go.r f fs go.more is in omega (arith, some, ap length none))
  came false old none after left (inr (r, go)) a = absurd (let some = some_got old new r f fs go is in omega (arith, some, ap length none))
  came false old none (inl after) left (inl go) a = subst (λ fr. EachRowFits types fr rows') (sym go.is)
      (subst (EachRowFits types (go.f ∷ old)) (sym after) (inl refl, subst (EachRowFits types old) (sym left) a))
  came false old none (inr after) left (inl go) a = (none_ahead types new rows' after).are

  -- a reference was got
  grew : (b : Bool) (old : List Frame) (row row' : List ArcRef) (rest : List (List ArcRef)) (place : ℕ) (kind : Kind) (last : ArcRef) → mid ≡ row ∷ rest → rows'
      ≡ row' ∷ rest
      → place + 1 ≡ length f.got → slice_get f.got place ≡ Some last → kind ≡ last.kind → KeptIfKindAt place kind row row' → InnermostRemovedIf b rows mid
      → FramesChange b old new
      → EachRowFits types old rows → EachRowFits types new rows'
  grew true old row row' rest place kind last has after count at of kept left go a =
      let was = left_on types go.top go.below rows mid left (subst (λ fr. EachRowFits types fr rows) go.was a) in
      subst (EachRowFits types new) (sym after) (more_on new types go.below go.r go.more row row' rest f fs place kind last is count at of
      (subst (EachRowFits types go.below) has was) kept)
  grew false old row row' rest place kind last has after count at of kept left (inl go) a =
      absurd (let e : f ∷ fs ≡ go.f ∷ old = sym is ∙ go.is in let same : f ≡ go.f = cc in
      omega (arith, count, ap length (ap (λ (x : Frame). x.got) same ∙ go.none)))
  grew false old row row' rest place kind last has after count at of kept left (inr (r, go)) a =
      let was = subst (EachRowFits types old) (sym left ∙ has) a in
      subst (EachRowFits types new) (sym after) (more_on new types old r go row row' rest f fs place kind last is count at of was kept)

pub follows_new : (b : Bool) (new : List Frame) (rows mid : List (List ArcRef)) (f : Frame) (fs : List Frame) (top top' : Vec ArcRef Global)
    (below below' : Vec (Vec ArcRef Global) Global) → new ≡ f ∷ fs → f.got ≡ []
    → mid ≡ top.items ∷ stacked [] below.items → InnermostRemovedIf b rows mid → top'.items ≡ []
    → (below'.items ≡ below.items ++ top ∷ []) ⊎ (below'.items ≡ [])
    → RowsStayFit b new rows (top'.items ∷ stacked [] below'.items)
follows_new b new rows mid f fs top top' below below' is none has left bare below_is =
    let after : (top'.items ∷ stacked [] below'.items ≡ [] ∷ mid) ⊎ (top'.items ∷ stacked [] below'.items ≡ [] ∷ []) =
    elim below_is [
      | inl more ↦ inl (ap (λ x. x ∷ stacked [] below'.items) bare ∙ ap (λ xs. [] ∷ stacked [] xs) more
          ∙ ap (λ xs. [] ∷ xs) (stacked_more [] below.items top ∙ sym has))
      | inr gone ↦ inr (ap (λ x. x ∷ stacked [] below'.items) bare ∙ ap (λ xs. [] ∷ xs) (stacked_none below'.items gone))
    ] in
    record {
      follows = λ types old go a. record { are = came types new rows mid (top'.items ∷ stacked [] below'.items) f fs is b old none after left go a.are };
    }

pub follows_got : (b : Bool) (new : List Frame) (rows mid : List (List ArcRef)) (f : Frame) (fs : List Frame) (row row' : List ArcRef)
    (rest : List (List ArcRef)) (place : ℕ) (last : ArcRef) → new ≡ f ∷ fs
    → mid ≡ row ∷ rest → InnermostRemovedIf b rows mid → place + 1 ≡ length f.got → slice_get f.got place ≡ Some last → KeptIfKindAt place last.kind row row'
    → RowsStayFit b new rows (row' ∷ rest)
follows_got b new rows mid f fs row row' rest place last is has left count at kept =
    record {
      follows = λ types old go a. record {
        are = grew types new rows mid (row' ∷ rest) f fs is b old row row' rest place last.kind last has refl count at
            refl kept left go a.are;
      };
    }

-- what is ahead after a step that ends nothing
pub ahead_then : {N : Type 0} (types : Types) (need : Needed N) (old new : List Frame) (rows rows' : List (List ArcRef)) (b : Bool) → b ≡ is_adoption need
    → FramesChangeFor need None old new → RowsStayFit b new rows rows' → RowsFit types old rows → RowsFit types new rows'
ahead_then types need old new rows rows' b is goes follows a = follows.follows types old (subst (λ x. FramesChange x old new) (sym is) (goes.goes refl)) a

-- ---- a step of a load leaves less to do

weight_some : (k : ℕ) → 0 < weight k
unfolding weight
weight_some zero = omega arith
weight_some (suc k) = let w = weight_some k in omega (arith, w)

-- ---- what is asked for stands in the blob

-- the load needs a reference, at once or later
abbrev NeedsOne : Need → Kind → ℕ → Type 0
NeedsOne need kind key = (need ≡ needs_nested kind key) ⊎ (need ≡ needs_lazy kind key)

wants : (types : Types) (old : List Frame) (f : Frame) (fs : List Frame) (kind : Kind) (key : ℕ) → old ≡ f ∷ fs → NeedsOne (need_of types old) kind key
    → length f.got < length f.blob.keys
wants types old f fs kind key is need = grind (arith, nat_tests, slice_get_within, stopped_at)

-- ---- what each step leaves

module _ {N : Type 0} {for_cell : Bool} {old new : List Frame} where
  led : {o n : List Frame} → old ≡ o → new ≡ n → to_do n < to_do o → EndsOrLeavesLess {N = N} for_cell old new (Ok None)
  led {o} {n} a b lt = record { leads = subst (λ x. to_do x < to_do old) (sym b) (subst (λ x. to_do n < to_do x) (sym a) lt) }

  pub root_leads : (f : Frame) → f.got ≡ [] → length f.blob.keys < 2 ^ 63 → old ≡ [] → new ≡ f ∷ [] → EndsOrLeavesLess {N = N} for_cell old new (Ok None)
  root_leads f none few a b =
      let g : length f.got ≡ 0 = ap length none in
      let w = weight_some 129 in
      let m : (left_in f + 2) * weight 129 ≤ many * weight 129 = mul-le-mul_right (weight 129) (omega (arith, g, few)) in
      led a b (omega (arith, w, m))

  pub got_leads : (types : Types) (f : Frame) (fs : List Frame) (r : ArcRef) (kind : Kind) (key : ℕ)
      → NeedsOne (need_of types old) kind key → old ≡ f ∷ fs → new ≡ record f { got = f.got ++ r ∷ [] } ∷ fs
      → EndsOrLeavesLess {N = N} for_cell old new (Ok None)
  got_leads types f fs r kind key need a b =
      let left = wants types old f fs kind key a need in
      let n = length-append f.got (r ∷ []) in
      let w = weight_some (129 - length fs) in
      let m : (length f.blob.keys - length (f.got ++ r ∷ []) + 1) * weight_on fs ≤ left_in f * weight_on fs =
      mul-le-mul_right (weight_on fs) (omega (arith, n, left)) in
      led a b (omega (arith, w, m))

  pub blob_leads : (types : Types) (g f : Frame) (fs : List Frame) (kind : Kind) (key : ℕ) → g.got ≡ [] → length g.blob.keys < 2 ^ 63 → length fs < 128
      → NeedsOne (need_of types old) kind key → old ≡ f ∷ fs → new ≡ g ∷ f ∷ fs → EndsOrLeavesLess {N = N} for_cell old new (Ok None)
  unfolding weight
  blob_leads types g f fs kind key none few short need a b =
      let left = wants types old f fs kind key a need in
      let n : length g.got ≡ 0 = ap length none in
      let k : 129 - length fs ≡ suc (129 - length (f ∷ fs)) = omega (arith, short) in
      let e : weight_on fs ≡ weight_on (f ∷ fs) * many = ap weight k in
      let w = weight_some (129 - length (f ∷ fs)) in
      let m : (left_in g + 2) * weight_on (f ∷ fs) ≤ many * weight_on (f ∷ fs) = mul-le-mul_right (weight_on (f ∷ fs)) (omega (arith, n, few)) in
      let u : (left_behind f + 1) * weight_on fs ≤ left_in f * weight_on fs = mul-le-mul_right (weight_on fs) (omega (arith, left)) in
      led a b (omega (arith, e, w, m, u))

  pub node_leads : (t u : Frame) (fs : List Frame) (r : ArcRef) → old ≡ t ∷ u ∷ fs → new ≡ record u { got = u.got ++ r ∷ [] } ∷ fs
      → EndsOrLeavesLess {N = N} for_cell old new (Ok None)
  node_leads t u fs r a b =
      let n = length-append u.got (r ∷ []) in
      let m : (length u.blob.keys - length (u.got ++ r ∷ [])) * weight_on fs ≡ left_behind u * weight_on fs =
      ap (λ x. (length u.blob.keys - x) * weight_on fs) n in
      led a b (omega (arith, m))
