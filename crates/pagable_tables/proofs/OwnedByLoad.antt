-- A load is closed or hands handles over, or a worker ends, and what they still own is released.
use Rattle.pagable_pager_spec.specs.Workers.{is_load_of}
use Rattle.pagable_tables.proofs.{
  CascadeEnd.{and_owned, drops-still, no-entry, owned, passes-here, passes-left, passes-none, regiven},
  CascadeStep.{begun, closed-is, is_owned, no-value, none-came, owned-by-none, unmixed},
  Counting.{and-left, of_list, there-is, times-left},
  HandleTable.{at-place, found-append, le_or_lt},
  RowCounts.{among-last, at-most-sum, found-among, once, sum-map, sum-none},
  SameViews.{born-past, found-map, moved-twice, named-none, named-take, next-past, owner-same, owner-self, room-alike, same-cache},
  Views.{Goes, IsNewer, OnlyNewer, alike-goes, born-whole, named-mine, newer-handle, newer-moved, newer-then, not-list, owned-moved, settled},
  Wholeness.whole-so,
  Words.{Alike, AllPairs, Among, ArcRef, ArePlaced, AreRangesWider, Bool, Core, DropsValues, Error, Falls, Fits, HandleNumber, HandleRange, HandleRow, Handles},
  Words.{HandlesAreWhole, HasRoom, InReach, IndexMap, InsertPagedOutCall, InsertsNode, IsBefore, IsClosed, IsHandleBefore, IsLeast, IsSoundInCascade, List},
  Words.{LoadNumber, LoadRow, MayOwnHandle, MayOwnLoad, Mode, NodeNumber, NodeRow, None, NumberTable, Ok, OnlyRoom, OpenLoad, Option, OptionalDataKey},
  Words.{OwnLaterHandles, Owner, Place, Places, RefCounts, ReleaseSet, ReleasedSoFar, Result, Some, Tables, TakeCall, alive, and_parts, ap, arith, basics},
  Words.{cached_at, cases_Bool, cases_eq, changed, contains_row, core_alone, core_of, counts_at, false, find_row, get_or, get_or_default, greatest, has_key},
  Words.{held, if_there, if◌then◌else◌, inl, inr, is_at, is_handle, is_keyed, is_loose_kind, is_named_by, is_outside, is_owned_by, is_owned_in, is_owner},
  Words.{is_pin, is_pinning, is_shared, is_some, is_value_owner, key_in, left_rows, length, live, load_at, load_in, loses_value, mode_of, moved, nat_lt},
  Words.{nobody, not, one, only_handle, option_map, or_else, owner_value, owner_worker, owns_nothing, passes_in, pins, reach_at, references_fault, refl},
  Words.{refs_at, row_by, row_of, rows_of, sharing, slice_get, slice_get-get_or, subst, suc, sum_by, sum_by-append, sum_by-le-sum_by, sum_by_push, sym, take},
  Words.{times, true, updated, with_handle, with_mode, with_node, with_tables, with_worker, ℕ, [], ◌&&◌, ◌++◌, ◌+◌, ◌-◌, ◌<◌, ◌==◌, ◌||◌, ◌∙◌, ◌∷◌, ◌≡◌, ◌≢◌},
  Words.{◌≤◌, ◌⊎◌},
}
use Rattle.pagable_tables.specs.{
  CascadeInvariant.BoundsWorkerHandles,
  Core.{Does, DoesAndDropsValues, IsWhole, StorageView, TakesWorker, contains_owned, no_blobs, no_blobs_of},
  HandleTable.{Becomes, Widens},
  Nodes.most_worker_handles_at,
}
use Rattle.pagable_value_spec.specs.declared.numbers.WorkerNumber.{WorkerNumber}
use Rattle.pagable_pager_spec.specs.Pager as pager

pub moved-times : (f : HandleRow → Bool) (s : ℕ → Bool) (o : Owner) (rows : List HandleRow) → ((x : HandleRow) → f (record x { owner = o }) ≡ f x)
    → times f (moved s o rows) ≡ times f rows
moved-times f s o rows same = sum-map (λ x. one (f x)) (λ x. one (f x)) (λ x. if s x.number.0 then record x { owner = o } else x) rows
    (λ x there. grind (basics, same x))

pub no-load : (w : Core) (o : Owner) (l : LoadNumber) → MayOwnLoad w o → is_owner (Owner.Load l) o ≡ false
no-load w o l may = grind basics

pub moved-stands : (t : RefCounts) (h : Handles) (s : ℕ → Bool) (o : Owner) → IsSoundInCascade t [] owns_nothing → is_value_owner o ≡ false
    → ((x : HandleRow) → Among (rows_of t) x → s x.number.0 ≡ true → is_value_owner x.owner ≡ false)
    → BoundsWorkerHandles (moved s o (rows_of t)) t.nodes → Becomes t.handles (moved s o (rows_of t)) h
    → IsSoundInCascade (record t { handles = h }) [] owns_nothing
moved-stands t h s o w plain free work is =
    let rows = rows_of t in
    let pinned : (n : ℕ) → pins n (moved s o rows) ≡ pins n rows = λ n. moved-times (is_pin n) s o rows (λ x. refl) in
    let holding : (n : ℕ) → held n (moved s o rows) ≡ held n rows = λ n. moved-times (is_at n) s o rows (λ x. refl) in
    let own : (n q : ℕ) → sum_by (is_owned n q) (moved s o rows) ≡ sum_by (is_owned n q) rows =
    λ n q. sum-map (is_owned n q) (is_owned n q) (λ x. if s x.number.0 then record x { owner = o } else x) _
    (λ x among. grind (basics, owned-by-none n q (record x { owner = o }) plain, owned-by-none n q x, free x among)) in
    let fits : Fits (counts_at t.nodes) (refs_at t.nodes) (moved s o rows) t.top [] owns_nothing = grind (basics, w.fits, pinned, holding, own) in
    record {
      sound = is.sound;
      next = is.next (t.last_handle + 1) w.next;
      fits = rw is.rows fits;
      worked = rw is.rows work;
    }

-- a look-up of what changes at one number, as it is told
pub updated-by : {A B : Type 0} {at at' : ℕ → Option A} {n : ℕ} {o : Option A} (f : Option A → B) → at' n ≡ o → ((q : ℕ) → q ≢ n → at' q ≡ at q) → (q : ℕ)
    → updated n (f o) (λ q. f (at q)) q ≡ f (at' q)
updated-by f here others q = grind basics

-- a handle whose row passes a test was given
pub passes-given : {w : Core} (test : HandleRow → Bool) (q : ℕ) → pager.HandlesAreWhole w → passes_in test w.rows q ≡ true → (0 < q) × (q ≤ w.last.handle)
passes-given {w} test q whole passes =
    let (h, e, is) = there-is test _ passes in
    let f = found-among q w.rows h e in let n = whole.numbered h f.0 in let (n0, n1) = n in let same = f.1 in (omega arith, omega arith)

pub owned-given : {w : Core} (o : Owner) (q : ℕ) → pager.HandlesAreWhole w → is_owned_in w o q ≡ true → q ≤ w.last.handle
owned-given o q whole own = (passes-given (is_owned_by o) q whole own).1

-- all that a worker gives up when it ends is in its reach
pub in-reach : (t : Tables) → IsWhole t → OwnLaterHandles t → (v : WorkerNumber) (q : ℕ)
    → passes_in (contains_row (core_alone t) (ReleaseSet.Worker v)) (core_alone t).rows q
    ≡ true → InReach (reach_at t.workers v.0) q
in-reach t whole later v q is = let (row, e, passes) = there-is (contains_row w (ReleaseSet.Worker v)) _ is in
    elim (cases_Bool (is_owner (Owner.Worker v) row.owner)) [
      | inl own ↦ later.reach v.0 q (ap (if_there (is_owned_by (Owner.Worker v)) false) e ∙ own)
      | inr other ↦ of-load _ (ap (if_there (is_owned_by row.owner) false) e ∙ owner-self row.owner)
          (sym (ap (λ b. b || is_load_of w v.0 row.owner) other) ∙ passes)
    ]
  where
    w : Core
    w = core_alone t

    of-load : (o : Owner) → is_owned_in w o q ≡ true → is_load_of w v.0 o ≡ true → InReach (reach_at t.workers v.0) q
    of-load (Owner.Load l) own of = let a = λ (load : LoadRow) (e : load_at t.loads l.0 ≡ Some load). later.since l.0 load q e own in
        grind (basics, later.loads v.0 l.0)
    of-load _ own of = absurd (cc)

-- loads are told anew
pub loads-anew : {before u w' : Core} {given : ℕ → Bool} {r : Result (Unit {0}) Error} {loads : ℕ → Option OpenLoad} → ((q : ℕ) → w'.loads q ≡ loads q)
    → Falls before u given r w' → Falls before u given r (record w' { loads = loads })
loads-anew {before} {u} {w'} {given} {r} same falls = subst (λ l. Falls before u given r (record w' { loads = l })) (λ i q. same q i) falls

pub one-more-works : (at at' : ℕ → Option HandleRange) (v : ℕ) (reach : HandleRange) → at' v ≡ Some reach → ((q : ℕ) → q ≢ v → at' q ≡ at q) → (q : ℕ)
    → is_some (at' q) ≡ updated v true (λ u. is_some (at u)) q
one-more-works at at' v reach here others q = sym (updated-by is_some here others q)

-- the entry moves to it
pub takes-worker : (w w1 w' : Core) (place : ℕ) (v : WorkerNumber) (found : Option HandleNumber) → w1 ≡ with_worker w → v.0 ≡ w.last.worker + 1
    → place < length w.list → TakeCall w1 (Owner.Worker v) place found w' → TakesWorker w place (Ok v) w'
takes-worker w w1 w' place v found is next within call = grind (basics, rw is at call)

pub ruleset working = (basics, one-more-works)

-- ---- what loads own is what they owned, or has come since: while loads and workers come and go

-- the open loads are ones that were open, and what a worker got besides is in its reach
pub later-by : {t t' : Tables} → OwnLaterHandles t → t.ref_counts.last_handle ≤ t'.ref_counts.last_handle → t'.noted ≡ t.noted
    → ((l : ℕ) (load : LoadRow) → load_at t'.loads l ≡ Some load → load_at t.loads l ≡ Some load) → AreRangesWider t.workers t'.workers
    → ((l q : ℕ) → owned (Owner.Load (record { 0 = l })) q (core_alone t').rows ≡ true → (owned (Owner.Load (record { 0 = l })) q (core_alone t).rows ≡ true)
    ⊎ (t.ref_counts.last_handle < q))
    → ((v q : ℕ) → owned (owner_worker v) q (core_alone t').rows ≡ true → (owned (owner_worker v) q (core_alone t).rows ≡ true) ⊎ (t.ref_counts.last_handle < q)
    ⊎ InReach (reach_at t'.workers v) q) → OwnLaterHandles t'
later-by {t} {t'} later last noted loads less own work =
    let wider : (v q : ℕ) → owned (owner_worker v) q (core_alone t).rows ≡ true → InReach (reach_at t'.workers v) q =
    λ v q had. less.wider v q (later.reach v q had) in
    grind (basics, later.given, later.since, later.begun, later.loads, later.noted, later.until, noted, less.before, wider, loads, own, work)

pub still-reaches : {S : Type 0} {workers workers' : IndexMap ℕ HandleRange S} → workers' ≡ workers → AreRangesWider workers workers'
still-reaches {S} {workers} {workers'} same = rw same
    (record { wider = λ v q in-reach. in-reach; before = λ v. omega arith })

pub later-less : {t t' : Tables} → OwnLaterHandles t → OnlyNewer (core_alone t) (core_alone t') → t'.noted ≡ t.noted
    → ((l : ℕ) (load : LoadRow) → load_at t'.loads l ≡ Some load → load_at t.loads l ≡ Some load) → AreRangesWider t.workers t'.workers → OwnLaterHandles t'
later-less later newer noted loads less = grind (basics, later-by)

pub later-on : {t t' : Tables} → OwnLaterHandles t → OnlyNewer (core_alone t) (core_alone t') → t'.loads ≡ t.loads → t'.workers ≡ t.workers → t'.noted ≡ t.noted
    → OwnLaterHandles t'
later-on later newer loads same noted = later-less later newer noted (λ l load is. ap (λ m. load_at m l) (sym loads) ∙ is) (still-reaches same)

pub closed-still : {at at' : ℕ → Option LoadRow} {m : ℕ} → at' m ≡ None → ((q : ℕ) → q ≢ m → at' q ≡ at q) → (l : ℕ) (load : LoadRow) → at' l ≡ Some load → at l
    ≡ Some load
closed-still gone others l load is = grind basics

pub none-owned : (w : Core) (o : Owner) (q : ℕ) → ((h : HandleRow) → Among w.rows h → h.owner ≡ o → ⊥) → is_owned_in w o q ≡ true → ⊥
none-owned w o q nobody own = let (row, e, is) = there-is (is_owned_by o) _ own in
    nobody row (found-among q w.rows row e).0 (owner-same o _ is)

pub later-opened : {t t' : Tables} → pager.IsWhole (core_alone t) → OwnLaterHandles t → OnlyNewer (core_alone t) (core_alone t') → (m : ℕ) (row : LoadRow)
    → load_at t.loads m ≡ None → load_at t'.loads m ≡ Some row → row.since ≡ t.ref_counts.last_handle
    → ((q : ℕ) → q ≢ m → load_at t'.loads q ≡ load_at t.loads q) → t'.workers ≡ t.workers → t'.noted ≡ t.noted → OwnLaterHandles t'
later-opened {t} {t'} whole later newer m row none here since others same noted =
    let new-owns : (q : ℕ) → owned (Owner.Load (record { 0 = m })) q (core_alone t).rows ≡ true → ⊥ = λ q own.
    none-owned (core_alone t) _ q (λ h among of. absurd (let a = whole.owners_there.loads h (record { 0 = m }) among of in
    let b : is_some ((core_alone t).loads m) ≡ false = ap (λ o. is_some (option_map load_in o)) none in cc)) own in
    grind (basics, cases_eq, here, since, others, later, noted, newer, new-owns)

pub later-begun : {t t' : Tables} → pager.IsWhole (core_alone t) → OwnLaterHandles t → t' ≡ record t { workers = t'.workers; last_worker = t'.last_worker }
    → (v : ℕ)
    → v
    ≡ t.last_worker + 1
    → reach_at t'.workers v ≡ record { since = t.ref_counts.last_handle; beside = 0 } → ((u : ℕ) → u ≢ v → reach_at t'.workers u ≡ reach_at t.workers u)
    → OwnLaterHandles t'
later-begun {t} {t'} whole later same v new here others =
    let at-rest : (m : ℕ) → m ≡ v → (core_alone t).workers m ≡ true → ⊥ = λ m e is. let a = whole.workers_numbered m is in absurd (omega arith) in
    let working : (m : ℕ) (o : Owner) → is_owner (owner_worker m) o ≡ true → pager.MayOwnLoad (core_alone t) o → (core_alone t).workers m ≡ true =
    λ m o owns may. grind basics in
    let nobody : (q : ℕ) → owned (owner_worker v) q (core_alone t).rows ≡ true → ⊥ =
    λ q own. none-owned (core_alone t) _ q (λ h among of. at-rest v refl (whole.owners_there.workers h v among of)) own in
    subst OwnLaterHandles (sym same) (grind (basics, cases_eq, here, others, nobody, later))

-- ---- handles that come to a worker

module _ (t : Tables) (later : OwnLaterHandles t) (s : ℕ → Bool) (me : Owner) (other : (l : LoadNumber) → is_owner (Owner.Load l) me ≡ false)
    (rows : List HandleRow)
    (are : rows ≡ moved s me (core_alone t).rows) where
  pub load-kept : (l q : ℕ) → owned (Owner.Load (record { 0 = l })) q rows ≡ true → owned (Owner.Load (record { 0 = l })) q (core_alone t).rows ≡ true
  load-kept l q own = let o = Owner.Load (record { 0 = l }) in and-left _ _
      (sym (ap (owned o q) are ∙ owned-moved s me o q _ (other (record { 0 = l }))) ∙ own)

  pub worker-kept : (v q : ℕ) → owned (owner_worker v) q rows ≡ true → (owned (owner_worker v) q (core_alone t).rows ≡ true)
      ⊎ ((is_owner (owner_worker v) me ≡ true) × (s q ≡ true))
  worker-kept v q own = grind (basics, cases_eq, found-map, found-among, and-left, owned-moved)

  -- a load of the same owner hands handles of its own to it and is closed: they came after the worker began
  pub later-handed : {t' : Tables} (l : LoadNumber) (row : LoadRow) → load_at t.loads l.0 ≡ Some row → is_owner me row.owner ≡ true
      → ((q : ℕ) → s q ≡ true → is_owned_in (core_alone t) (Owner.Load l) q ≡ true)
      → IsNewer rows (core_alone t').rows t.ref_counts.last_handle t'.ref_counts.last_handle
      → ((m : ℕ) (load : LoadRow) → load_at t'.loads m ≡ Some load → load_at t.loads m ≡ Some load) → t'.workers ≡ t.workers → t'.noted ≡ t.noted
      → OwnLaterHandles t'
  later-handed {t'} l row here mine its newer loads same noted =
      let after : (v q : ℕ) → is_owner (owner_worker v) me ≡ true → s q ≡ true → InReach (reach_at t'.workers v) q =
      λ v q is gone. subst (λ u. InReach (reach_at u v) q) (sym same)
      (grind (
        basics,
        later.since l.0 row q here (its q gone),
        later.loads v l.0 row here (ap (is_owner (owner_worker v)) (owner-same me row.owner mine) ∙ is),
        owner-same,
      )) in
      later-by later newer.last noted loads (still-reaches same) (λ m q own. elim (newer.kept (Owner.Load (record { 0 = m })) q refl own)
      [ inl had ↦ inl (load-kept m q had) | inr past ↦ inr past ])
      (λ (v q : ℕ) (own : owned (owner_worker v) q (core_alone t').rows ≡ true). let k = newer.kept (owner_worker v) q refl own in let a = after v q in
      let b = worker-kept v q in grind basics)

-- ---- a handle that comes stays, while others that are given go with all that follows

-- what isn't given and isn't a value's isn't in the least set
module _ (rows : List HandleRow) (keyed : ℕ → Bool) (entries : List HandleRow) (given s : ℕ → Bool) (least : IsLeast rows keyed entries given s)
    (ordered : AllPairs IsHandleBefore rows)
    (x : HandleRow) (there : Among rows x) (plain : is_value_owner x.owner ≡ false) (kept : given x.number.0 ≡ false) where
  abbrev less : ℕ → Bool
  less q = s q && not (q == x.number.0)

  fewer : (f : HandleRow → Bool) → times (λ h. f h && is_outside s h) rows ≤ times (λ h. f h && is_outside less h) rows
  fewer f = grind (basics, sum_by-le-sum_by)

  pub not-least : s x.number.0 ≡ false
  not-least =
      let closed-less : IsClosed rows keyed entries less = λ n e.
      (let a = fewer (is_pin n) in let b = fewer (is_at n) in
      let loses : loses_value rows keyed entries s n ≡ true = grind (basics, cases_Bool (keyed n)) in
      sum-none (λ h. one (is_owned_by (owner_value n) h && is_outside less h)) rows (λ h among.
      grind (
        basics,
        least.closed n loses,
        once rows ordered h x among there,
        no-value n x.owner plain,
        at-most-sum (λ h. one (is_owned_by (owner_value n) h && is_outside s h)) rows h among,
      ))) in
      grind (
        basics,
        least.least less (grind basics) closed-less,
        at-most-sum (λ h. one (s h.number.0 && not (less h.number.0))) rows x there,
      )

-- why a cell must be listed, seen from another world before
module _ {b w u w' : Core} {given : ℕ → Bool} {r : Result (Unit {0}) Error} (places : Places) (more : HasRoom u.places places)
    (to : (n : ℕ) → pins n w'.rows ≡ 0 → (pins n b.rows ≡ pins n w.rows) × (sharing n b.rows ≡ sharing n w.rows))
    (falls : Falls b (record u { places = places }) given r w') where
  pub seen-before : Falls w u given r w'
  seen-before = grind basics

-- where a handle of w has come and stays, pins go to 0 just where they would have
pub stays-pinned : {u w' : Core} {given : ℕ → Bool} {r : Result (Unit {0}) Error} (w : Core) (x : HandleRow) → u.rows ≡ w.rows ++ x ∷ []
    → AllPairs IsHandleBefore u.rows
    → is_value_owner x.owner ≡ false → given x.number.0 ≡ false → Falls u u given r w'
    → (n : ℕ) → pins n w'.rows ≡ 0 → (pins n u.rows ≡ pins n w.rows) × (sharing n u.rows ≡ sharing n w.rows)
stays-pinned {u} {given = given} w x rows ordered plain kept falls n none =
    let among : Among u.rows x = rw rows (among-last _ x) in
    grind (
      basics,
      ap (pins n) falls.leaves.rows,
      sum_by_push,
      not-least u.rows (is_keyed u) falls.entries given falls.gone falls.set ordered x among plain
          kept,
      at-most-sum (λ h. one (is_pin n h && not (falls.gone h.number.0))) u.rows x among,
      times-left (is_pin n) falls.gone u.rows,
      sum_by-append (λ h. one (is_pin n h)) (left_rows falls.gone u.rows) falls.entries,
    )

pub eager-pins : (kind : ℕ) → is_loose_kind kind ≡ false → is_pinning (mode_of kind) ≡ true
eager-pins kind eager = grind basics

pub loaded-append : (l : LoadNumber) (q : ℕ) (rows more : List HandleRow) → owned (Owner.Load l) q rows ≡ true → owned (Owner.Load l) q (rows ++ more) ≡ true
loaded-append l q rows more own = grind (basics, found-append q rows more)

pub not-named : (w : Core) (l : LoadNumber) (refs : List ArcRef) → HandlesAreWhole w → references_fault w (Owner.Load l) [] refs ≡ None → (q : ℕ)
    → w.last.handle < q → is_named_by refs q ≡ false
not-named w l refs whole good q above = grind (basics, owned-given (Owner.Load l) q whole, named-mine w (Owner.Load l) [] refs good q)

module _ (t t1 : Tables) (storage : StorageView) (node : NodeNumber) (mode : Mode) (me : Owner) (after : IsWhole t1)
    (a : Alike (with_handle (core_of t storage) node mode me) (core_of t1 storage)) where
  abbrev before : Core
  before = core_of t storage

  abbrev made : Core
  made = with_handle before node mode me

  pub begun-made : (lists : Bool) → lists ≡ not storage.closed → ReleasedSoFar made made nobody lists (record t1.ref_counts { listing_error = None })
  begun-made lists e = begun _ _ _ (record t1.ref_counts { listing_error = None }) e (λ p own. refl)
      (λ n. rw a.rows at (unmixed t1 after n))
      (λ q. omega (arith, ap (times (λ h. h.0 == q)) a.list, ap (times (of_list q)) a.rows, after.core.owners_there.listed q))
      a.rows a.list (ap (λ l. l.handle) a.last) after.core.handles.within.0 (record { handles = a.places.handles; entries = a.places.entries }) a.cells
      refl

  -- others fall then, as seen from before it came
  pub falls-made : t1 ≡ record t { ref_counts = t1.ref_counts } → is_value_owner me ≡ false → (new : RefCounts) {given : ℕ → Bool} {r : Result (Unit {0}) Error}
      → Falls made made given r (with_tables made new) → given (t.ref_counts.last_handle + 1) ≡ false
      → Falls before made given r (core_of (record t1 { ref_counts = new }) storage)
  falls-made same plain new {given} {r} f spared =
      let ordered = rw a.rows at after.core.handles.ordered in
      grind (basics, cases_eq, seen-before, stays-pinned before (row_of (t.ref_counts.last_handle + 1) node mode me) refl ordered plain spared f)

pub changed-push : (q : ℕ) (f : HandleRow → HandleRow) (rows : List HandleRow) (x : HandleRow) → q < x.number.0 → changed (is_handle q) f (rows ++ x ∷ [])
    ≡ changed (is_handle q) f rows ++ x ∷ []
changed-push q f [] x less = let other : is_handle q x ≡ false = grind basics in rw other refl
changed-push q f (y ∷ ys) x less = ap (λ l. (if is_handle q y then f y else y) ∷ l) (changed-push q f ys x less)

-- the tables' cache stays, and so what it gives is told of the whole
pub pinned-alike : (w u w' : Core) (h : HandleNumber) (node : NodeNumber) (me : Owner) → h.0 ≤ w.last.handle
    → ((kind key : ℕ) → w'.cache kind key ≡ w.cache kind key)
    → Alike (with_handle w node Mode.Pinned me) u → Alike (with_mode u h Mode.LoosePinned) w'
    → Alike (with_handle (with_mode w h Mode.LoosePinned) node Mode.Pinned me) w'
pinned-alike w u w' h node me given cache a b = grind (basics, changed-push, same-cache)

pub found-again : {rows' : List HandleRow} {row : HandleRow} {o : Option HandleRow} (q : ℕ) (rows more : List HandleRow) → find_row q rows ≡ Some row
    → rows' ≡ rows ++ more
    → find_row q rows' ≡ o → o ≡ Some row
found-again q rows more is came again = sym again ∙ ap (find_row q) came ∙ found-append q _ _ ∙ ap (λ o. or_else o (find_row q more)) is

-- ---- a birth, by what it is made of

pub key-is : (k : ℕ) → 0 < k → key_in k ≡ OptionalDataKey.Some k
key-is x0 some = grind basics

-- of a cell that is away, where room was made before
pub away-born : {w w1 w' : Core} (me : Owner) (node_type key n : ℕ) (rs : List ArcRef) (k : HandleNumber) → OnlyRoom w w1 → w1.last.node < greatest → n ≡ key
    → 0 < n → rs ≡ []
    → InsertsNode w1 me node_type n rs Mode.LooseUnpinned k w' → InsertPagedOutCall w me node_type key (Ok k) w'
away-born me node_type key n rs k room left is some none b = grind (basics, key-is, next-past, born-past)

pub bears-goes : {w w' : Core} (me : Owner) (node_type key : ℕ) (rs : List ArcRef) (mode : Mode) (k : HandleNumber) → pager.IsWhole w → MayOwnHandle w me
    → references_fault w me [] rs ≡ None
    → w.last.node < greatest → (is_shared mode ≡ true → has_key (key_in key) ≡ false) → InsertsNode w me node_type key rs mode k w' → Goes w w'
bears-goes {w} me node_type key rs mode k whole holder fit left unkeyed b =
    settled b.leaves (born-whole whole _ _ rs _ me me (not-list w me holder) fit holder left b.next.is_left unkeyed)
    (newer-then (newer-moved w (is_named_by rs) _ refl)
    (newer-handle (with_node w node_type (key_in key) rs) _ _ me))

-- ---- handles are given up together, those that pass a test or that references name

-- the list's handle isn't given up where others are
pub given-plain : (w : Core) (giving : ReleaseSet) (o : Owner) (node : NodeNumber) → contains_owned w giving o node ≡ true → (is_owner Owner.List o ≡ false)
    ⊎ (giving ≡ ReleaseSet.Listed)
given-plain w x2 o node is = grind basics

-- what has been given, while those up to a number are left
abbrev pub past_of : Core → Core → ReleaseSet → ℕ → ℕ → Bool
past_of u w giving left q = nat_lt left q && passes_in (contains_row w giving) u.rows q

module _ (before u w : Core) (lists : Bool) (giving : ReleaseSet) (shut : giving ≡ ReleaseSet.Listed → lists ≡ false) (reach : HandleRange)
    (within : (q : ℕ) → passes_in (contains_row w giving) u.rows q ≡ true → InReach reach q) where
  abbrev passes : ℕ → Bool
  passes q = passes_in (contains_row w giving) u.rows q

  abbrev past : ℕ → ℕ → Bool
  past = past_of u w giving

  -- of what passes, what hasn't gone is there
  told : (t : RefCounts) (given : ℕ → Bool) (f : ReleasedSoFar before u given lists t) (q : ℕ)
      → passes_in (contains_row w giving) (rows_of t) q
      ≡ (not (f.gone q) && passes q)
  told t given f q =
      let listed : (giving ≡ ReleaseSet.Listed) ⊎ (giving ≢ ReleaseSet.Listed) = grind basics in
      ap (λ rows. passes_in (contains_row w giving) rows q) f.rows ∙ passes-left (contains_row w giving) q f.gone _ u.rows (elim listed [
        | inl is ↦ ap (λ es. passes_in (contains_row w giving) es q) (none-came f (shut is)) ∙ passes-none (contains_row w giving) q
        | inr other ↦ no-entry (contains_row w giving) q (λ h is. grind basics) _ _ f.new
      ])

  -- what is given of the numbers that are left and isn't there has gone
  pub onto : (t : RefCounts) (left : ℕ) (s : ℕ → Bool) → ((r : ℕ) → s r ≡ true → passes r ≡ true) → ((r : ℕ) → past left r ≡ true → s r ≡ true)
      → ((r : ℕ) → s r ≡ true → r ≤ left → passes_in (contains_row w giving) (rows_of t) r ≡ false)
      → ReleasedSoFar before u (past left) lists t
      → ReleasedSoFar before u s lists t
  onto t left s up over none f = regiven f (λ r e. grind (basics, up r e, none r e, told t (past left) f r)) over

  -- one more is given, the last of those that are left
  pub one-past : (t new : RefCounts) (left : ℕ) (x : HandleRow) → 0 < x.number.0 → x.number.0 ≤ left → find_row x.number.0 (rows_of t)
      ≡ Some x → contains_row w giving x ≡ true
      → ((q : ℕ) → InReach reach q → x.number.0 < q → q ≤ left → passes_in (contains_row w giving) (rows_of t) q ≡ false)
      → ((given : ℕ → Bool) → ReleasedSoFar before u given lists t → ReleasedSoFar before u (λ q. given q || q == x.number.0) lists new)
      → ReleasedSoFar before u (past left) lists t
      → ReleasedSoFar before u (past (x.number.0 - 1)) lists new
  one-past t new left x above below found is none gives f =
      let n = x.number.0 in
      let here : passes n ≡ true = (and_parts (not (f.gone n)) _ (sym (told t (past left) f n) ∙ ap (if_there (contains_row w giving) false) found ∙ is)).1 in
      let narrowed = onto t left (past n) (λ r e. grind basics) (λ r e. grind basics)
      (λ r e. none r (within r (let p : passes r ≡ true = grind basics in p)) (let l : n < r = grind basics in l)) f in
      regiven (gives (past n) narrowed) (λ r e. grind basics)
      (λ r e. grind (basics, cases_eq r n))

pub none-passes : (test : HandleRow → Bool) (q : ℕ) (ss : List Place) → ((k : ℕ) (d : Place) → k < length ss → (get_or ss k d).row.number.0 ≡ q
    → (get_or ss k d).is_live ≡ true → test (get_or ss k d).row ≡ false)
    → passes_in test (live ss) q ≡ false
none-passes test q [] h = passes-none test q
none-passes test q (s ∷ ss) h = let rest = none-passes test q ss (λ k d lt e. h (suc k) d (omega arith) e) in grind (basics, passes-here, h 0 s (omega arith))

-- below a place numbers are smaller, and from there on those that pass are too great
pub none-from : (test : HandleRow → Bool) (ss : List Place) (p q left : ℕ) → ((k : ℕ) (d : Place) → k < p → (get_or ss k d).row.number.0 < q) → q ≤ left
    → ((k : ℕ) (d : Place) → p ≤ k → k < length ss → (get_or ss k d).is_live ≡ true → test (get_or ss k d).row ≡ true → left < (get_or ss k d).row.number.0)
    → passes_in test (live ss) q ≡ false
none-from test ss p q left below within above = grind (basics, none-passes, le_or_lt p)

module _ (ss : List Place) (m : ℕ) (p : Place) (within : m < length ss) (is : p ≡ get_or ss m p) where
  -- all places up to one that isn't above a number are below each greater one
  pub below-to : (since q : ℕ) → AllPairs IsBefore ss → p.row.number.0 ≤ since → since < q → (k : ℕ) (d : Place) → k < m + 1 → (get_or ss k d).row.number.0 < q
  below-to since q ordered up over k d h = grind (basics, cases_eq, ap (λ x. x.row.number.0) (is ∙ get_or_default ss m p d within))

  pub place-got : p.is_live ≡ true → slice_get ss m ≡ Some (alive p.row)
  place-got lives = slice_get-get_or ss m p within ∙ ap Some (sym is) ∙ ap (λ b. Some (record { row = p.row; is_live = b })) lives

  pub row-there : AllPairs IsBefore ss → p.is_live ≡ true → find_row p.row.number.0 (live ss) ≡ Some p.row
  row-there ordered lives = (at-place ss m _ ordered (place-got lives)).2

-- what the load owns of the handles that so many references name
abbrev pub named_owned : Core → LoadNumber → List ArcRef → ℕ → ℕ → Bool
named_owned w l rs i q = is_named_by (take i rs) q && is_owned_in w (Owner.Load l) q

module _ {before w : Core} {lists : Bool} {t : RefCounts} (l : LoadNumber) (rs : List ArcRef) where
  pub none-given : ReleasedSoFar before w nobody lists t → ReleasedSoFar before w (named_owned w l rs 0) lists t
  none-given f = regiven f
      (λ r e. absurd (let a = and-left (is_named_by (take 0 rs) r) _ e in let b = named-none r in cc)) (λ r e. absurd (cc))

  pub one-given : (i : ℕ) (d : ArcRef) → i < length rs → ReleasedSoFar before w (and_owned w l (named_owned w l rs i) (get_or rs i d).handle.0) lists t
      → ReleasedSoFar before w (named_owned w l rs (i + 1)) lists t
  one-given i d lt f = regiven f
      (λ r e. grind (basics, named-take rs i d r lt)) (λ r e. grind (basics, named-take rs i d r lt))

  pub all-given : (i : ℕ) → take i rs ≡ rs → ((q : ℕ) → is_named_by rs q ≡ true → is_owned_in w (Owner.Load l) q ≡ true)
      → ReleasedSoFar before w (named_owned w l rs i) lists t → ReleasedSoFar before w (is_named_by rs) lists t
  all-given i all owned f = grind (basics, and-left)

pub ruleset places = (basics, place-got, row-there)

pub moved-then : {old mid new : Handles} (s s' : ℕ → Bool) (h : HandleNumber) (o : Owner) (rows : List HandleRow) → Becomes old (moved s o rows) mid
    → Becomes mid (moved (only_handle h) o (live mid.places.items)) new → ((q : ℕ) → (h.0 == q || s q) ≡ s' q) → Becomes old (moved s' o rows) new
moved-then s s' h o rows a b next = record {
  sound = b.sound;
  rows = b.rows ∙ ap (moved (only_handle h) o) a.rows ∙ moved-twice s h o _ ∙ ap (λ (u : ℕ → Bool). moved u o rows) (λ i q. next q i);
  capacity = b.capacity ∙ a.capacity;
  next = λ q next. b.next q (a.next q next);
}

-- ---- calls that leave the tables whole, as their steps leave the core

-- the step is made whatever is stored, whether the storage was closed, and however often it failed
abbrev pub Each : Tables → (Core → Core → Type 0) → Tables → Type 0
Each old step new = (storage : StorageView) → step (core_of old storage) (core_of new storage)

module _ {old new : Tables} {step : Core → Core → Type 0} where
  pub does-by : Each old step new → IsSoundInCascade new.ref_counts [] owns_nothing
      → (step (core_alone old) (core_alone new) → ArePlaced (core_alone new) → pager.IsWhole (core_alone new))
      → (step (core_alone old) (core_alone new) → OwnLaterHandles old → OwnLaterHandles new) → Does old step new
  does-by does steady whole later = let plain = does no_blobs in record { does = does; whole = whole-so steady (whole plain); later = later plain }

  -- loads and workers are those that were
  pub does-so : Each old step new → IsSoundInCascade new.ref_counts [] owns_nothing
      → (step (core_alone old) (core_alone new) → Goes (core_alone old) (core_alone new))
      → new.loads ≡ old.loads
      → new.workers ≡ old.workers → new.noted ≡ old.noted → Does old step new
  does-so does steady goes loads workers noted = does-by does steady (λ plain. (goes plain).whole)
      (λ plain later. later-on later (goes plain).newer loads workers noted)

pub nothing-does : {t : Tables} {step : Core → Core → Type 0} → IsWhole t → Each t step t → Does t step t
nothing-does whole does = record { does = does; whole = whole; later = λ later. later }

pub does-then : {a b c : Tables} {one two both : Core → Core → Type 0} → Does a one b → Does b two c
    → ((storage : StorageView) → one (core_of a storage) (core_of b storage) → two (core_of b storage) (core_of c storage)
    → both (core_of a storage) (core_of c storage)) → Does a both c
does-then p q both = record { does = λ storage. both storage (p.does storage) (q.does storage); whole = q.whole; later = λ later. q.later (p.later later) }

-- the same, of a step that follows from it
pub does-as : {old new : Tables} {one two : Core → Core → Type 0} → Does old one new → Each old (λ w w'. one w w' → two w w') new → Does old two new
does-as step so = record { does = λ storage. so storage (step.does storage); whole = step.whole; later = step.later }

-- the core where cells are listed or not
abbrev pub listing : Bool → Tables → Core
listing lists t = core_of t (no_blobs_of lists)

-- the same, of a step that is made as cells are listed
module _ {lists : Bool} {old new : Tables} {step : Core → Core → Type 0} (does : Each old (λ w w'. lists ≡ not w.closed → step w w') new)
    (steady : IsSoundInCascade new.ref_counts [] owns_nothing) where
  pub lazily-by : (step (listing lists old) (listing lists new) → ArePlaced (core_alone new) → pager.IsWhole (core_alone new))
      → (step (listing lists old) (listing lists new) → OwnLaterHandles old → OwnLaterHandles new) → Does old (λ w w'. lists ≡ not w.closed → step w w') new
  lazily-by whole later = let plain = does (no_blobs_of lists) (closed-is {lists = not lists} refl) in
      record { does = does; whole = whole-so steady (whole plain); later = later plain }

  pub lazily-so : (step (listing lists old) (listing lists new) → Goes (listing lists old) (listing lists new)) → new.loads ≡ old.loads → new.workers
      ≡ old.workers
      → new.noted ≡ old.noted → Does old (λ w w'. lists ≡ not w.closed → step w w') new
  lazily-so goes loads workers noted = lazily-by (λ plain. (goes plain).whole) (λ plain later. later-on later (goes plain).newer loads workers noted)

-- and values go
pub drops-with : {X : Type 0} {lists : Bool} {old new : Tables} {values values' : NumberTable X} {step : Core → Core → Type 0}
    → Does old (λ w w'. lists ≡ not w.closed → step w w') new
    → DropsValues (counts_at old.ref_counts.nodes) (row_by values) (counts_at new.ref_counts.nodes) (row_by values')
    → DoesAndDropsValues lists old values step new values'
drops-with does drops = record { does = does.does; whole = does.whole; later = does.later; drops = drops }

pub nothing-release_at : {X : Type 0} {lists : Bool} {t : Tables} {values : NumberTable X} {step : Core → Core → Type 0} → IsWhole t
    → Each t (λ w w'. lists ≡ not w.closed → step w w') t
    → DoesAndDropsValues lists t values step t values
nothing-release_at {t = t} whole does = record { does = does; whole = whole; later = λ later. later; drops = drops-still _ _ whole.steady }

-- handles widen, and nodes and the cache are told as they were
pub widens-does : {t : Tables} {h : Handles} {nodes : NumberTable NodeRow} {cache : IndexMap (ℕ × ℕ) NodeNumber _} → IsWhole t → Widens t.ref_counts.handles h
    → ((n : ℕ) → counts_at nodes n ≡ counts_at t.ref_counts.nodes n) → ((n : ℕ) → refs_at nodes n ≡ refs_at t.ref_counts.nodes n)
    → ((n : ℕ) → most_worker_handles_at nodes n ≡ most_worker_handles_at t.ref_counts.nodes n)
    → ((kind key : ℕ) → cached_at cache kind key ≡ cached_at t.cache kind key)
    → Does t OnlyRoom (record t { ref_counts = record t.ref_counts { handles = h; nodes = nodes }; cache = cache })
widens-does {t} {nodes = nodes} whole e counts refs work known = does-so (λ storage. grind (basics, e.rows, e.capacity, counts, known))
    (record {
      sound = e.sound;
      next = e.next (t.ref_counts.last_handle + 1) whole.steady.next;
      fits = grind (basics, whole.steady.fits, e.rows, counts, refs);
      worked = rw e.rows (λ n. rw (work n) (whole.steady.worked n));
    })
    (λ room. alike-goes whole.core (room-alike room)) refl refl refl
