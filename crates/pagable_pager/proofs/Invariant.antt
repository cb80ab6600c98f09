-- What keeps the pager's invariant: dropping values with their nodes, calls that neither bring nor drop a value, and calls of the storage.
use Rattle.futures.specs.{Poll.IfReady, declared.task.Poll.Poll}
use Rattle.pagable_pager.specs.{
  Polling.PollCall,
  View.{
    AddsNoValue,
    AsksStorage,
    Calls,
    CallsKeepingInvariant,
    ChangesOnlyTables,
    IsPager,
    KeepsWorkers,
    PagerView,
    Storages,
    ValuesByNode,
    may_call,
    storage_view,
  },
  View.{pager_core, pager_state, value_in},
}
use Rattle.pagable_pager_spec.specs.{
  Basics.{Blob, Error},
  Calls.{Asked, FetchCall, StoreCall},
  Kinds.{has_key, is_owner, is_pinning, mode_of, pins},
  LoadCalls.{LoadFetchCall, from_cache},
  Pager.{IsPagerWhole, MayOwnLoad, Moves},
  World.{Alike, Core, Values, is_here, result_map, usable},
  declared.{calls.FetchTarget.FetchTarget, handle_row.Owner.Owner},
}
use Rattle.pagable_tables.proofs.SameViews.{still}
use Rattle.pagable_tables.specs.{
  Core.{Does, DoesAndDropsValues, IsWhole, OwnLaterHandles, core_alone},
  EndingLoads.AsksCache,
  Nodes.{cell_in, counts_at, has_value, key_in, pins_in},
  NumberTable.row_by,
  ValuesKept.{AreKept, DropsValues},
  declared.{nodes.Counts.Counts, tables.Tables.Tables},
}
use Rattle.pagable_theorems.proofs.{
  HandlesKept.NotValues,
  StepBounds.entered-of,
  ValuesOwned.{IsRight, IsShut, Leaves, Rests, known-here, not-load, recalls, spared, spares-same, stayed, unmoved},
}
use Rattle.pagable_value_spec.specs.{Stored.{Adds, RefusesFetch, RefusesStore}, declared.numbers.{HandleNumber.HandleNumber, Kind.Kind, LoadNumber.LoadNumber}}
use Rattle.std.proofs.{Common.{Bool, Err, None, Ok, Option, Result, Some, ap, arith, false, if◌then◌else◌, inl, nat_eq, not, refl, rules, sym, true, ℕ, ◌&&◌, ◌∙◌, ◌≡◌, ◌≤◌}, lemmas.Bool.Decides.nat_tests}
use Rattle.std.specs.{Arc.arc_value, Option.option_map, Prelude.{IfErr, IfOk, IsTrue, OnErr, OnOk, is_some, nat_lt, ◌⊎◌}}
use Rattle.pagable_pager_spec.specs.Pager as pager

-- a whole core stays whole over another storage, that of v, if nothing is listed or cached once this is closed
module _ (w v : Core) where
  abbrev over : Core
  over = record w { stored = v.stored; closed = v.closed; failures = v.failures }

  pub whole-over : pager.IsWhole w → IsShut over → pager.IsWhole over
  whole-over is shut =
      let h = is.handles in
      let o = is.owners_there in
      let l = is.loads in
      record {
        handles = search rules;
        owners_there = search rules;
        loads = record {
          numbered = l.numbered;
          owned = l.owned;
          roots = λ n load node k q e root. let r = l.roots n load node k q e root in
              record { typed = r.typed; begun = r.begun; given = r.given };
        };
        cache = λ kind key n known. let c = is.cache kind key n known in record { given = c.given; typed = c.typed; shares = c.shares };
        workers_numbered = is.workers_numbered;
        shut = shut;
      }

-- tables that are whole leave the pager in step, where the core stays well-formed
pub in-step : {N S E H K V : Type 0} {tells : Storages S E N H K V} {says : E → Values N} (q : PagerView N S E) → IsWhole q.tables → OwnLaterHandles q.tables
    → (IsRight (pager_state tells q) → IsPagerWhole (says q.environment) (pager_state tells q)) → IsPager tells says q
in-step {tells = tells} q whole later state =
    let right = whole-over (core_alone q.tables) (pager_core tells q) whole.core in
    search (rules)

has-key : (k : ℕ) → has_key (key_in k) ≡ nat_lt 0 k
has-key k = grind (arith, nat_tests)

pub here-told : (o : Option Counts) (w : Core) (n : ℕ) → w.cells n ≡ cell_in o → pins n w.rows ≡ pins_in o → (is_some (w.cells n) && is_here w n) ≡ has_value o
here-told o w n cell pinned = grind (arith, nat_tests, has-key)

pub some-map : {X Y : Type 0} (f : X → Y) (o : Option X) → is_some (option_map f o) ≡ is_some o
some-map f o = grind (arith, nat_tests)

pub left-map : {X Y : Type 0} (f : X → Y) (b : Bool) (old new : Option X) → ((new ≡ old) ⊎ (new ≡ None)) → is_some new ≡ b → option_map f new
    ≡ (if b then option_map f old else None)
left-map f b old new which some = grind (arith, nat_tests)

pub less-moves : {N S E H K V : Type 0} (tells : Storages S E N H K V) {comes : ℕ → N → Type 0} (p q : PagerView N S E) → AddsNoValue p q
    → Moves comes (pager_state tells p) (pager_state tells q)
less-moves tells p q less = record { each = λ n x has. inl (less.values n x has); environment = less.environment }

module _ {N S E H K V : Type 0} {tells : Storages S E N H K V} {says : E → Values N} {p : PagerView N S E} (is : IsPager tells says p) where
  pub here-in : (n : ℕ) → (is_some ((pager_core tells p).cells n) && is_here (pager_core tells p) n) ≡ has_value (counts_at p.tables.ref_counts.nodes n)
  here-in n = here-told (counts_at p.tables.ref_counts.nodes n) (pager_core tells p) n refl (sym (is.tables.steady.fits.pinned n))

  -- the value is in memory of a node that the cache gives for handles that pin
  pub known-valued : (kind key n : ℕ) → usable (pager_core tells p) kind key ≡ Some n → is_pinning (mode_of kind) ≡ true
      → has_value (counts_at p.tables.ref_counts.nodes n) ≡ true
  known-valued kind key n known pinning =
      grind (arith, nat_tests, entered-of kind key n (pager_core tells p) known, known-here is.state.whole kind key n known pinning, here-in n)

  pub kept-in : AreKept (counts_at p.tables.ref_counts.nodes) (row_by p.values)
  kept-in n falls = sym (some-map arc_value (row_by p.values n)) ∙ is.state.valued n ∙ here-in n

  pub only-tables : (t : Tables) → ChangesOnlyTables p (record p { tables = t })
  only-tables t = record { values = refl; storage = refl; environment = refl }

  module _ {step : Core → Core → Type 0} {t : Tables} (call : Does p.tables step t) where
    pub made-by : (step (pager_core tells p) (pager_core tells (record p { tables = t })) → IsRight (pager_state tells (record p { tables = t }))
        → IsPagerWhole (says p.environment) (pager_state tells (record p { tables = t }))) → IsPager tells says (record p { tables = t })
    made-by state = in-step (record p { tables = t }) call.whole (call.later is.later) (state (call.does (storage_view tells p.storage)))

    pub called : (step (pager_core tells p) (pager_core tells (record p { tables = t }))
        → Rests (pager_core tells p) (pager_core tells (record p { tables = t })))
        → IsPager tells says (record p { tables = t })
    called rests = made-by (λ made. spared is.state (rests made) (λ n. refl))

    pub calls-tables : Calls ChangesOnlyTables tells p step (record p { tables = t })
    calls-tables = record { step = call.does (storage_view tells p.storage); only = only-tables t }

  -- values went with their nodes
  module _ (t : Tables) (values : ValuesByNode N) where
    abbrev gone : PagerView N S E
    gone = record p { tables = t; values = values }

    abbrev Goes : Type 0
    Goes = DropsValues (counts_at p.tables.ref_counts.nodes) (row_by p.values) (counts_at t.ref_counts.nodes) (row_by values)

    pub swept : IsWhole t → Goes → (n : ℕ) → value_in values n ≡ (if is_some ((core_alone t).cells n)
        && is_here (core_alone t) n then value_in p.values n else None)
    swept whole drops n = grind (arith, nat_tests, here-told, kept-in, left-map, nat_eq)

    pub release_at : IsWhole t → OwnLaterHandles t → Goes → (Leaves (value_in p.values) (pager_state tells gone)
        → IsPagerWhole (says p.environment) (pager_state tells gone))
        → IsPager tells says gone
    release_at whole later drops state = in-step gone whole later (λ right. state (record { swept = swept whole drops; right = right }))

    pub less : Goes → (n : ℕ) (x : N) → value_in values n ≡ Some x → value_in p.values n ≡ Some x
    less drops n x some = grind (arith, nat_tests, kept-in)

    pub only-less : Goes → AddsNoValue p gone
    only-less drops = record { values = less drops; storage = refl; environment = refl }

    -- by a call of the tables
    module _ {b : Bool} {step : Core → Core → Type 0} (call : DoesAndDropsValues (not b) p.tables p.values step t values)
        (opens : b ≡ tells.is_closed p.storage) where
      pub release_at-by : (Leaves (value_in p.values) (pager_state tells gone) → step (pager_core tells p) (pager_core tells gone)
          → IsPagerWhole (says p.environment) (pager_state tells gone))
          → IsPager tells says gone × CallsKeepingInvariant tells says p step gone
      release_at-by state =
          let after : IsPager tells says gone = release_at call.whole (call.later is.later) call.drops
          (λ left. state left (call.does (storage_view tells p.storage) (ap not opens))) in (
            after,
            record {
              called = record {
                step = call.does (storage_view tells p.storage) (ap not opens);
                moves = less-moves tells p gone (only-less call.drops);
                whole = after.state;
              };
              only = only-less call.drops;
            },
          )

    module _ (whole : IsWhole t) (later : OwnLaterHandles t) (drops : Goes) where
      pub same-so : Alike (pager_core tells p) (pager_core tells gone) → IsPager tells says gone
      same-so a = release_at whole later drops (stayed is.state (unmoved a is.state.whole.shut))

      pub none-so : t ≡ p.tables → IsPager tells says gone
      none-so same = same-so (rw same (still (pager_core tells p)))

pub caller-free : NotValues Owner.Caller
caller-free n is = absurd (cc)

-- nor is who is at work, and it may hold handles and begin loads
module _ {N S E H K V : Type 0} {tells : Storages S E N H K V} {says : E → Values N} {p q : PagerView N S E} (_ : IsPager tells says p) (me : Owner)
    (same : p ≡ q)
    (works : may_call (pager_core tells q) me ≡ true) where
  pub owner-may : MayOwnLoad (pager_core tells p) me
  owner-may = grind (arith, nat_tests)

  pub owner-free : NotValues me
  owner-free n is = rw is at owner-may

  pub owner-loads : (m : LoadNumber) → is_owner (Owner.Load m) me ≡ false
  owner-loads m = grind (arith, nat_tests, owner-may)

-- what a load asks for
pub known_found : {w w' : Core} {me : Owner} {l : LoadNumber} {kind : Kind} {key : ℕ} {k : HandleNumber} (found : Option HandleNumber) → found ≡ Some k
    → AsksCache w me l kind key (Ok found) w'
    → LoadFetchCall w me l (FetchTarget.Nested kind key) (Ok (from_cache k)) w'
known_found found some known = grind (arith, nat_tests)

pub asks-kept : {w w' : Core} {me : Owner} {l : LoadNumber} {kind : Kind} {key : ℕ} (r : Result (Option HandleNumber) Error) → AsksCache w me l kind key r w'
    → KeepsWorkers w w'
asks-kept r c = grind (arith, nat_tests)

-- and no value comes or goes by that
pub asks : {w w' : Core} {me : Owner} {l : LoadNumber} {kind : Kind} {key : ℕ} → pager.IsWhole w → (r : Result (Option HandleNumber) Error)
    → AsksCache w me l kind key r w' → Rests w w'
asks {l = l} whole (Ok found) c = recalls whole (not-load l) (Ok found) (record { answers = c.gives.2; refused = tt })
asks whole (Err e) c = unmoved c.refused.stays whole.shut

module _ {N S E H K V : Type 0} {tells : Storages S E N H K V} {says : E → Values N} {p : PagerView N S E} (is : IsPager tells says p) (s : S)
    (stays : tells.is_closed s ≡ tells.is_closed p.storage)
    (more : tells.failed p.storage ≤ tells.failed s) where
  abbrev stored-in : PagerView N S E
  stored-in = record p { storage = s }

  -- whatever is stored, the pager stays in step
  pub kept-so : IsPager tells says stored-in
  kept-so = in-step stored-in is.tables is.later (spared is.state (record {
    spares = spares-same refl (λ n. refl) refl;
    shut = λ shut. is.state.whole.shut (sym stays ∙ shut);
  }) (λ n. refl))

  pub asked : tells.stored s ≡ tells.stored p.storage → Asked (pager_core tells p) (pager_core tells stored-in)
  asked same = grind (arith, nat_tests, still)

  pub store-call : (digest : Blob → ℕ) (blob : Blob) (r : Result ℕ Error) → IfOk r (λ key. key ≡ digest blob)
      → OnOk r (Adds (digest blob) blob (tells.stored p.storage) (tells.stored s))
      → OnOk r (tells.is_closed p.storage ≡ false) → IfErr r (RefusesStore blob (tells.stored p.storage (digest blob)) (tells.is_closed p.storage)
      (tells.failed p.storage) (tells.failed s))
      → OnErr r (tells.stored s ≡ tells.stored p.storage) → StoreCall digest (pager_core tells p) blob r (pager_core tells stored-in)
  store-call digest blob r keyed adds was only same = grind (arith, nat_tests, asked, still)

  pub asks-it : {makes : Core → Core → Type 0} → (IsTrue (tells.is_honest s) → makes (pager_core tells p) (pager_core tells stored-in))
      → (IsTrue (tells.is_honest s) → IsTrue (tells.is_honest p.storage))
      → AsksStorage tells p makes stored-in
  asks-it step faithful = record { step = step; honest = faithful; closed = stays; only = record { tables = refl; values = refl; environment = refl } }

pub fetch-call : {X : Type 0} (see : X → Blob) (w w' : Core) (key : ℕ) (r : Result X Error) → Asked w w' → IfOk r (λ x. w.stored key ≡ Some (see x))
    → IfErr r (RefusesFetch key (w.stored key) w.failures w'.failures) → FetchCall w key (result_map see r) w'
fetch-call see w w' key r asks found only = grind (arith, nat_tests)

pub poll-call : {X : Type 0} (see : X → Blob) (w w' : Core) (key : ℕ) (p : Poll (Result X Error)) → Asked w w'
    → IfReady p (λ r. IfOk r (λ x. w.stored key ≡ Some (see x)))
    → IfReady p (λ r. IfErr r (RefusesFetch key (w.stored key) w.failures w'.failures)) → PollCall see w key p w'
poll-call see w w' key (Poll.Ready r) asks found only = record { asked = asks; fetched = fetch-call see w w' key r asks found only }
poll-call see w w' key Poll.Pending asks found only = record { asked = asks; fetched = tt }
