-- A lent pager's calls tell what an access's calls do, and the handles that they give are live; what a handle lends, and what closing leaves.
use Rattle.either.specs.declared.Either.{Either}
use Rattle.pagable_load.proofs.PinsAndReads.{begun_is}
use Rattle.pagable_load.specs.{AccessView.{AsksFor, IfKnown, IsMade, MakesCallBringing}, PinStart.StartsPin, declared.access.PinStart.PinStart}
use Rattle.pagable_pager.proofs.Invariant.{in-step, less, swept}
use Rattle.pagable_pager.specs.{View.{Calls, ChangesOnlyStorage, FewerValues, IsPager, KeepsWorkers, PagerView, SameValues, Storages, TakesEntry, ValuesByNode, from_cache_or_store}, View.{may_call, pager_core, pager_state}}
use Rattle.pagable_pager_spec.specs.{
  Access.{IfBothKnown, MakesCall},
  Basics.{Blob, Error, or_else, type_of},
  Calls.{CloseCall, IsNext, Looks, StoreCall, is_named_by, next_node, row_of, with_handle, with_node},
  Events.{IsEntry, reading_of_load},
  Kinds.{HasKinds, find_row, is_handle, is_loose, is_pinning, loose_kind, mode_of},
  LoadCalls.{Adopts, BeginCall, GetsKnown, LazyCall, LoadFetchCall, adopted, first_key, from_cache},
  Pager.{HandlesAreWhole, IsNew, IsPagerWhole, Moves, PagerState, ValueCall},
  Workers.RowIs,
  World.{Alike, Core, Reading, Values, row_at},
  declared.{calls.FetchTarget.FetchTarget, handle_row.{HandleRow.HandleRow, Owner.Owner}, pinning.Beginning.Beginning},
}
use Rattle.pagable_tables.specs.{
  Core.{BeginsWorker, IsWhole, OwnLaterHandles, TakesWorker, core_of, shut_view},
  Indexes.{cached_at, load_at, worker_at},
  Nodes.counts_at,
  NumberTable.row_by,
  ValuesKept.DropsValues,
  declared.tables.Tables.Tables,
}
use Rattle.pagable_theorems.proofs.{
  HandlesKept.{among-found, find-both, found-number, good, low-whole, new-handle, stands-fell},
  LoadProgress.{row-held, row-pins},
  ReadingSteps.cached-rows,
  StepBounds.named-among,
  Trees.same_some,
  ValuesOwned.{Rests, closed, not-load, pinned-here, rests-then, spares-same, starts-listed, unmoved},
}
use Rattle.pagable_value_spec.specs.declared.{
  data_key.OptionalDataKey.OptionalDataKey,
  numbers.{ArcRef.ArcRef, HandleNumber.HandleNumber, Kind.Kind, LoadNumber.LoadNumber, NodeNumber.NodeNumber, WorkerNumber.WorkerNumber},
}
use Rattle.std.proofs.{
  Common.{Bool, Err, List, None, Ok, Option, Result, Some, ap, arith, false, if◌then◌else◌, inl, inr, refl, subst, sym, true, ℕ, [], ◌++◌, ◌+◌, ◌∙◌, ◌∷◌, ◌≡◌},
  lemmas.{Bool.{Decides.nat_tests, false_from_ne_true}, Option.slice_get_within},
}
use Rattle.std.specs.{Option.option_map, Prelude.{IfOk, IsSome, IsTrue, is_some}}
use Rattle.pagable_pager_spec.specs.Pager as pager

-- ---- what a lent pager's calls tell as those of an access; and what a worker does, for an entry of the list or without one

-- what a call does to a pager of which no value comes
module _ {N S E H K V : Type 0} (tells : Storages S E N H K V) (v : E → Values N) (p q : PagerView N S E) where
  pub called_fewer : (D : Core → Type 0) → D (pager_core tells q) → FewerValues p q → IsPagerWhole (v q.environment) (pager_state tells q)
      → MakesCall (v p.environment) D (pager_state tells p) (pager_state tells q)
  called_fewer D step only whole = grind (arith, nat_tests)

  pub brings-so : (D : Core → Type 0) {comes : ℕ → N → Type 0} → D (pager_core tells q) → Moves comes (pager_state tells p) (pager_state tells q)
      → IsPagerWhole (v q.environment) (pager_state tells q)
      → MakesCallBringing (v p.environment) D comes (pager_state tells p) (pager_state tells q)
  brings-so D step moves whole = record { step = step; moves = moves; whole = subst (λ e. IsPagerWhole (v e) (pager_state tells q)) moves.environment whole }

module _ {N S E : Type 0} {p q : PagerView N S E} where
  pub fewer_of_same : SameValues p q → FewerValues p q
  fewer_of_same only = record {
    values = λ n x has. rw only.values at has;
    environment = only.environment;
  }

  pub fewer_of_asked : ChangesOnlyStorage p q → FewerValues p q
  fewer_of_asked only = fewer_of_same (record { values = only.values; environment = only.environment })

-- what an access tells that tells its state as long as it is in no doubt
pub told-if : {A : Type 0} {R : A → A → Type 0} (b b' : Bool) (s t : A) → (IsTrue b' → IsTrue b) → (IsTrue b' → R s t)
    → IfBothKnown (if b then Some s else None) (if b' then Some t else None) R
told-if true true s t keeps does = record { holds = does refl }
told-if false true s t keeps does = let is = keeps refl in absurd cc
told-if true false s t keeps does = record { holds = tt }
told-if false false s t keeps does = record { holds = tt }

pub known-if : {A : Type 0} {P : A → Type 0} (b : Bool) (s : A) → P s → IfKnown (if b then Some s else None) P
known-if true s is = record { holds = is }
known-if false s is = record { holds = tt }

pub stored_key : {digest : Blob → ℕ} {w w' : Core} {blob : Blob} (r : Result ℕ Error) → StoreCall digest w blob r w' → IfOk r (λ key. key ≡ digest blob)
stored_key r c = grind (arith, nat_tests)

-- ---- the handle that a load gets is live

pub made_so : {w : Core} {kind : Kind} {h : HandleNumber} {n : NodeNumber} → Looks w h (λ m row. m ≡ row.node) (Ok n)
    → IsMade w kind (record { kind = kind; node = n; handle = h })
made_so {w} {kind} {h} {n} l = grind (arith, nat_tests, found-number)

last_live : (w w' : Core) (k : HandleNumber) (rows : List HandleRow) (row : HandleRow) → IsNext k w → row.number.0 ≡ w.last.handle + 1 → w'.rows ≡ rows ++ row
    ∷ [] → IsSome (row_at w' k)
unfolding find_row
last_live w w' k rows row next number same =
    let is : is_handle k.0 row ≡ true = (let above = next.above in grind (arith, nat_tests)) in
    let last : find_row k.0 (row ∷ []) ≡ Some row = rw is refl in
    ap is_some (ap (λ rs. find_row k.0 rs) same ∙ find-both k.0 rows (row ∷ []) ∙ ap (or_else (find_row k.0 rows)) last) ∙ (grind (arith, nat_tests))

-- of a new node
born_live : (w w' : Core) (l : LoadNumber) (kind : Kind) (key : ℕ) (own : OptionalDataKey) (references : List ArcRef) (k : HandleNumber) → IsNext k w
    → Alike (adopted w l kind key own references) w' → IsSome (row_at w' k)
born_live w w' l kind key own references k next a =
    let born = with_node w (type_of kind.0) own references in
    let row = row_of (w.last.handle + 1) (next_node w) (mode_of kind.0) (Owner.Load l) in
    last_live w w' k born.rows row next refl (a.rows ∙ (cached-rows (with_handle born (next_node w) (mode_of kind.0) (Owner.Load l)) kind key (next_node w)).0)

pub known_live : {w w' : Core} {l : LoadNumber} {kind : Kind} {key : ℕ} {k : HandleNumber} → GetsKnown w l kind key k w' → IsSome (row_at w' k)
known_live {w} {w'} {l} {kind} {k = k} c = last_live w w' k w.rows (row_of (w.last.handle + 1) (record { 0 = c.n }) (mode_of kind.0) (Owner.Load l)) c.next refl
    c.leaves.rows

-- a handle that the cache gives, as a reference
pub found-made : {B : Type 0} (see : B → Blob) {w w' : Core} {me : Owner} {l : LoadNumber} {kind : Kind} {key : ℕ} {r : ArcRef} {k : HandleNumber}
    (given : Either HandleNumber B) → given ≡ Either.Left k
    → r.handle ≡ k → (IsSome (row_at w' k) → IsMade w' kind r) → LoadFetchCall w me l (FetchTarget.Nested kind key) (Ok (from_cache_or_store see given)) w'
    → AsksFor see w me l kind key (Ok (Either.Left r)) w'
found-made {B} see {w} {w'} {me} {l} {kind} {key} {r} {k} given is same made ask =
    let found : LoadFetchCall w me l (FetchTarget.Nested kind key) (Ok (from_cache k)) w' =
    rw is at ask in
    record {
      asked = rw (← same) at found;
      made = made (known_live found.gives.2);
    }

-- whose calls they are is still at work
pub still-at-work : {w w' : Core} (me : Owner) → KeepsWorkers w w' → may_call w me ≡ true → may_call w' me ≡ true
still-at-work me kept was = grind (arith, nat_tests)

pub lazy_live : {w w' : Core} {me : Owner} {l : LoadNumber} {kind : Kind} {key : ℕ} {k : HandleNumber} → LazyCall w me l kind key (Ok k) w'
    → IsSome (row_at w' k)
lazy_live {w} {w'} {l = l} {kind} {key} {k} c = elim c.makes.3 [
  | inl known ↦ known_live known
  | inr (none, left, next, a) ↦ born_live w w' l kind key (OptionalDataKey.Some key) [] k next a
]

pub adopted_live : {w w' : Core} → HandlesAreWhole w → {me : Owner} {l : LoadNumber} {kind : Kind} {key t : ℕ} {references : List ArcRef} {k : HandleNumber}
    → Adopts w me l kind key t references k w'
    → IsSome (row_at w' k)
adopted_live {w} {w'} whole {l = l} {kind} {key} {references = references} {k} c = elim c.makes [
  | inl (n, known, f) ↦
      let s = stands-fell {w = with_handle w (record { 0 = n }) (mode_of kind.0) (Owner.Load l)} f.falls (not-load l) unnamed
      (new-handle w (record { 0 = n }) (mode_of kind.0) (Owner.Load l) (low-whole whole)) in
      ap is_some (ap (λ q. find_row q w'.rows) c.next.above ∙ s.live)
  | inr (none, left, a) ↦ born_live w w' l kind key (first_key kind.0 key) references k c.next a
]
  where
    unnamed : is_named_by references (w.last.handle + 1) ≡ false
    unnamed = false_from_ne_true (is_named_by references (w.last.handle + 1)) (λ is.
        let (g, among, same) = named-among references (w.last.handle + 1) is in
        let a = good w (Owner.Load l) [] references c.good g among in
        let n = found-number g.handle.0 w.rows a.row a.live in
        let le = (whole.numbered a.row (among-found g.handle.0 w.rows a.row a.live)).1 in
        omega (arith, n, le, same))

pub load_starts : {w w' : Core} {me : Owner} {h : HandleNumber} {l : LoadNumber} {key : ℕ} → BeginCall w me h (Ok (Beginning.Load l key)) w' → (t : ℕ)
    → Some t ≡ option_map (λ (r : Reading). r.node_type) (reading_of_load l (w'.loads l.0)) → StartsPin w me h (Ok (PinStart.Load l key t)) w'
load_starts c t is = grind (arith, nat_tests, begun_is, pinned-here, row-pins, same_some)

pub ruleset lending = (nat_tests, fewer_of_same, fewer_of_asked, called_fewer, stored_key, known_live, adopted_live)

module _ {w w' : Core} (whole : pager.IsWhole w) where
  pub begins : (r : Result WorkerNumber Error) → BeginsWorker w r w' → Rests w w'
  begins x0 b = grind (arith, nat_tests, rests-then, spares-same, unmoved)

  pub takes : (place : ℕ) (r : Result WorkerNumber Error) → TakesWorker w place r w' → Rests w w'
  takes place (Ok v) b = let (h, listed, next, leaves) = b.taken in starts-listed whole place h v listed leaves
  takes place (Err e) b = unmoved b.refused.1 whole.shut

-- the entry that was looked at is the one that the worker takes
pub entry-starts : {w w' : Core} {place type : ℕ} {row : HandleRow} {n : WorkerNumber} {kind : Kind} → IsEntry w place row.number row type
    → (kind.0 ≡ loose_kind type) × HasKinds type
    → TakesWorker w place (Ok n) w'
    → TakesEntry w place n (record { kind = kind; node = row.node; handle = row.number }) w'
entry-starts {w} {w'} {place} {type} {row} {n} e x0 t = grind (arith, nat_tests, same_some)

-- the handle of a reference that was claimed is loose
pub row_sorted : {w : Core} {h : HandleNumber} → Looks w h (λ b row. b ≡ is_loose row.mode) (Ok true) → RowIs w h true
row_sorted l = record { row = l.found.0; live = l.found.1; sort = sym l.found.2 }

pub ruleset handling = (nat_tests, same_some, slice_get_within, made_so, load_starts, entry-starts, row_sorted)

-- ---- what a handle lends, and what is seen of a pager of nothing

module _ {N E : Type 0} {v : Values N} {s : PagerState N E} (is : IsPagerWhole v s) (h : HandleNumber) where
  pub lends-none : Looks s.core h (λ node row. node ≡ (if is_pinning row.mode then Some row.node else None)) (Ok None) → ValueCall s h (Ok None)
  lends-none l = grind (arith, nat_tests)

  pub lends-fault : (e : Error) → Looks s.core h (λ node row. node ≡ (if is_pinning row.mode then Some row.node else None)) (Err e) → ValueCall s h (Err e)
  lends-fault e l = grind (arith, nat_tests)

  pub lends : {X Y : Type 0} (n : NodeNumber) (r : Option X) (see : Y → N) (g : X → Y) → s.values n.0 ≡ option_map see (option_map g r)
      → Looks s.core h (λ node row. node ≡ (if is_pinning row.mode then Some row.node else None)) (Ok (Some n))
      → ValueCall s h (Ok (option_map (λ x. see (g x)) r))
  lends n x0 see g value l = grind (arith, nat_tests, pinned-here, row-held, row-pins)

module _ {N S E H K V : Type 0} (tells : Storages S E N H K V) (p : PagerView N S E) (rows : p.tables.ref_counts.handles.places.items ≡ [])
    (nodes : (n : ℕ) → counts_at p.tables.ref_counts.nodes n ≡ None)
    (list : p.tables.ref_counts.list.items ≡ []) (cache : (kind key : ℕ) → cached_at p.tables.cache kind key ≡ None) (none : (n : ℕ) → row_by p.values n ≡ None)
  where
    pub is-new : ((l : ℕ) → load_at p.tables.loads l ≡ None) → ((v : ℕ) → worker_at p.tables.workers v ≡ None) → (p.tables.last_node ≡ 0)
        × (p.tables.ref_counts.last_handle ≡ 0) × (p.tables.last_load ≡ 0) × (p.tables.last_worker ≡ 0) → IsNew (pager_state tells p)
    is-new loads workers last = grind (arith, nat_tests)

-- what the storage tells is that it is empty and closed
module _ {N S E H K V : Type 0} {tells : Storages S E N H K V} {says : E → Values N} {p : PagerView N S E} (is : IsPager tells says p) (s : S) (t : Tables)
    (values : ValuesByNode N)
    (empty : (key : ℕ) → tells.stored s key ≡ None) (shut : tells.is_closed s ≡ true)
    (call : CloseCall (pager_core tells p) (Ok tt) (core_of t (shut_view (tells.failed s)))) (whole : IsWhole t)
    (drops : DropsValues (counts_at p.tables.ref_counts.nodes) (row_by p.values) (counts_at t.ref_counts.nodes) (row_by values)) where
  abbrev new : PagerView N S E
  new = record p { tables = t; values = values; storage = s }

  shut-call : CloseCall (pager_core tells p) (Ok tt) (pager_core tells new)
  shut-call = grind (arith, nat_tests, closed)

  pub shut-told : Calls FewerValues tells p (λ w w'. CloseCall w (Ok tt) w') new
  shut-told = record { step = shut-call; only = record { values = less is t values drops; environment = refl } }

  pub shut-pager : OwnLaterHandles t → IsPager tells says new
  shut-pager later = in-step new whole later (λ right. closed is.state (record { swept = swept is t values whole drops; right = right }) shut-call)
