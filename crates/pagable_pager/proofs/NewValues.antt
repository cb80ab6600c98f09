-- Bringing a value keeps the pager's invariant: with a new node, as what a load has read, or to a load's cell.
use Rattle.pagable_pager.proofs.{HeldByEnds.{ends-held, no-value}, Invariant.{caller-free, here-in, here-told, in-step, left-map, some-map}}
use Rattle.pagable_pager.specs.{
  View.{BringsAtNewNode, BringsToCell, IsPager, PagerView, Storages, ValuesByNode, may_call, pager_core, pager_state, storage_view, value_in, with_value},
}
use Rattle.pagable_pager_spec.specs.{
  Basics.{Error, if_there, updated},
  Calls.{InsertCall, IsNext, insert_fault},
  Kinds.is_pinning,
  LoadCalls.{AdoptCall, Adopts, DropCall, EndCall, EndRefused, Installs, MayEnd, adopt_fault, adopted, end_fault, first_key},
  Pager.{IsCellOf, ValueCall},
  Refusals.{Refused, load_fault, references_fault},
  World.{Alike, Core, OpenLoad, Values, greatest, is_here, usable},
  declared.{handle_row.Owner.Owner, mode.Mode.Mode},
}
use Rattle.pagable_tables.proofs.{
  LoadEnd.{installs-wider, may-wider},
  SameViews.{adopted-past, adopts-new as made-new, born-past, early-past, fault-by, next-past, no-load-fault, refused-memory, refused-new, room-alike},
  SameViews.{room-fault, told-later},
}
use Rattle.pagable_tables.specs.{
  Core.{Does, InsertsNode, OnlyRoom, StorageView, core_alone, core_of, no_blobs},
  EndingLoads.{DropsOtherValues, HasLostHandle, IsReady, adopt_check_fault, has_value_once_loaded},
  Nodes.{counts_at, has_value},
  NumberTable.row_by,
  declared.{load_end.Ending.Ending, nodes.Counts.Counts, tables.Tables.Tables},
}
use Rattle.pagable_theorems.proofs.{
  FormsOfTrees.cell-of,
  LoadProgress.row-held,
  Trees.same_some,
  ValuesOwned.{adopts-new, born, installed_away, installed_there, spared, unmoved},
}
use Rattle.pagable_value_spec.specs.declared.numbers.{ArcRef.ArcRef, HandleNumber.HandleNumber, Kind.Kind, LoadNumber.LoadNumber, NodeNumber.NodeNumber}
use Rattle.std.proofs.{
  Common.{Bool, Err, List, None, Ok, Option, Result, Some, ap, arith, false, if◌then◌else◌, inl, inr, not, refl, rules, subst, sym, true, ℕ, [], ◌&&◌, ◌+◌},
  Common.{◌<◌, ◌==◌, ◌∙◌, ◌≡◌},
  lemmas.Bool.{Decides.nat_tests, cases_Bool, cases_eq},
}
use Rattle.std.specs.{Arc.arc_value, Prelude.{is_some, ◌⊎◌}}

-- ---- what comes with a value: a node, what a load has read, and the value of a load's cell

-- a birth in a world where room was made before
birth-past : {N : Type 0} {w w1 w' : Core} {x : N} (me : Owner) (t t' : ℕ) (rs rs' : List ArcRef) (mode : Mode) (k : HandleNumber) → OnlyRoom w w1
    → references_fault w me [] rs ≡ None
    → w1.last.node < greatest → t ≡ t' → rs ≡ rs' → InsertsNode w1 me t 0 rs mode k w' → InsertCall w me x t' rs' mode (Ok k) w'
birth-past {N} {w} {w1} {w'} {x} me t t' rs rs' mode k room fit left typed named b = grind (arith, nat_tests, born-past, next-past)

module _ {N S E H K V : Type 0} {tells : Storages S E N H K V} {says : E → Values N} {p : PagerView N S E} (is : IsPager tells says p) {t1 : Tables}
    (values : ValuesByNode N)
    (room : Does p.tables OnlyRoom t1) where
  abbrev roomy : PagerView N S E
  roomy = record p { tables = t1; values = values }

  pub only-room : OnlyRoom (pager_core tells p) (pager_core tells roomy)
  only-room = room.does (storage_view tells p.storage)

  pub roomier : ((n : ℕ) → value_in values n ≡ value_in p.values n) → IsPager tells says roomy
  roomier same = in-step roomy room.whole (room.later is.later) (spared is.state (unmoved (room-alike only-room) is.state.whole.shut) same)

  -- a value is kept for the node that comes
  module _ (t2 : Tables) (x : N) (placed : (n : ℕ) → value_in values n ≡ updated (t1.last_node + 1) (Some x) (value_in p.values) n) where
    abbrev next : ℕ
    next = p.tables.last_node + 1

    abbrev after : PagerView N S E
    after = record p { tables = t2; values = values }

    pub told : (n : ℕ) → value_in values n ≡ (if n == next then Some x else value_in p.values n)
    told n = placed n ∙ ap (λ m. if n == m + 1 then Some x else value_in p.values n) (ap (λ (u : Core). u.last.node) only-room.same)

    pub moved-in : BringsAtNewNode tells x p after
    moved-in = let none_yet : value_in p.values next ≡ None = grind (arith, nat_tests) in grind (arith, nat_tests, cases_eq, none_yet, same_some, told)

    -- a node of the caller's
    module _ {mode : Mode} {k : HandleNumber} {node_type : ℕ} {rs qs : List ArcRef}
        (bears : Does t1 (λ w w'. InsertsNode w Owner.Caller node_type 0 rs mode k w') t2)
        (left : t1.last_node < greatest)
        (fit : references_fault (core_alone t1) Owner.Caller [] qs ≡ None) (read : qs ≡ rs) (typed : node_type ≡ (says p.environment).node_type x)
        (named : rs ≡ (says p.environment).references x) where
      birth : InsertCall (pager_core tells p) Owner.Caller x ((says p.environment).node_type x) ((says p.environment).references x) mode (Ok k)
          (pager_core tells after)
      birth =
          let plain = room.does no_blobs in
          let fine = fault-by (core_alone p.tables) (pager_core tells p) Owner.Caller [] rs ∙ sym (room-fault Owner.Caller rs plain) ∙ (rw read at fit) in
          birth-past Owner.Caller node_type ((says p.environment).node_type x) rs ((says p.environment).references x) mode k only-room fine left typed named
          (bears.does (storage_view tells p.storage))

      pub born-told : InsertCall (pager_core tells p) Owner.Caller x ((says p.environment).node_type x) ((says p.environment).references x) mode (Ok k)
          (pager_core tells after) × BringsAtNewNode tells x p after
      born-told = (birth, moved-in)

      pub born-so : is_pinning mode ≡ true → IsPager tells says after
      born-so pinning = in-step after bears.whole (bears.later (room.later is.later))
          (born {v = says p.environment} {s = pager_state tells p} {s' = pager_state tells after} is.state caller-free pinning birth told)

-- ---- what a load has read becomes a new node

pub not-adopted : {N : Type 0} {w w' : Core} {me : Owner} {l : LoadNumber} {kind : Kind} {key t u : ℕ} {qs refs : List ArcRef} {x y : N} {e : Error} → t ≡ u
    → qs ≡ refs → y ≡ x
    → Refused (adopt_fault w me l kind key t qs) (load_fault w me l) (Unit {0}) w e w' → AdoptCall w me l kind key x u refs (Err (e, y)) w'
not-adopted {me = me} {l} typed named back r = rw (← typed, ← named) (record { adopts = tt; refused = (back, told-later me l r) })

module _ {N S E H K V : Type 0} {tells : Storages S E N H K V} {says : E → Values N} {p q : PagerView N S E} (is : IsPager tells says p) (viewed : p ≡ q)
    (me : Owner)
    (l : LoadNumber) (kind : Kind) (key : ℕ) (x : N)
    {rs : List ArcRef} (listed : rs ≡ (says p.environment).references x)
    (fresh : (storage : StorageView) → adopt_check_fault (core_of q.tables storage) me l kind
    ((says p.environment).node_type x) rs ≡ None) (unknown : usable (core_alone q.tables) kind.0 key ≡ None) where
  fresh-in : (storage : StorageView) → adopt_check_fault (core_of p.tables storage) me l kind ((says p.environment).node_type x) rs ≡ None
  fresh-in storage = rw (← viewed) at (fresh storage)

  unknown-in : usable (core_alone p.tables) kind.0 key ≡ None
  unknown-in = rw (← viewed) at unknown

  pub new-refused : {w' : Core} {e : Error} → Refused (insert_fault (pager_core tells p)) (insert_fault (pager_core tells p)) (Unit {0})
      (pager_core tells p) e w'
      → AdoptCall (pager_core tells p) me l kind key x ((says p.environment).node_type x) ((says p.environment).references x) (Err (e, x)) w'
  new-refused r = not-adopted refl listed refl (refused-new (pager_core tells p) me l kind key ((says p.environment).node_type x) rs
      (fresh-in (storage_view tells p.storage)) unknown-in r)

  pub new-asked : {t1 : Tables} → Does p.tables OnlyRoom t1 → adopt_check_fault (core_alone t1) me l kind ((says p.environment).node_type x) rs ≡ None
  new-asked room = early-past me l kind ((says p.environment).node_type x) rs (room.does no_blobs) ∙ fresh-in no_blobs

  pub new-unknown : {t1 : Tables} → Does p.tables OnlyRoom t1 → usable (core_alone t1) kind.0 key ≡ None
  new-unknown room = ap (λ (u : Core). usable u kind.0 key) (room.does no_blobs).same ∙ unknown-in

  module _ {t1 : Tables} (values : ValuesByNode N) (room : Does p.tables OnlyRoom t1) where
    pub new-memory : {y : N} → y ≡ x → AdoptCall (pager_core tells p) me l kind key x ((says p.environment).node_type x) ((says p.environment).references x)
        (Err (Error.OutOfMemory, y)) (pager_core tells (record p { tables = t1; values = values }))
    new-memory back = not-adopted refl listed back (refused-memory (pager_core tells p) me l kind key ((says p.environment).node_type x) rs
        (fresh-in (storage_view tells p.storage))
        (only-room is values room))

    module _ (placed : (n : ℕ) → value_in values n ≡ updated (t1.last_node + 1) (Some x) (value_in p.values) n) (t2 : Tables) {k : HandleNumber} {b : Bool}
        (opens : b ≡ tells.is_closed p.storage)
        (left : t1.last_node < greatest) (does : Does t1 (λ w w'. IsNext k w
        × (not b ≡ not w.closed → Alike (adopted w l kind key (first_key kind.0 key) rs) w')) t2) where
      abbrev learned : PagerView N S E
      learned = record p { tables = t2; values = values }

      leaves : Alike (adopted (pager_core tells p) l kind key (first_key kind.0 key) rs) (pager_core tells learned)
      leaves = adopted-past l kind key (first_key kind.0 key) rs (only-room is values room) ((does.does (storage_view tells p.storage)).1 (ap not opens))

      adopts : Adopts (pager_core tells p) me l kind key ((says p.environment).node_type x) ((says p.environment).references x) k (pager_core tells learned)
      adopts = rw listed at (made-new (pager_core tells p) me l kind key ((says p.environment).node_type x) rs
          (fresh-in (storage_view tells p.storage)) unknown-in k
          (subst (λ (u : Core). u.last.node < greatest) (only-room is values room).same left)
          (next-past (only-room is values room) (does.does (storage_view tells p.storage)).0) leaves)

      pub new-told : AdoptCall (pager_core tells p) me l kind key x ((says p.environment).node_type x) ((says p.environment).references x) (Ok k)
          (pager_core tells learned) × BringsAtNewNode tells x p learned
      new-told = (record { adopts = adopts; refused = tt }, moved-in is values room t2 x placed)

      pub new-so : IsPager tells says learned
      new-so = in-step learned does.whole (does.later (room.later is.later))
          (adopts-new {v = says p.environment} {s = pager_state tells p} {s' = pager_state tells learned} is.state adopts unknown-in
          (told is values room t2 x placed))

-- ---- a value comes to a load's cell, and others go with their nodes

came : {N : Type 0} (comes : Bool) (node : NodeNumber) (x : N) (values : ℕ → Option N) (at : ℕ → Option Counts) → (comes ≡ false → has_value (at node.0) ≡ true)
    → ((n : ℕ) → is_some (values n) ≡ has_value (at n))
    → (n : ℕ) → is_some (with_value comes node.0 x values n) ≡ has_value_once_loaded at node n
came true node x values at there was n = grind (arith, nat_tests)
came false node x values at there was n = let here = there refl in grind (arith, nat_tests, cases_eq)

pub ready-told : {w : Core} {me : Owner} {l : LoadNumber} {t t' : ℕ} {refs refs' : List ArcRef} {r : Ending} → t ≡ t' → refs ≡ refs' → IsReady w me l t refs r
    → IsReady w me l t' refs' r
ready-told typed named is = rw (← typed, ← named) is

-- the pager after a load has ended with a pin
module _ {N S E H K V : Type 0} {tells : Storages S E N H K V} {says : E → Values N} {p : PagerView N S E} (is : IsPager tells says p) (x : N) {t1 t2 : Tables}
    (mid values : ValuesByNode N) {me : Owner} {l : LoadNumber}
    {node_type : ℕ} {qs rs : List ArcRef} {r : Ending} {k : HandleNumber} {b : Bool} (typed : node_type ≡ (says p.environment).node_type x) (read : qs ≡ rs)
    (listed : rs ≡ (says p.environment).references x) (room : Does p.tables OnlyRoom t1) (nodes : t1.ref_counts.nodes ≡ p.tables.ref_counts.nodes)
    (prepared : (storage : StorageView) → IsReady (core_of t1 storage) me l node_type qs r)
    (done : Does t1 (λ w w'. not b ≡ not w.closed → Installs w me l r.row.node r.row.number k rs w') t2) (opens : b ≡ tells.is_closed p.storage)
    (placed : (n : ℕ) → value_in mid n ≡ with_value r.lacks_value r.row.node.0 x (value_in p.values) n)
    (drops : DropsOtherValues r.row.node (counts_at t1.ref_counts.nodes) (row_by mid) (counts_at t2.ref_counts.nodes) (row_by values)) where
  abbrev w : Core
  w = pager_core tells p

  abbrev p' : PagerView N S E
  p' = record p { tables = t2; values = values }

  abbrev w' : Core
  w' = pager_core tells p'

  wider : OnlyRoom w (pager_core tells (record p { tables = t1 }))
  wider = only-room is values room

  ready : IsReady (pager_core tells (record p { tables = t1 })) me l ((says p.environment).node_type x) ((says p.environment).references x) r
  ready = ready-told typed (read ∙ listed) (prepared (storage_view tells p.storage))

  may : MayEnd w me l r.row.node r.row.number ((says p.environment).node_type x) ((says p.environment).references x)
  may = may-wider wider ready.may

  was : Installs w me l r.row.node r.row.number k ((says p.environment).references x) w'
  was = installs-wider wider (subst (λ z. Installs (pager_core tells (record p { tables = t1 })) me l r.row.node r.row.number k z w') listed
      (done.does (storage_view tells p.storage) (ap not opens)))

  kept : (n : ℕ) → is_some (value_in p.values n) ≡ has_value (counts_at t1.ref_counts.nodes n)
  kept n = is.state.valued n ∙ here-in is n ∙ ap (λ ns. has_value (counts_at ns n)) (sym nodes)

  -- a node that has its value by the world has it by its counts
  there : r.lacks_value ≡ false → has_value (counts_at t1.ref_counts.nodes r.row.node.0) ≡ true
  there here =
      let n = r.row.node.0 in
      let q = core_alone t1 in
      let ready = prepared no_blobs in
      let some = cell-of room.whole.core.handles n (row-held q r.row.number r.row ready.owned.live) in
      sym (here-told (counts_at t1.ref_counts.nodes n) q n refl (sym (room.whole.steady.fits.pinned n))) ∙ ap (λ b. b && is_here q n) some
      ∙ (let goes = sym ready.away ∙ here in grind (arith, nat_tests, goes))

  left : (n : ℕ) → value_in values n
      ≡ (if has_value (counts_at t2.ref_counts.nodes n) then with_value r.lacks_value r.row.node.0 x (value_in p.values) n else None)
  left n =
      let come = came r.lacks_value r.row.node x (value_in p.values) (counts_at t1.ref_counts.nodes) there kept in
      let l = drops.left (λ m. sym (some-map arc_value (row_by mid m)) ∙ ap is_some (placed m) ∙ come m) n in
      let here = has_value (counts_at t2.ref_counts.nodes n) in
      left-map arc_value here (row_by mid n) (row_by values n) l.0 l.1 ∙ ap (λ v. if here then v else None) (placed n)

  swept-so : (b : Bool) → r.lacks_value ≡ b → (n : ℕ) → value_in values n ≡ (if is_some (w'.cells n)
      && is_here w' n then with_value b r.row.node.0 x (value_in p.values) n else None)
  swept-so b e n = search (rules, here-told, left)

  away : (b : Bool) → r.lacks_value ≡ b → is_here w r.row.node.0 ≡ not b
  away b e = let same = ap (λ v. is_here v r.row.node.0) wider.same in let told = ready.away in grind (arith, nat_tests)

  pub ended-so : IsPager tells says p'
  ended-so = in-step p' done.whole (done.later (room.later is.later)) (λ right. elim (cases_Bool r.lacks_value) [
    | inl e ↦ installed_away is.state may was (away true e) (record { swept = swept-so true e; right = right })
    | inr e ↦ installed_there is.state may was (away false e) (record { swept = swept-so false e; right = right })
  ])

  comes : (n : ℕ) (y : N) → value_in values n ≡ Some y → (value_in p.values n ≡ Some y) ⊎ ((value_in p.values n ≡ None) × ((y ≡ x) × IsCellOf w l n))
  comes n y some =
      let cell : r.row.node.0 ≡ n → IsCellOf w l n = λ m.
      record {
        load = may.load;
        node = r.row.node;
        t = (says p.environment).node_type x;
        h = r.row.number;
        open_load = may.owned.stands_open;
        root = may.of_node;
        is = m;
      } in
      let none : r.lacks_value ≡ true → value_in p.values r.row.node.0 ≡ None =
      λ e. (let a = is.state.valued r.row.node.0 in let b = away true e in grind (arith, nat_tests)) in
      let s = swept-so r.lacks_value refl n in
      grind (arith, nat_tests, cases_eq)

  pub ended-told : EndCall w me l x ((says p.environment).node_type x) ((says p.environment).references x) (Ok k) w'
      × BringsToCell tells l x p p'
  ended-told = (record { installs = (r.row.node, r.row.number, may, was); refused = tt }, record { each = comes; environment = refl })

  -- where the cell had no value, the new handle holds this one
  pub ended-held : may_call w me ≡ true → r.lacks_value ≡ true → ValueCall (pager_state tells p') k (Ok (Some x))
  unfolding ended-told
  ended-held may_do lacks =
      let none : value_in p.values r.row.node.0 ≡ None = (let a = is.state.valued r.row.node.0 in let b = away true lacks in grind (arith, nat_tests)) in
      ends-held me (no-value w me may_do) l x _ _ k is.state ended-so.state ended-told.0 ended-told.1 none

-- a load that doesn't end with the value stays open; or it is closed, where its end is in vain
module _ {N : Type 0} {w w' : Core} {me : Owner} {l : LoadNumber} {t u : ℕ} {qs refs : List ArcRef} {e : Error} (x : N) (typed : t ≡ u)
    (named : qs ≡ refs) where
  pub unended : Refused (end_fault w me l t qs) (load_fault w me l) (Unit {0}) w e w' → EndCall w me l x u refs (Err (e, Some x)) w'
  unended refused = rw (← typed, ← named) (record { installs = tt; refused = (refl, told-later me l refused) })

  pub vain : {v : Core} (r : Result (Unit {0}) Error) → HasLostHandle w me l t qs e × (v ≡ w) → DropCall v me l r w'
      → EndCall w me l x u refs (Err (e, None)) w'
  vain r (is, same) drop = let closes : EndRefused w me l x t qs e None w' =
      grind (arith, nat_tests, no-load-fault) in rw (← typed, ← named) (record { installs = tt; refused = closes })

pub no-room : {N S E H K V : Type 0} {tells : Storages S E N H K V} {says : E → Values N} {p : PagerView N S E} → IsPager tells says p → {t : Tables}
    (values : ValuesByNode N)
    → Does p.tables OnlyRoom t → {me : Owner} {l : LoadNumber} {x y : N} {u node_type : ℕ} {qs refs : List ArcRef} {r : Ending} → y ≡ x
    → IsReady (pager_core tells (record p { tables = t })) me l u qs r
    → EndCall (pager_core tells p) me l x node_type refs (Err (Error.OutOfMemory, Some y)) (pager_core tells (record p { tables = t; values = values }))
no-room is values room back ready =
    let wider = only-room is values room in
    let why = ap (if_there (λ (load : OpenLoad). None) (Some Error.NoSuchHandle)) (may-wider wider ready.may).owned.stands_open in
    record { installs = tt; refused = (back, record { why = inr (refl, why, tt); stays = room-alike wider }) }
