-- At a node whose references are done a worker makes one call of the access and one of its table: these do what its tasks there do one by one.
use Rattle.pagable_load.specs.WorkerCalls.{SetsKeyIfLoose, StoresNode}
use Rattle.pagable_pageout.proofs.{
  FinishTurns.{finish-fails, finish-stores, key-set, key-unset, publishes, release-ends, release-gives, set-fails, set-goes},
  Strides.{comes-on, turn-comes, turn-walked},
  Words.{ArcRef, Bool, ClaimedNode, EachIsAwaited, Environments, Equalities, Err, Error, FollowsStore, HandleNumber, HasWalked, Hashes, List, MakesCall},
  Words.{NeedsNoPager, Nodes, None, Ok, Orders, Owner, PagerState, PartialOrders, Result, SameShelf, Shelf, Some, Task, Todo, Turn, Values, WaitingValue, ap},
  Words.{arc_value, arith, back_of, false, identity_of, if◌then◌else◌, inl, inr, keys_of, length, length-map, longest_path, published, refl, subst, sym},
  Words.{todo_of, todos, true, values_at, waiting_todo, waits_as, was_refused, with_changed_slot, with_outcome, written_of, ℕ, [], ∥∥₁_map, ◌+◌, ◌∙◌, ◌∷◌, ◌≡◌},
  Words.◌≤◌,
}
use Rattle.pagable_pageout.specs.{
  Results.{ResultStands, ResultsStand, more-results, no-results, stands-over},
  Slots.ids_of,
  Strides.{HandsOnResult, StoresAndReleasesNode, WalksTo, worker_node},
  Tasks.{Awaits, fails},
  Turns.{SetsKeyThrough, Stores},
  declared.{results.SlotResult.SlotResult, tasks.DoneReference.DoneReference},
}
use Rattle.pagable_pager_spec.specs.{Basics.is_loose_kind, Calls.StoreCall, Cascade.FallsAnyhow, Workers.is_workers_at, World.to_set}
use Rattle.pagable_value_spec.specs.{Blob.{Blob, key_of}, Merkle.blob_of}
use Rattle.std.proofs.{Common.{drop, get_or, map}, lemmas.{Grind.merely, List.take_all}}
use mathlib.Core.Logic.{∥∥₁_elim, ∥∥₁_prop}

-- the key is set through the handle that a loose reference has, and else through none
module _ {N E : Type 0} {v : Values N} {me : Owner} {r : ArcRef} {through : HandleNumber} {key : ℕ} {result : Result (Unit {0}) Error}
    {s t : PagerState N E} where
  sets-by : (b : Bool) → is_loose_kind r.kind.0 ≡ b → SetsKeyIfLoose v me (if b then Some through else None) key result s t
      → SetsKeyThrough v me r through key result s t
  sets-by true kind sets = key-set kind s t sets
  sets-by false kind (is, same) = subst (λ x. SetsKeyThrough v me r through key x s t) (sym is)
      (subst (λ x. SetsKeyThrough v me r through key (Ok tt) s x) (sym same) (key-unset kind s))

  sets-for : SetsKeyIfLoose v me (if is_loose_kind r.kind.0 then Some through else None) key result s t → SetsKeyThrough v me r through key result s t
  sets-for sets = sets-by (is_loose_kind r.kind.0) refl sets

called-stores : {N E : Type 0} {v : Values N} {blob : Blob} {s t : PagerState N E} {r : Result ℕ Error}
    → MakesCall v (λ w'. StoreCall (key_of v.hash) s.core blob r w') s t → Stores v s blob r t
called-stores call = record { stored = call.step; moves = call.moves; whole = λ w. call.whole }

-- what is done in one call, in the words of the walk
module _ {N E : Type 0} {v : Values N} {me : Owner} {n : ℕ} {node : ClaimedNode} {blob : Blob} where
  pub node-leaves : {r : Result ℕ Error} (s t : PagerState N E) → StoresNode v me (worker_node n node) blob r s t → StoresAndReleasesNode v me n node s blob r t
  node-leaves {r = Ok key} s t h = let (mid, call, closes) = h.stores in record { stores = (mid, called-stores call, closes); refused = tt }
  node-leaves {r = Err e} s t h = record {
    stores = tt;
    refused = elim h.refused [
      | inl call ↦ inl (called-stores call)
      | inr (key, mid, call, closes) ↦ inr (key, mid, called-stores call, closes)
    ];
  }

-- ---- a node's result

module _ {X XN XH XK XV : Type 0} {g : Environments X XN XH XK XV} {gh : Hashes XH} {go : Orders XK} {gq : Equalities XK} {gp : PartialOrders XK}
    {gn : Nodes XN X XN XH XK XV} where
  -- results have their trees, one for each reference
  pub all-stand : (refs : List ArcRef) (xs : List (SlotResult X XN XH XK XV g gh go gq gp gn)) → map identity_of refs ≡ ids_of xs
      → ∥ ResultsStand gh.digest (values_at gn g gh) refs (keys_of xs) ∥₁
  all-stand [] [] e = merely no-results
  all-stand (r ∷ refs) (x ∷ xs) e =
      let same : identity_of r ≡ x.identity = ap (λ is. get_or is 0 (identity_of r)) e in
      ∥∥₁_elim x.stands ∥∥₁_prop (λ t. ∥∥₁_map (all-stand refs xs (ap (drop 1) e)) (λ ts.
      more-results r x.key refs (keys_of xs) (subst (λ i. ResultStands gh.digest (values_at gn g gh) i x.key) (sym same) t) ts))
  all-stand refs xs e = absurd (cc)

  module _ (w : WaitingValue X XN XH XK XV g gh go gq gp gn) (all : length (keys_of w.children.items)
      ≡ length (written_of (arc_value w.written)).references) where
    pub results-stand : ∥ ResultsStand gh.digest (values_at gn g gh) (arc_value w.written).arcs.items (keys_of w.children.items) ∥₁
    results-stand =
        let xs = w.children.items in
        let many = length-map xs (λ r. r.key) in
        all-stand (arc_value w.written).arcs.items xs (sym (w.each ∙ ap (map identity_of)
        (take_all _ (arc_value w.written).arcs.items (omega (arith, many, all)))))

    module _ (node : ClaimedNode) (is : w.node ≡ Some node) where
      pub node-low : node.height ≤ longest_path
      node-low = omega (arith, w.near node is)

      module _ (key : ℕ) (key_is : key ≡ key_of gh.digest (blob_of (written_of (arc_value w.written)).bytes (keys_of w.children.items))) where
        pub node-stands : ∥ ResultStands gh.digest (values_at gn g gh) (identity_of node.reference) key ∥₁
        node-stands = ∥∥₁_elim (w.form node is) ∥∥₁_prop (λ f. ∥∥₁_map results-stand
            (λ ts. subst (ResultStands gh.digest (values_at gn g gh) (identity_of node.reference)) (sym key_is)
            (stands-over (identity_of node.reference) (written_of (arc_value w.written)) (keys_of w.children.items) f ts)))

        node-done : DoneReference X XN XH XK XV g gh go gq gp gn
        node-done = record {
          reference = node.reference;
          found = record {
            identity = identity_of node.reference;
            key = key;
            height = node.height;
            of = record {};
            low = node-low;
            stands = node-stands;
          };
          own = refl;
        }

  -- all references of a written node are done, and something waits for it, or nothing
  pub node-way : (w : WaitingValue X XN XH XK XV g gh go gq gp gn) {node : ClaimedNode} (below : List Todo) → w.node ≡ Some node
      → EachIsAwaited (waiting_todo w ∷ below)
      → (length (keys_of w.children.items) ≡ length (written_of (arc_value w.written)).references) × Awaits below node.reference node.place
      × (node.place + node.height ≤ longest_path)
  node-way w below is way = subst (λ o. EachIsAwaited (waits_as o (written_of (arc_value w.written)) (keys_of w.children.items) ∷ below)) is way

-- ---- the turns

module _ {X XN XH XK XV : Type 0} {g : Environments X XN XH XK XV} {gh : Hashes XH} {go : Orders XK} {gq : Equalities XK} {gp : PartialOrders XK}
    {gn : Nodes XN X XN XH XK XV} {N E : Type 0} {v : Values N} {me : Owner} {n : ℕ} where
  node-released : {shelf : Shelf} {d : DoneReference X XN XH XK XV g gh go gq gp gn} {below : List Todo}
      (turn : Turn X XN XH XK XV g gh go gq gp gn) {after : List Todo} → HandsOnResult d below turn after → {s t : PagerState N E}
      → MakesCall v (λ w'. FallsAnyhow s.core s.core (is_workers_at s.core n d.reference.node.0) w') s t
      → WalksTo v me n shelf (Task.Release d) below shelf turn after s t
  node-released (Turn.Goes task) (gives, plain) {s} {t} falls = turn-comes (release-gives gives plain s t falls)
  node-released (Turn.Answers answer) (is, none, ends) {s} {t} falls = rw (is, ends) (turn-comes (release-ends none s t falls))

  module _ {shelf : Shelf} (path : List (WaitingValue X XN XH XK XV g gh go gq gp gn)) (w : WaitingValue X XN XH XK XV g gh go gq gp gn)
      (way : EachIsAwaited (waiting_todo w ∷ todos path)) {node : ClaimedNode} (is : w.node ≡ Some node) where
    node-stored : {d : DoneReference X XN XH XK XV g gh go gq gp gn} {key : ℕ} → d.reference ≡ node.reference → d.found.key ≡ key
        → d.found.height ≡ node.height → {s t : PagerState N E}
        → Stores v s (blob_of (written_of (arc_value w.written)).bytes (keys_of w.children.items)) (Ok key) t
        → HasWalked v me n shelf (Task.Finish w) (todos path) shelf (Task.SetKey d node.through) (todos path) s t
    node-stored {d} {key} reference same_key height {s} {t} stores =
        let next : Task X XN XH XK XV g gh go gq gp gn = Task.SetKey d node.through in
        let same : todo_of next ≡ to_set node.reference node.through key node.height = λ i. to_set (reference i) node.through (same_key i) (height i) in
        turn-walked (finish-stores way path refl (subst (λ o. FollowsStore o key (Turn.Goes next)) (sym is) (next, refl, same, tt)) s t stores) refl

    -- the node is left: its blob is stored, its key set, its result published, and its handles are given up
    pub node-left : (d : DoneReference X XN XH XK XV g gh go gq gp gn) {key : ℕ} → d.reference ≡ node.reference → d.found.key ≡ key
        → d.found.height ≡ node.height → {shelf' : Shelf} {turn : Turn X XN XH XK XV g gh go gq gp gn} {after : List Todo}
        → HandsOnResult d (todos path) turn after → {s t : PagerState N E}
        → StoresAndReleasesNode v me n node s (blob_of (written_of (arc_value w.written)).bytes (keys_of w.children.items)) (Ok key) t
        → SameShelf (with_changed_slot shelf d.found.identity (with_outcome (published d.found.key d.found.height))) shelf'
        → WalksTo v me n shelf (Task.Finish w) (todos path) shelf' turn after s t
    node-left d {key} reference same_key height {turn = turn} hands left same =
        let (mid, stores, closes) = left.stores in
        let (low, sets, falls) = closes.closes in
        comes-on (node-stored {d = d} reference same_key height stores) (comes-on
        (turn-walked (set-goes mid low (rw (reference, same_key) (sets-for sets))) refl)
        (comes-on (turn-walked (publishes low same) refl) (node-released turn hands (rw reference falls))))

    -- the blob or the key is refused, and the walk fails
    pub node-refused : v.hash ≡ gh.digest → {e : Error} {task : Task X XN XH XK XV g gh go gq gp gn} {after : List Todo} → NeedsNoPager task → after
        ≡ fails (was_refused e) (back_of None (todos path)) → {s t : PagerState N E}
        → StoresAndReleasesNode v me n node s (blob_of (written_of (arc_value w.written)).bytes (keys_of w.children.items)) (Err e) t
        → WalksTo v me n shelf (Task.Finish w) (todos path) shelf (Turn.Goes task) after s t
    unfolding node-done
    node-refused hash plain failed {s} {t} left = elim left.refused [
      | inl stores ↦ turn-comes (finish-fails way plain failed s t stores)
      | inr (key, mid, stores, closes) ↦
          let d : DoneReference X XN XH XK XV g gh go gq gp gn = node-done w (node-way w (todos path) is way).0 node is key (stores.stored.stores.0
          ∙ ap (λ h. key_of h (blob_of (written_of (arc_value w.written)).bytes (keys_of w.children.items))) hash) in
          comes-on (node-stored {d = d} refl refl refl stores) (turn-comes (set-fails plain failed mid t (sets-for closes.refused)))
    ]
