-- A worker's turns at what was written store it, set its key, publish the result and release the node; or the worker fails.
use Rattle.pagable_load.proofs.LoadSteps.{none_comes}
use Rattle.pagable_pageout.proofs.{
  Words.{Action, ArcRef, ClaimedNode, EachIsAwaited, EntryGetsResult, Environments, Equalities, Err, Error, FollowsStore, HandleNumber, Hashes, List},
  Words.{MakesCall, NeedsNoPager, Nodes, None, Ok, Option, Orders, Owner, PageOutError, PagerState, PartialOrders, PerformsTask, Result, SameShelf, Shelf},
  Words.{Some, Task, Todo, Turn, Values, WaitingValue, WorkerAnswer, Written, acts_all, acts_map, ap, arc_value, back_of, basics, false, identity_of, inl, inr},
  Words.{keys_of, published, refl, subst, sym, tests, to_fail, to_publish, to_release, todos, todos_after, true, waiting_todo, waits_as, was_refused},
  Words.{with_changed_slot, with_outcome, written_of, ℕ, [], ◌∙◌, ◌∷◌, ◌≡◌},
  WorkerTurns.{alike, none-back, plain-fits, same-shelf},
}
use Rattle.pagable_pageout.specs.{
  Tasks.{fails, fault_of},
  Turns.{GoesBackOnList, SetsKeyThrough, Stores, identity_of_node},
  declared.tasks.DoneReference.DoneReference,
}
use Rattle.pagable_pager_spec.specs.{
  Basics.is_loose_kind,
  Calls.{ScheduleCall, SetKeyCall},
  Cascade.FallsAnyhow,
  Workers.{KeySetFor, is_workers_at, with_failed},
  World.answer_of_fault,
}
use Rattle.pagable_value_spec.specs.Merkle.{blob_of}

-- ---- a turn at what was written is the worker's

module _ {X XN XH XK XV : Type 0} {g : Environments X XN XH XK XV} {gh : Hashes XH} {go : Orders XK} {gq : Equalities XK} {gp : PartialOrders XK}
    {gn : Nodes XN X XN XH XK XV} where
  pub stored-way : (node : Option ClaimedNode) (written : Written) (keys : List ℕ) (key : ℕ) (turn : Turn X XN XH XK XV g gh go gq gp gn)
      (path : List (WaitingValue X XN XH XK XV g gh go gq gp gn)) → FollowsStore node key turn → EachIsAwaited (waits_as node written keys ∷ todos path)
      → EachIsAwaited (todos_after turn path)
  stored-way given written keys key turn path is way = grind basics

module _ {X XN XH XK XV : Type 0} {g : Environments X XN XH XK XV} {gh : Hashes XH} {go : Orders XK} {gq : Equalities XK} {gp : PartialOrders XK}
    {gn : Nodes XN X XN XH XK XV} {N E : Type 0} {v : Values N} {me : Owner} {n : ℕ} {shelf : Shelf} {below : List Todo} where
  module _ {w : WaitingValue X XN XH XK XV g gh go gq gp gn} (way : EachIsAwaited (waiting_todo w ∷ below)) where
    pub finish-stores : {key : ℕ} {turn : Turn X XN XH XK XV g gh go gq gp gn} (path : List (WaitingValue X XN XH XK XV g gh go gq gp gn)) → todos path ≡ below
        → FollowsStore w.node key turn → (s t : PagerState N E)
        → Stores v s (blob_of (written_of (arc_value w.written)).bytes (keys_of w.children.items)) (Ok key) t
        → PerformsTask v me n shelf (Task.Finish w) below shelf (record {
          action = Action.Store (identity_of_node w.node) (Ok key);
          turn = turn;
          counted = true;
        })
        (todos_after turn path) s t
    finish-stores path at is s t call = grind (basics, same-shelf, none_comes, plain-fits)

    pub finish-fails : {e : Error} {task : Task X XN XH XK XV g gh go gq gp gn} {after : List Todo} → NeedsNoPager task → after
        ≡ fails (was_refused e) (back_of None below) → (s t : PagerState N E)
        → Stores v s (blob_of (written_of (arc_value w.written)).bytes (keys_of w.children.items)) (Err e) t
        → PerformsTask v me n shelf (Task.Finish w) below shelf (record {
          action = Action.Store (identity_of_node w.node) (Err e);
          turn = Turn.Goes task;
          counted = true;
        })
        after s t
    finish-fails {task = task} plain is s t call = grind (basics, same-shelf, none_comes, plain-fits)

  module _ {d : DoneReference X XN XH XK XV g gh go gq gp gn} where
    pub set-goes : {through : HandleNumber} (s t : PagerState N E) → SetsKeyThrough v me d.reference through d.found.key (Ok tt) s t
        → PerformsTask {g = g} {gh = gh} {go = go} {gq = gq} {gp = gp} {gn = gn} v me n shelf (Task.SetKey d through) below shelf
        (record { action = Action.SetKey (identity_of d.reference) (Ok tt); turn = Turn.Goes (Task.Publish d); counted = true })
        (to_publish d.reference d.found.key d.found.height ∷ below) s t
    set-goes {through} s t call = record {
      counts = refl;
      turns = λ f.
          let sets = subst (λ o. KeySetFor s.core o d.reference through d.found.key (Ok tt) t.core) f.me_is call.sets in
          record {
            does = record { does = (refl, record { sets = sets; goes = record { table_stays = same-shelf shelf; list_is = refl }; refused = tt }) };
            answers = refl;
            moves = none_comes call.moves;
            holds = none_comes call.moves;
            writes = tt;
            whole = call.whole f.whole;
            fits = tt;
          };
    }

    pub set-fails : {through : HandleNumber} {e : Error} {task : Task X XN XH XK XV g gh go gq gp gn} {after : List Todo} → NeedsNoPager task → after
        ≡ fails (was_refused e) (back_of None below) → (s t : PagerState N E)
        → SetsKeyThrough v me d.reference through d.found.key (Err e) s t
        → PerformsTask v me n shelf (Task.SetKey d through) below shelf (record {
          action = Action.SetKey (identity_of d.reference) (Err e);
          turn = Turn.Goes task;
          counted = true;
        }) after s t
    set-fails {through} {e} {task} is-plain is s t call = record {
      counts = refl;
      turns = λ f.
          let sets = subst (λ o. KeySetFor s.core o d.reference through d.found.key (Err e) t.core) f.me_is call.sets in
          record {
            does = record {
              does = (
                refl,
                record {
                  sets = sets;
                  goes = tt;
                  refused = record { table_stays = same-shelf shelf; list_is = is ∙ ap (λ back. to_fail (was_refused e) back ∷ []) (none-back below) };
                },
              );
            };
            answers = refl;
            moves = none_comes call.moves;
            holds = none_comes call.moves;
            writes = tt;
            whole = call.whole f.whole;
            fits = plain-fits n t.core task is-plain;
          };
    }

    pub publishes : {shelf' : Shelf} (s : PagerState N E)
        → SameShelf (with_changed_slot shelf d.found.identity (with_outcome (published d.found.key d.found.height))) shelf'
        → PerformsTask {g = g} {gh = gh} {go = go} {gq = gq} {gp = gp} {gn = gn} v me n shelf (Task.Publish d) below shelf'
        (record { action = Action.Publish (identity_of d.reference) d.found.key d.found.height; turn = Turn.Goes (Task.Release d); counted = true })
        (to_release d.reference d.found.key d.found.height ∷ below) s s
    publishes s same = let own = d.own in grind (basics, alike)

module _ {X XN XH XK XV : Type 0} {g : Environments X XN XH XK XV} {gh : Hashes XH} {go : Orders XK} {gq : Equalities XK} {gp : PartialOrders XK}
    {gn : Nodes XN X XN XH XK XV} {N E : Type 0} {v : Values N} {me : Owner} {n : ℕ} {shelf : Shelf} {d : DoneReference X XN XH XK XV g gh go gq gp gn}
    {below : List Todo} where
  pub release-ends : below ≡ [] → (s t : PagerState N E)
      → MakesCall v (λ w'. FallsAnyhow s.core s.core (is_workers_at s.core n d.reference.node.0) w') s t
      → PerformsTask v me n shelf (Task.Release d) below shelf (record {
        action = Action.Release (identity_of d.reference);
        turn = Turn.Answers (WorkerAnswer.Key d.found.key);
        counted = true;
      }) [] s t
  release-ends none s t call = grind (basics, same-shelf, none_comes)

  pub release-gives : {task : Task X XN XH XK XV g gh go gq gp gn} {after : List Todo}
      → EntryGetsResult d.reference d.found.key d.found.height below after → NeedsNoPager task → (s t : PagerState N E)
      → MakesCall v (λ w'. FallsAnyhow s.core s.core (is_workers_at s.core n d.reference.node.0) w') s t
      → PerformsTask v me n shelf (Task.Release d) below shelf (record {
        action = Action.Release (identity_of d.reference);
        turn = Turn.Goes task;
        counted = true;
      }) after s t
  release-gives {task} gives plain s t call = grind (basics, same-shelf, none_comes, plain-fits)

module _ {X XN XH XK XV : Type 0} {g : Environments X XN XH XK XV} {gh : Hashes XH} {go : Orders XK} {gq : Equalities XK} {gp : PartialOrders XK}
    {gn : Nodes XN X XN XH XK XV} {N E : Type 0} {v : Values N} {me : Owner} {n : ℕ} {shelf : Shelf} where
  pub ends-failed : {shelf' : Shelf} {why : PageOutError} {back : Option HandleNumber} {below : List Todo} → SameShelf (with_failed shelf n) shelf'
      → (s t : PagerState N E) → GoesBackOnList v me back s t
      → PerformsTask {g = g} {gh = gh} {go = go} {gq = gq} {gp = gp} {gn = gn} v me n shelf (Task.Fail why back) below shelf'
      (record { action = Action.Fail; turn = Turn.Answers (answer_of_fault (fault_of why)); counted = true }) [] s t
  ends-failed {why = why} {back} same s t call = grind (basics, none_comes)

-- a key is set, or none is
module _ {N E : Type 0} {v : Values N} {me : Owner} {r : ArcRef} {through : HandleNumber} {key : ℕ} where
  pub key-unset : is_loose_kind r.kind.0 ≡ false → (s : PagerState N E) → SetsKeyThrough v me r through key (Ok tt) s s
  key-unset kind s = record {
    sets = record { does = inr (kind, refl, alike s.core) };
    moves = record { each = λ n x is. inl is; environment = refl };
    whole = λ w. w;
  }

  pub key-set : is_loose_kind r.kind.0 ≡ true → {result : Result (Unit {0}) Error} (s t : PagerState N E)
      → MakesCall v (λ w'. SetKeyCall s.core me through key result w') s t → SetsKeyThrough v me r through key result s t
  key-set kind s t call = record { sets = record { does = inl (kind, call.step) }; moves = call.moves; whole = λ w. call.whole }

-- an entry goes back, or none does
module _ {N E : Type 0} (v : Values N) (me : Owner) where
  pub back-none : (back : Option HandleNumber) → ((h : HandleNumber) → back ≡ Some h → ⊥) → (s : PagerState N E) → GoesBackOnList v me back s s
  back-none back none s = grind (basics, alike)

  pub back-some : (back : Option HandleNumber) (h : HandleNumber) (r : Result (Unit {0}) Error) → back ≡ Some h → (s t : PagerState N E)
      → MakesCall v (λ w'. ScheduleCall s.core me h r w') s t
      → GoesBackOnList v me back s t
  back-some back h r is s t call = subst (λ b. GoesBackOnList v me b s t) (sym is)
      (record { goes = (r, call.step); moves = call.moves; whole = λ w. call.whole })

pub ruleset keys = (tests, acts_map, acts_all, key-unset, key-set)

pub ruleset finishing = (basics, stored-way)

pub ruleset backs = (acts_map, acts_all, back-none, back-some)

pub ruleset turning = (tests, acts_all, publishes)
