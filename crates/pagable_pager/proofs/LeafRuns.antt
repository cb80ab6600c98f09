-- A load of a leaf that begins once its blob has come is one that began before and got it, and so a run of a pin.
use Rattle.pagable_load.{proofs.LoadSteps.none_comes, specs.{AccessView.MakesCallBringing, Decoding.IsReadAs}}
use Rattle.pagable_pager.proofs.Invariant.{whole-over}
use Rattle.pagable_pager.specs.Leaf.{LeafBegun, rooted_reading}
use Rattle.pagable_pager_spec.specs.{
  Access.{LoadRun, LoadStarts, MakesCall, PinRun, ReadingStep, load-ends, load-fails, load-goes-on, load-pins},
  Basics.{Blob, one},
  Calls.{FetchCall, row_of, with_handle},
  Events.reading_of_load,
  Kinds.{is_pin, pins},
  LoadCalls.{BeginCall, EndCall, LoadCloses, with_load},
  Loads.{ReadsRoot, gone_on, root_frame},
  Pager.{HoldsItsNodes, IsCellOf, IsPagerWhole, Moves, PagerState},
  Workers.fresh,
  World.{Core, Frame, OpenLoad, Reading, Root, Values, of_cell, usable},
  declared.{events.LoadAnswer.LoadAnswer, handle_row.Owner.Owner, mode.Mode.Mode, pinning.Beginning.Beginning},
}
use Rattle.pagable_tables.{proofs.SameViews.still, specs.declared.leaf.Leaf.Leaf}
use Rattle.pagable_value_spec.specs.{declared.{error.Error.Error, numbers.{HandleNumber.HandleNumber, LoadNumber.LoadNumber, NodeNumber.NodeNumber}}}
use Rattle.std.proofs.{Common.{Err, List, None, Ok, Result, Some, ap, arith, inl, inr, refl, subst, sym, ℕ, [], ◌++◌, ◌+◌, ◌∙◌, ◌∷◌, ◌≡◌}, lemmas.{Bool.Decides.nat_tests, List.Sums.sum_by_push}}
use Rattle.std.specs.Prelude.{slice_get}

-- ---- a load that begins once the blob has come is one that began before, and got it

-- what the cache gives is the same once a load of a cell is open
loaded-usable : (w : Core) (node : NodeNumber) (l : LoadNumber) (key : ℕ) (root : Root) (kind q : ℕ)
    → usable (with_load (with_handle w node Mode.LooseUnpinned (Owner.Load l)) key root Owner.Caller) kind q ≡ usable w kind q
loaded-usable w node l key root kind q =
    let guard = row_of (w.last.handle + 1) node Mode.LooseUnpinned (Owner.Load l) in
    let more : (n : ℕ) → pins n (w.rows ++ guard ∷ []) ≡ pins n w.rows =
    λ n. (let s = sum_by_push (λ x. one (is_pin n x)) w.rows guard in grind (arith, nat_tests)) in
    grind (arith, nat_tests, more)

module _ {N E : Type 0} (v : Values N) (s s1 mid1 : PagerState N E) (leaf : Leaf) (l : LoadNumber) (r : Result Blob Error)
    (fetched : FetchCall s.core leaf.key r s1.core)
    (values : (n : ℕ) → s1.values n ≡ s.values n) (same : s1.environment ≡ s.environment) (begun : LeafBegun v s1 leaf l mid1) where
  -- as it was before the storage was asked
  abbrev core : Core
  core = record mid1.core { stored = s.core.stored; closed = s.core.closed; failures = s.core.failures }

  abbrev before : PagerState N E
  before = record { core = core; counts = mid1.counts; values = mid1.values; environment = mid1.environment }

  began-before : BeginCall s.core Owner.Caller leaf.row.number (Ok (Beginning.Load l leaf.key)) core
  began-before =
      let (row, owns, (away, keyed, next, left, (t, typed, a))) = begun.begins.step.begins in
      let f = fetched.asked.leaves in
      record {
        begins = (
          row,
          record { live = grind (arith, nat_tests, f.rows); own = owns.own; as_asked = owns.as_asked },
          (
            grind (arith, nat_tests, f.rows, f.cells),
            grind (arith, nat_tests, f.cells),
            record { above = grind (arith, nat_tests, f.last); is_left = grind (arith, nat_tests, f.last) },
            grind (arith, nat_tests, f.last),
            (
              t,
              grind (arith, nat_tests, f.cells),
              record {
                rows = grind (arith, nat_tests, f.rows, f.last, a.rows);
                cells = λ n. a.cells n ∙ f.cells n;
                list = a.list ∙ f.list;
                cache = record {
                  gives = λ kind key. a.cache.gives kind key ∙ loaded-usable s1.core row.node l leaf.key (of_cell row.node t leaf.row.number) kind key
                      ∙ f.cache.gives kind key
                      ∙ sym (loaded-usable s.core row.node l leaf.key (of_cell row.node t leaf.row.number) kind key);
                  only = λ kind key n here. f.cache.only kind key n (a.cache.only kind key n here);
                };
                stored = λ key. refl;
                closed = refl;
                failures = refl;
                loads = λ q. grind (arith, nat_tests, a.loads, f.loads, f.last);
                workers = λ u. a.workers u ∙ f.workers u;
                last = grind (arith, nat_tests, a.last, f.last);
                places = record { handles = grind (arith, a.places.handles, f.places.handles); entries = grind (arith, a.places.entries, f.places.entries) };
              },
            ),
          ),
        );
        refused = tt;
      }

  abbrev load : OpenLoad
  load = record { owner = Owner.Caller; key = leaf.key; root = of_cell leaf.row.node leaf.node_type leaf.row.number }

  closed-is : mid1.core.closed ≡ s.core.closed
  closed-is = let (row, owns, (away, keyed, next, left, (t, typed, a))) = begun.begins.step.begins in a.closed ∙ fetched.asked.leaves.closed

  failures-are : mid1.core.failures ≡ s1.core.failures
  failures-are = let (row, owns, (away, keyed, next, left, (t, typed, a))) = begun.begins.step.begins in a.failures

  stored-is : (key : ℕ) → mid1.core.stored key ≡ s.core.stored key
  stored-is key = let (row, owns, (away, keyed, next, left, (t, typed, a))) = begun.begins.step.begins in a.stored key ∙ fetched.asked.leaves.stored key

  before-whole : IsPagerWhole v before
  before-whole =
      let b = begun.begins.whole in
      record {
        whole = whole-over mid1.core s.core b.whole (λ shut. b.whole.shut (closed-is ∙ shut));
        counted = b.counted;
        valued = b.valued;
        typed = b.typed;
        owns_references = b.owns_references;
        owns_nothing = b.owns_nothing;
        references = λ m x ref has among. let q = b.references m x ref has among in
            record { row = q.row; live = q.live; at = q.at; owned = q.owned; fits = q.fits; typed = q.typed };
      }

  got : FetchCall core leaf.key r mid1.core
  got = record {
    asked = record {
      fails = rw (← failures-are) at fetched.asked.fails;
      leaves = record {
        rows = refl;
        cells = λ n. refl;
        list = refl;
        cache = record { gives = λ kind key. refl; only = λ kind key n here. here };
        stored = stored-is;
        closed = closed-is;
        failures = refl;
        loads = λ q. refl;
        workers = λ u. refl;
        last = refl;
        places = record { handles = omega arith; entries = omega arith };
      };
    };
    found = fetched.found;
    refused = rw (← failures-are) at fetched.refused;
  }

  starts : LoadStarts v s leaf.row.number (fresh l leaf.node_type) before
  starts = record {
    key = leaf.key;
    begins = record {
      step = began-before;
      moves = record {
        each = λ n x has. elim (begun.begins.moves.each n x has) [ inl was ↦ inl (sym (values n) ∙ was) | inr (none, never) ↦ absurd never ];
        environment = begun.begins.moves.environment ∙ same;
      };
      whole = before-whole;
    };
    is = ap (reading_of_load l) begun.opened;
  }

  -- the blob has come
  module _ (blob : Blob) (of_blob : r ≡ Ok blob) where
    abbrev frames : List Frame
    frames = root_frame leaf.key leaf.node_type blob ∷ []

    abbrev rooted : Reading
    rooted = gone_on (fresh l leaf.node_type) frames

    is-rooted : rooted ≡ rooted_reading l leaf.key leaf.node_type blob
    is-rooted = ap (λ n. record { load = l; node_type = leaf.node_type; frames = frames; steps = n }) (grind (arith, nat_tests))

    step-root : ReadingStep v Owner.Caller (fresh l leaf.node_type) before None frames mid1
    step-root = record {
      does = record {
        does = inl (record {
          load = load;
          blob = blob;
          first = refl;
          open_load = begun.opened;
          asked = record {
            gives = (load, record { stands_open = begun.opened; own = refl }, rw of_blob at got);
            refused = tt;
          };
          goes = refl;
        });
      };
      moves = record { each = λ n x has. inl has; environment = refl };
      holds = λ well. record { each = λ n x has. inl has; environment = refl };
      answers = tt;
      whole = begun.begins.whole;
    }

    goes : (answer : LoadAnswer N) (u : PagerState N E) → LoadRun v Owner.Caller rooted mid1 answer u
        → LoadRun v Owner.Caller (fresh l leaf.node_type) before answer u
    goes answer u run = load-goes-on (fresh l leaf.node_type) frames answer before mid1 u step-root run

    pub root-pins : (k : HandleNumber) (u : PagerState N E) → LoadRun v Owner.Caller (rooted_reading l leaf.key leaf.node_type blob) mid1
        (LoadAnswer.Pinned k) u → PinRun v s leaf.row.number (Ok k) u
    root-pins k u run = load-pins k (fresh l leaf.node_type) before u starts
        (goes (LoadAnswer.Pinned k) u (subst (λ q. LoadRun v Owner.Caller q mid1 (LoadAnswer.Pinned k) u) (sym is-rooted) run))

    pub root-fails : (e : Error) (u : PagerState N E) → LoadRun v Owner.Caller (rooted_reading l leaf.key leaf.node_type blob) mid1 (LoadAnswer.Refused e) u
        → PinRun v s leaf.row.number (Err e) u
    root-fails e u run = load-fails e (fresh l leaf.node_type) before u starts
        (goes (LoadAnswer.Refused e) u (subst (λ q. LoadRun v Owner.Caller q mid1 (LoadAnswer.Refused e) u) (sym is-rooted) run))

    -- it is read, and the load ends with its value
    module _ (x : N) (k : HandleNumber) (u : PagerState N E) (read : IsReadAs v leaf.node_type blob [] x) (bare : v.references x ≡ [])
        (ends : MakesCallBringing v (λ w'. EndCall mid1.core Owner.Caller l x (v.node_type x) (v.references x) (Ok k) w')
        (λ n y. (y ≡ x) × IsCellOf mid1.core l n) mid1 u)
      where
        reads-root : ReadsRoot v rooted x
        reads-root = record {
          root = root_frame leaf.key leaf.node_type blob;
          frames = refl;
          decoded = record { own = read.own; read = read.read; typed = read.typed; means = read.means };
        }

        holds-none : (y : N) → y ≡ x → HoldsItsNodes v mid1 y
        holds-none y is ref among eager = absurd (let rs : v.references y ≡ [] = ap v.references is ∙ bare in let (i, there) = among in
            let none : slice_get [] i ≡ Some ref = rw rs at there in cc)

        step-end : ReadingStep v Owner.Caller rooted mid1 (Some (LoadAnswer.Pinned k)) [] u
        step-end = record {
          does = record {
            does = (
              record {
                x = x;
                reads_root = reads-root;
                of_cell_load = record { load = load; open_load = begun.opened; sort = tt };
                ended = ends.step;
              },
              refl,
            );
          };
          moves = record {
            each = λ n y some. elim (ends.moves.each n y some) [
              | inl was ↦ inl was
              | inr (none, (is, cell)) ↦ inr (none, inr (rw (← is) at reads-root, cell))
            ];
            environment = ends.moves.environment;
          };
          holds = λ well. record {
            each = λ n y some. elim (ends.moves.each n y some) [
              | inl was ↦ inl was
              | inr (none, (is, cell)) ↦ inr (none, holds-none y is)
            ];
            environment = ends.moves.environment;
          };
          answers = tt;
          whole = ends.whole;
        }

        pub pins-run : PinRun v s leaf.row.number (Ok k) u
        pins-run = load-pins k (fresh l leaf.node_type) before u starts (goes (LoadAnswer.Pinned k) u (load-ends rooted (LoadAnswer.Pinned k) mid1 u step-end))

    -- OutOfMemory
    module _ (u : PagerState N E) (closes : MakesCall v (λ w'. LoadCloses mid1.core l (Ok tt) w') mid1 u) where
      step-wanting : ReadingStep v Owner.Caller rooted mid1 (Some (LoadAnswer.Refused Error.OutOfMemory)) [] u
      step-wanting = record {
        does = record { does = (inl (record { mid = mid1.core; meets = inl (inr (inr refl), still mid1.core); told = Ok tt; closes = closes.step }), refl) };
        moves = none_comes closes.moves;
        holds = λ well. none_comes closes.moves;
        answers = tt;
        whole = closes.whole;
      }

      pub wanting-run : PinRun v s leaf.row.number (Err Error.OutOfMemory) u
      wanting-run = load-fails Error.OutOfMemory (fresh l leaf.node_type) before u starts
          (goes (LoadAnswer.Refused Error.OutOfMemory) u (load-ends rooted (LoadAnswer.Refused Error.OutOfMemory) mid1 u step-wanting))

  -- the storage refuses the blob
  module _ (e : Error) (u : PagerState N E) (of_error : r ≡ Err e) (closes : MakesCall v (λ w'. LoadCloses mid1.core l (Ok tt) w') mid1 u) where
    brings-none : {comes : ℕ → N → Type 0} → Moves comes before u
    brings-none {comes} = let none : Moves comes mid1 u = none_comes closes.moves in record { each = none.each; environment = none.environment }

    step-refused : ReadingStep v Owner.Caller (fresh l leaf.node_type) before (Some (LoadAnswer.Refused e)) [] u
    step-refused = record {
      does = record {
        does = (
          inl (record {
            mid = mid1.core;
            meets = inr (inl (
              refl,
              record {
                gives = tt;
                refused = inr (
                  load,
                  record { stands_open = begun.opened; own = refl },
                  rw of_error at got,
                );
              },
            ));
            told = Ok tt;
            closes = closes.step;
          }),
          refl,
        );
      };
      moves = brings-none;
      holds = λ well. brings-none;
      answers = tt;
      whole = closes.whole;
    }

    pub refused-run : PinRun v s leaf.row.number (Err e) u
    refused-run = load-fails e (fresh l leaf.node_type) before u starts (load-ends (fresh l leaf.node_type) (LoadAnswer.Refused e) before u step-refused)
