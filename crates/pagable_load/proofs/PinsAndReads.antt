-- A load's steps up to its end; whole pins with their loads, how a pin is taken back, and whole reads of a key.
use Rattle.pagable_load.proofs.LoadSteps.{acts_then}
use Rattle.pagable_load.specs.{
  Frames.{IsLoadOf, frames_of, reading_of},
  LoadSteps.{HasGone, IsSameLoad, RunsLoad, RunsLoadOrPart, TriesStep},
  Outcomes.answer_of,
  PinStart.{PinsWithLoad, SharesPinned, StartsPin, TakesBack, Unpins},
  declared.{access.PinStart.PinStart, reading.{LoadOutcome.LoadOutcome, Reading.Reading as Own}},
}
use Rattle.pagable_pager_spec.specs.{
  Access.{IsUnpinnedBack, LoadRun, MakesCall, PinRun, PinsOver, ReadingStep, ReadsOver, load-ends, load-fails, load-goes-on, load-is-refused, load-pins},
  Access.{load-reads, pin-is-refused, pins-at-once, reading-fails, reading-is-refused},
  Basics.{Among, if_there},
  Calls.{PinCall, ReleaseCall, row_of, with_mode},
  Kinds.{is_loose, is_unpinned},
  LoadCalls.{BeginCall, BeginKeyCall, with_load},
  Loads.{GoesOn, gone_on},
  Pager.{IsPagerWhole, PagerState},
  Workers.fresh,
  World.{Alike, Core, Frame, Reading, Root, Values, of_key, one_more, row_at},
  declared.{events.LoadAnswer.LoadAnswer, handle_row.{HandleRow.HandleRow, Owner.Owner}, mode.Mode.Mode, pinning.{Beginning.Beginning, Pinning.Pinning}},
}
use Rattle.pagable_theorems.proofs.{Decoding.among-right, HandlesKept.{NotValues, end-call, low-whole}, StepBounds.found}
use Rattle.pagable_theorems.specs.TreeSteps.{HasPin}
use Rattle.pagable_value_spec.specs.declared.{error.Error.Error, numbers.{HandleNumber.HandleNumber, LoadNumber.LoadNumber}}
use Rattle.std.specs.{Global.Global, declared.sync.Arc.Arc}
use Rattle.std.proofs.{
  Common.{Bool, Err, List, None, Ok, Option, Result, Some, ap, arith, false, inr, refl, rules, subst, sym, true, ℕ, [], ◌+◌, ◌∙◌, ◌∷◌, ◌≡◌},
  lemmas.{Bool.Decides.nat_tests, Grind.common_steps},
}

-- ---- a load's steps, one after another up to its end

module _ {N : Type 0} (v : Values N) (me : Owner) where
  -- while there is more the load stays open
  pub goes_open : (w w' : Core) (reading : Reading) (frames : List Frame) → GoesOn v w me reading frames w' → w'.loads reading.load.0 ≡ w.loads reading.load.0
  goes_open w w' reading frames g = grind (arith, common_steps, nat_tests)

module _ {N E : Type 0} (v : Values N) (me : Owner) where
  module _ (own now : Own) (s m t : PagerState N E) (gone : HasGone v me own now s m) where
    pub went_on : (next : Own) (frames : List Frame) → IsSameLoad now next (one_more now.steps) → frames ≡ frames_of next.top next.below.items
        → TriesStep v me now m (Ok None) frames t → HasGone v me own next s t
    went_on next frames is_same is step = record {
      open_still = still;
      then = λ o answer u run. gone.then o answer u
          (load-goes-on (reading_of now) frames answer m t u (step.does (gone.open_still o)) (subst (λ r. LoadRun v me r t answer u) same run));
    }
      where
        same : reading_of next ≡ gone_on (reading_of now) frames
        same = rw (is_same.load, is_same.node_type, is_same.steps, is) refl

        still : IsLoadOf s.core me own → IsLoadOf t.core me next
        still o = grind (arith, nat_tests, goes_open)

    pub ends_so : (answer : LoadOutcome N) (frames : List Frame) → TriesStep v me now m (Ok (Some answer)) frames t → RunsLoad v me own s answer t
    ends_so answer frames step = first_of (grind (arith, common_steps, nat_tests), grind (arith, nat_tests, load-ends), search (rules, load-ends))

    pub goes_or_ends : (next : Own) (frames : List Frame) (answer : Option (LoadOutcome N)) → IsSameLoad now next (one_more now.steps) → frames
        ≡ frames_of next.top next.below.items
        → TriesStep v me now m (Ok answer) frames t → RunsLoadOrPart v me own next s answer t
    goes_or_ends next frames None is_same is step = went_on next frames is_same is step
    goes_or_ends next frames (Some answer) is_same is step = ends_so answer frames step

-- so far there was no step
pub none_gone : {N E : Type 0} {v : Values N} {me : Owner} (own : Own) (s : PagerState N E) → HasGone v me own own s s
none_gone own s = record { open_still = λ o. o; then = λ o answer u run. run }

pub ruleset driving = (nat_tests, acts_then, went_on, ends_so)

-- ---- a pin with its loads, and how it is taken back; and the reading of a key

pub begun_is : (w w' : Core) (l : LoadNumber) (key : ℕ) (root : Root) (me : Owner) → l.0 ≡ w.last.load + 1 → Alike (with_load w key root me) w' → w'.loads l.0
    ≡ Some (record { owner = me; key = key; root = root })
begun_is w w' l key root me next a = first_of (grind (arith, common_steps, nat_tests), search (rules))

module _ {N E : Type 0} (v : Values N) (me : Owner) (mine : me ≡ Owner.Caller) where
  module _ (own : Own) (l : LoadNumber) (key t : ℕ) (is : reading_of own ≡ fresh l t) (under : own.key ≡ key) where
    runs_on : {s t' : PagerState N E} {outcome : LoadOutcome N} → IsLoadOf s.core me own → RunsLoad v me own s outcome t'
        → LoadRun v Owner.Caller (fresh l t) s (answer_of outcome) t'
    runs_on {s} {t'} {outcome} o r =
        subst (λ m. LoadRun v m (fresh l t) s (answer_of outcome) t') mine (subst (λ x. LoadRun v me x s (answer_of outcome) t') is (r.run o))

    module _ (h : HandleNumber) (cell : own.for_cell ≡ true) (s mid : PagerState N E)
        (c : MakesCall v (λ w'. StartsPin s.core me h (Ok (PinStart.Load l key t)) w') s mid) where
      open_load : IsLoadOf mid.core me own
      open_load = first_of (grind (arith, common_steps, nat_tests), search (rules))

      calls : MakesCall v (λ w'. BeginCall s.core Owner.Caller h (Ok (Beginning.Load l key)) w') s mid
      calls = record { step = subst (λ m. BeginCall s.core m h (Ok (Beginning.Load l key)) mid.core) mine c.step.starts.0; moves = c.moves; whole = c.whole }

      pub load_pinned : (k : HandleNumber) (read : Option (Arc N Global)) (s' : PagerState N E) → RunsLoad v me own mid (LoadOutcome.Pinned k read) s'
          → PinsWithLoad v s h (Ok (k, true)) s'
      load_pinned k read s' r = record {
        pinned = (
          load-pins k (fresh l t) mid s' (record { key = key; begins = calls; is = c.step.starts.2 }) (runs_on open_load r),
          sym c.step.starts.1,
        );
        refused = tt;
      }

      pub load_failed : (e : Error) (s' : PagerState N E) → RunsLoad v me own mid (LoadOutcome.Refused e) s' → PinsWithLoad v s h (Err e) s'
      load_failed e s' r = record {
        pinned = tt;
        refused = load-fails e (fresh l t) mid s' (record { key = key; begins = calls; is = c.step.starts.2 })
            (runs_on open_load r);
      }

    module _ (sort : own.for_cell ≡ false) (s mid : PagerState N E) (c : MakesCall v (λ w'. BeginKeyCall s.core me key (Ok (Beginning.Load l key)) w') s mid)
      where
        open_key : IsLoadOf mid.core me own
        open_key =
            let b = c.step.begins in
            record {
              load = record { owner = me; key = key; root = of_key };
              owned = record {
                stands_open = ap (λ (r : Reading). mid.core.loads r.load.0) is ∙ begun_is s.core mid.core l key of_key me b.1.above b.2;
                own = refl;
              };
              key = sym under;
              sort = sym sort;
            }

        pub key_read : (x : N) (s' : PagerState N E) → RunsLoad v me own mid (LoadOutcome.Read x) s' → ReadsOver v s key t (Ok x) s'
        key_read x s' r = record { run = load-reads x l mid s' (rw mine at c) (runs_on open_key r) }

        pub key_failed : (e : Error) (s' : PagerState N E) → RunsLoad v me own mid (LoadOutcome.Refused e) s' → ReadsOver v s key t (Err e) s'
        key_failed e s' r = record { run = reading-fails e l mid s' (rw mine at c) (runs_on open_key r) }

  pub key_refused : (key t : ℕ) (e : Error) (s s' : PagerState N E) → MakesCall v (λ w'. BeginKeyCall s.core me key (Err e) w') s s'
      → ReadsOver v s key t (Err e) s'
  key_refused key t e s s' c = record {
    run = reading-is-refused e s' (record {
      step = subst (λ m. BeginKeyCall s.core m key (Err e) s'.core) mine c.step;
      moves = c.moves;
      whole = c.whole;
    });
  }

  -- ---- a pin

  module _ (h : HandleNumber) where
    pub start_pinned : (k : HandleNumber) (was : Bool) (s s' : PagerState N E) → MakesCall v (λ w'. StartsPin s.core me h (Ok (PinStart.Pinned k was)) w') s s'
        → PinsWithLoad v s h (Ok (k, was)) s'
    start_pinned k was s s' c =
        record {
          pinned = (
            pins-at-once k s' (record {
              step = subst (λ m. PinCall s.core m h (Ok (Pinning.Pinned k)) s'.core) mine c.step.starts.0;
              moves = c.moves;
              whole = c.whole;
            }),
            c.step.starts.1,
          );
          refused = tt;
        }

    pub start_refused : (e : Error) (s s' : PagerState N E) → MakesCall v (λ w'. StartsPin s.core me h (Err e) w') s s' → PinsWithLoad v s h (Err e) s'
    start_refused e s s' c = first_of (
      grind (arith, common_steps, nat_tests),
      grind (arith, nat_tests, pin-is-refused, load-is-refused),
      search (rules, pin-is-refused, load-is-refused),
    )

-- ---- how it is taken back

module _ {N E : Type 0} (v : Values N) (h : HandleNumber) where
  run_whole : {me : Owner} {reading : Reading} {s t : PagerState N E} {answer : LoadAnswer N} → LoadRun v me reading s answer t → IsPagerWhole v t
  run_whole (load-ends now answer s t step) = step.whole
  run_whole (load-goes-on now frames answer s mid t step more) = run_whole more

  pin_whole : {s t : PagerState N E} {r : Result HandleNumber Error} → PinRun v s h r t → IsPagerWhole v t
  pin_whole (pins-at-once k t c) = c.whole
  pin_whole (pin-is-refused e t c) = c.whole
  pin_whole (load-is-refused e t c) = c.whole
  pin_whole (load-pins k now mid t starts run) = run_whole run
  pin_whole (load-fails e now mid t starts run) = run_whole run

  -- the new handle pins
  run_pins : {me : Owner} {reading : Reading} {s t : PagerState N E} {answer : LoadAnswer N} → NotValues me → IsPagerWhole v s → LoadRun v me reading s answer t
      → (k : HandleNumber) → answer ≡ LoadAnswer.Pinned k → HasPin t.core k
  run_pins {me} free whole (load-ends now answer s t step) k is =
      let e = (subst (λ a. ReadingStep v me now s (Some a) [] t) is step).does.does.0 in
      (end-call s.core t.core (low-whole whole.whole.handles) me now.load e.x _ _ k free e.ended).pin
  run_pins free whole (load-goes-on now frames answer s mid t step more) k is = run_pins free step.whole more k is

  pin_pins : {s t : PagerState N E} (r : Result HandleNumber Error) {k : HandleNumber} → r ≡ Ok k → PinRun v s h r t → HasPin t.core k
  pin_pins {s} r {k} is (pins-at-once j t c) =
      let (row, owns, here) = c.step.pins in
      let next = here.1 in
      let alike = here.2 in
      let new = row_of (s.core.last.handle + 1) row.node Mode.Pinned Owner.Caller in
      let same : j ≡ k = cc in
      let among : Among t.core.rows new = subst (λ rows. Among rows new) (sym alike.rows)
      (among-right (with_mode s.core h Mode.LoosePinned).rows (new ∷ []) 0 new refl) in
      record { row = new; live = found c.whole.whole.handles k.0 new among (sym next.above ∙ ap (λ (n : HandleNumber). n.0) same); is = refl }
  pin_pins r is (load-pins j now mid t starts run) = run_pins (λ n is. absurd (cc)) starts.begins.whole run _ (ap LoadAnswer.Pinned (cc))
  pin_pins r is run = absurd (cc)

  -- the handle was a loose one
  pin_loose : {s t : PagerState N E} (r : Result HandleNumber Error) {k : HandleNumber} → r ≡ Ok k → PinRun v s h r t → (row : HandleRow)
      × (row_at s.core h ≡ Some row) × (is_loose row.mode ≡ true)
  pin_loose r is (pins-at-once k t c) = let p = c.step.pins in (p.0, p.1.live, p.1.as_asked)
  pin_loose r is (load-pins k now mid t starts run) = let p = starts.begins.step.begins in (p.0, p.1.live, p.1.as_asked)
  pin_loose r is run = absurd (cc)

  back : (s mid low : PagerState N E) (was : Bool) (row : HandleRow) → row_at s.core h ≡ Some row → is_loose row.mode ≡ true → was ≡ is_unpinned row.mode
      → IsPagerWhole v mid → Unpins v was h mid low → IsUnpinnedBack v s.core h mid low
  back s mid low was row live loose is whole u = grind (arith, nat_tests, common_steps)

  -- ---- its answer

  pub taken_back : {X : Type 0} (see : X → N) (k : HandleNumber) (was : Bool) (e : Error) (s mid t : PagerState N E) → PinsWithLoad v s h (Ok (k, was)) mid
      → SharesPinned see mid k (Err e)
      → TakesBack v was h k mid t
      → PinsOver v s h (Err e) t
  taken_back see k was e s mid t p shares b =
      let l = pin_loose (Ok k) refl p.pinned.0 in
      let is = p.pinned.1 ∙ ap (if_there (λ (row : HandleRow). is_unpinned row.mode) false) l.1 in
      record {
        pins = tt;
        refused = inr (
          shares.refused (pin_pins (Ok k) refl p.pinned.0),
          record {
            k = k;
            mid = mid;
            low = b.low;
            told = b.told;
            pins = p.pinned.0;
            unpins = back s mid b.low was l.0 l.1 l.2 is (pin_whole p.pinned.0) b.unpins;
            releases = b.releases;
          },
        );
      }

  pub takes_back : {me : Owner} → me ≡ Owner.Caller → (k : HandleNumber) (was : Bool) (s low t : PagerState N E) (told : Result (Unit {0}) Error)
      → Unpins v was h s low → MakesCall v (λ w'. ReleaseCall low.core me k told w') low t → TakesBack v was h k s t
  takes_back mine k was s low t told u c = record { low = low; unpins = u; told = told; releases = rw mine at c }
