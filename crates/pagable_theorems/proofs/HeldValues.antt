-- What values hold beside their references doesn't change, since the references' nodes keep their values.
use Rattle.pagable_pager_spec.specs.{
  Access.{AccessState, EntryRun, IfReads, ItemRun, ListRun, LoadRun, MakesCall, PinRun, ReadRun, WorkerRun, entry-is-refused, entry-is-walked, fails},
  Access.{item-is-walked, load-ends, load-fails, load-goes-on, load-is-refused, load-pins, load-reads, no-entry-worker, no-more, no-worker, pages},
  Access.{pin-is-refused, pins-at-once, reading-fails, reading-is-refused, skips, worker-ends, worker-goes-on},
  Basics.NodeNumber,
  Kinds.fits_mode,
  Pager.{HoldsItsNodes, HoldsItsValues, HoldsNode, HoldsPinned, MachineState, Moves},
  Runs.{AreMoments, EventDoes, Moment, MomentBringsHeld, MomentsBringHeld, state_after},
}
use Rattle.pagable_theorems.proofs.{
  HandlesKept.good,
  LoadProgress.{moves-as, row-pins},
  Words.{Action, Among, ArcRef, Core, Error, Event, EventReply, HandleNumber, IsPagerWhole, IsReference, List, LoadAnswer, Mode, None, Ok, Option, Owner},
  Words.{PagerState, Reading, Result, Seen, Some, Todo, Values, WorkerAnswer, Written, ap, basics, inl, inr, is_eager, is_pinning, is_some, pins, refl, subst},
  Words.{sym, true, ℕ, [], ◌<◌, ◌∙◌, ◌∷◌, ◌≡◌},
}
use Rattle.pagable_theorems.specs.{
  CallerLaws.{Operation, Operations, calls, goes-on, is-done, keeps-nodes, pages-item, pages-list, pins as pins-by, reads-key},
  HeldLaws.{CallersBringHeld, HeldByCallersLaw, OperationBringsHeld, PinnedValuesAreHeld, ReadHoldsLaw, StepsKeepHeldValues},
}

-- a reference that is read together with its value stands for a handle that pins
eager-pins : (kind : ℕ) (mode : Mode) → is_eager kind ≡ true → fits_mode kind mode ≡ true → is_pinning mode ≡ true
eager-pins kind Mode.LooseUnpinned eager fits = grind basics
eager-pins kind Mode.LoosePinned eager fits = refl
eager-pins kind Mode.Pinned eager fits = refl
eager-pins kind Mode.Shared eager fits = refl

some-of : {X : Type 0} (o : Option X) → is_some o ≡ true → (z : X) × (o ≡ Some z)
some-of (Some z) is = (z, refl)
some-of None is = absurd cc

module _ {N E : Type 0} (v : Values N) {s : PagerState N E} (whole : IsPagerWhole v s) {owner : Owner} (r : ArcRef) (ref : IsReference s.core owner r)
    (eager : is_eager r.kind.0 ≡ true) where
  pinning : is_pinning ref.row.mode ≡ true
  pinning = eager-pins r.kind.0 ref.row.mode eager ref.fits

  -- a node to which there is a good reference of such a kind has a value
  there : is_some (s.values r.node.0) ≡ true
  there =
      let pinned : 0 < pins ref.row.node.0 s.core.rows = row-pins s.core r.handle ref.row ref.live pinning in
      grind (basics, whole.valued r.node.0, ref.at, ref.typed)

module _ {N E : Type 0} (v : Values N) {s s' : PagerState N E} (whole : IsPagerWhole v s') (moves : Moves (λ n x. HoldsItsNodes v s x) s s') where
  stays : (n : ℕ) (y : N) → s.values n ≡ Some y → is_some (s'.values n) ≡ true → s'.values n ≡ Some y
  stays n y was some =
      let p = some-of (s'.values n) some in
      elim (moves.each n p.0 p.1) [ inl same ↦ p.1 ∙ (sym same ∙ was) | inr (none, came) ↦ absurd (cc (sym none ∙ was)) ]

  kept : (n : ℕ) (x : N) (r : ArcRef) → s'.values n ≡ Some x → Among (v.references x) r → is_eager r.kind.0 ≡ true → HoldsNode v s x r → HoldsNode v s' x r
  kept n x r is among eager h = record {
    y = h.y;
    there = stays r.node.0 h.y h.there (there v whole r (whole.references n x r is among) eager);
    beside = h.beside;
  }

pub held_law : {N : Type 0} (E : Type 0) (v : Values N) → StepsKeepHeldValues E v
held_law E v s s' whole moves held = record {
  each = λ n x is r among eager.
      kept v whole moves n x r is among eager (elim (moves.each n x is) [ inl was ↦ held.each n x was r among eager | inr (none, came) ↦ came r among eager ]);
}

pub pinned_law : {N : Type 0} (E : Type 0) (v : Values N) → PinnedValuesAreHeld E v
pinned_law E v s owner x whole none pinned = λ r among eager.
    let ref = good s.core owner _ (v.references x) none r among in
    let p = some-of (s.values r.node.0) (there v whole r ref eager) in
    let valued : s.values ref.row.node.0 ≡ Some p.0 = ap (λ (n : NodeNumber). s.values n.0) ref.at ∙ p.1 in
    record { y = p.0; there = p.1; beside = pinned.each r p.0 (record { found = (ref.row, ref.live, (pinning v whole r ref eager, valued)); refused = tt }) }

-- ---- along callers' operations

pub record Held {N E : Type 0} (v : Values N) (s : PagerState N E) : Type 0 where
  pub well : IsPagerWhole v s
  pub held : HoldsItsValues v s

module _ {N E : Type 0} (v : Values N) where
  comes-held : {s s' : PagerState N E} → IsPagerWhole v s' → Moves (λ n x. HoldsItsNodes v s x) s s' → Held v s → Held v s'
  comes-held well moves h = record { well = well; held = held_law E v _ _ well moves h.held }

  nothing-comes : {comes : ℕ → N → Type 0} {s s' : PagerState N E} → ((n : ℕ) (x : N) → comes n x → ⊥) → IsPagerWhole v s' → Moves comes s s' → Held v s
      → Held v s'
  nothing-comes none well moves h = comes-held well (moves-as (λ n x is came. absurd (none n x came)) moves) h

  called-held : {does : Core → Type 0} {s s' : PagerState N E} → MakesCall v does s s' → Held v s → Held v s'
  called-held c h = nothing-comes (λ n x came. came) c.whole c.moves h

  load-held : {me : Owner} {reading : Reading} {s s' : PagerState N E} {answer : LoadAnswer N} → LoadRun v me reading s answer s' → Held v s → Held v s'
  load-held (load-ends reading answer s s' step) h = comes-held step.whole (step.holds h.well) h
  load-held (load-goes-on reading frames answer s mid s' step more) h = load-held more (comes-held step.whole (step.holds h.well) h)

  load-reads-held : {me : Owner} {reading : Reading} {s s' : PagerState N E} {answer : LoadAnswer N} → LoadRun v me reading s answer s'
      → IfReads (Some answer) (HoldsPinned v s')
  load-reads-held (load-ends reading answer s s' step) = step.answers
  load-reads-held (load-goes-on reading frames answer s mid s' step more) = load-reads-held more

  pin-held : {s s' : PagerState N E} {h : HandleNumber} {r : Result HandleNumber Error} → PinRun v s h r s' → Held v s → Held v s'
  pin-held (pins-at-once k s' c) = called-held c
  pin-held (pin-is-refused e s' c) = called-held c
  pin-held (load-is-refused e s' c) = called-held c
  pin-held (load-pins k reading mid s' starts run) = λ h. load-held run (called-held starts.begins h)
  pin-held (load-fails e reading mid s' starts run) = λ h. load-held run (called-held starts.begins h)

  read-held : {s s' : PagerState N E} {key t : ℕ} {r : Result N Error} → ReadRun v s key t r s' → Held v s → Held v s'
  read-held (reading-is-refused e s' c) = called-held c
  read-held (load-reads x l mid s' starts run) = λ h. load-held run (called-held starts h)
  read-held (reading-fails e l mid s' starts run) = λ h. load-held run (called-held starts h)

module _ {N E B W : Type 0} (m : Seen N B W) where
  worker-held : {n : ℕ} {todo : List Todo} {s s' : AccessState N E} {steps : List (Action W)} {answer : WorkerAnswer} → WorkerRun m n todo s steps answer s'
      → Held m.values s.pager → Held m.values s'.pager
  worker-held (worker-ends todo next step answer s s' does is) h = comes-held m.values does.whole does.holds h
  worker-held (worker-goes-on todo next step steps answer s mid s' does is more) h = worker-held more (comes-held m.values does.whole does.holds h)

  item-held : {s s' : AccessState N E} {item : Written} {answer : WorkerAnswer} → ItemRun m s item answer s' → Held m.values s.pager → Held m.values s'.pager
  item-held (no-worker e s' why c same) h = called-held m.values c h
  item-held (item-is-walked n steps answer mid s' starts run) h = worker-held run (called-held m.values starts.begins h)

  entry-held : {s s' : PagerState N E} {place : ℕ} {answer : WorkerAnswer} → EntryRun m s place answer s' → Held m.values s → Held m.values s'
  entry-held (entry-is-refused h row t s' is none c) was = called-held m.values c was
  entry-held (no-entry-worker e s' why c) was = called-held m.values c was
  entry-held (entry-is-walked h row t n steps answer mid s' is kinds starts run) was = worker-held run (called-held m.values starts.begins was)

  list-held : {i : ℕ} {s s' : PagerState N E} {answer : Result (Unit {0}) WorkerAnswer} → ListRun m i s answer s' → Held m.values s → Held m.values s'
  list-held (no-more s) was = was
  list-held (skips i place key h told answer s mid low s' is has takes releases more) was =
      list-held more (called-held m.values releases (called-held m.values takes was))
  list-held (pages i place key h answer s mid s' is has run more) was = list-held more (entry-held run was)
  list-held (fails i place h e s s' is has run) was = entry-held run was

  operation-held : {s s' : PagerState N E} (operation : Operation m s s') → OperationBringsHeld operation → Held m.values s → Held m.values s'
  operation-held (calls call reply s s' c) brings h =
      comes-held m.values c.whole (moves-as (λ n x is came. brings n x came is) c.moves) h
  operation-held (pins-by h r s s' run) brings was = pin-held m.values run was
  operation-held (reads-key key t r s s' run) brings was = read-held m.values run was
  operation-held (pages-item item answer s s' new run) brings was = item-held run was
  operation-held (pages-list i answer s s' run) brings was = list-held run was
  operation-held (keeps-nodes s s' keeps) brings was = nothing-comes m.values (λ n x came. came) keeps.whole keeps.moves was

  all-held : {s s' : PagerState N E} (operations : Operations m s s') → CallersBringHeld operations → Held m.values s → Held m.values s'
  unfolding CallersBringHeld
  all-held (is-done s) brings was = was
  all-held (goes-on s mid s' one more) brings was = all-held more brings.1 (operation-held one brings.0 was)

pub held_by_callers_law : {N B W : Type 0} (E : Type 0) (m : Seen N B W) → HeldByCallersLaw E m
held_by_callers_law E m s s' operations well brings held = (all-held m operations brings (record { well = well; held = held })).held

pub read_holds_law : {N : Type 0} (E : Type 0) (v : Values N) → ReadHoldsLaw E v
read_holds_law E v s s' key t x run = by run refl
  where
    by : {r : Result _ Error} → ReadRun v s key t r s' → r ≡ Ok x → HoldsPinned v s' x
    by (load-reads y l mid last starts more) is = let same : y ≡ x = cc in subst (HoldsPinned v s') same (load-reads-held v more)
    by (reading-is-refused e last c) is = absurd cc
    by (reading-fails e l mid last starts more) is = absurd cc

-- ---- along the moments of a machine

module _ {N E B W : Type 0} (m : Seen N B W) where
  moment-held : (s s' : MachineState N E) (event : Event N B W) (reply : EventReply N B W) → EventDoes m s event reply s'
      → MomentBringsHeld m.values s.pager event s'.pager → Held m.values s.pager → Held m.values s'.pager
  moment-held s s' (Event.Call call) reply d brings h =
      comes-held m.values d.whole.pager (moves-as (λ n x is came. brings n x came is) d.moves) h
  moment-held s s' (Event.LoadStep l) reply d brings h = comes-held m.values d.whole.pager d.holds h
  moment-held s s' (Event.WorkerStep k) reply d brings h = comes-held m.values d.whole.pager d.holds h
  moment-held s s' _ reply d brings h = nothing-comes m.values (λ n x came. came) d.whole.pager d.moves h

  pub moments-held : (s : MachineState N E) (moments : List (Moment N E B W)) → AreMoments m s moments → MomentsBringHeld m.values s moments → Held m.values s.pager
      → HoldsItsValues m.values (state_after s moments).pager
  unfolding state_after
  moments-held s [] chain brings h = h.held
  moments-held s (x ∷ xs) (does, chain) (own, brings) h = moments-held x.after xs chain brings (moment-held s x.after x.event x.reply does own h)
