-- Steps that are made together, one after another, and the worker's end.
use Rattle.pagable_pageout.proofs.{
  Words.{ClaimedNode, EndsIfAnswered, EndsWithItem, Environments, Equalities, HasWalked, Hashes, List, Nodes, Option, Orders, Owner, PagerState, PartialOrders},
  Words.{PerformsStep, PerformsTask, RunsToAnswer, Shelf, StepResult, Task, Todo, Turn, Values, WaitingValue, WorkerAnswer, Written, ap, length, refl, subst},
  Words.{tests, todo_of, todos, todos_after, waits_as, work_left, ℕ, ◌*◌, ◌+◌, ◌<◌, ◌∙◌, ◌∷◌, ◌≡◌},
  WorkerRuns.{none-walked, step-ends, step-walked, steps-to},
}
use Rattle.pagable_pageout.specs.{Strides.{Strides, WalksTo}, Tasks.{IfGoes, KeepsItemOrGivesItsKey, LowersWorkLeft}}

module _ {X XN XH XK XV : Type 0} {g : Environments X XN XH XK XV} {gh : Hashes XH} {go : Orders XK} {gq : Equalities XK} {gp : PartialOrders XK}
    {gn : Nodes XN X XN XH XK XV} where
  -- the item stays where another task was in front
  pub ends-as : {todo other after : List Todo} {turn : Turn X XN XH XK XV g gh go gq gp gn}
      → ((w : Written) → EndsWithItem w other → EndsWithItem w todo) → KeepsItemOrGivesItsKey todo turn after → KeepsItemOrGivesItsKey other turn after
  ends-as f e = record { stays = λ w h. e.stays w (f w h); over = λ w h. e.over w (f w h) }

  pub leads-waiting : (turn : Turn X XN XH XK XV g gh go gq gp gn) (node : Option ClaimedNode) (written : Written) (keys : List ℕ)
      (below after : List Todo) (e : ℕ)
      → e < 6 + 6 * length below → IfGoes turn (work_left after < e) → LowersWorkLeft (waits_as node written keys ∷ below) turn after
  leads-waiting turn given written keys below after e less again = grind tests

  task-in : Task X XN XH XK XV g gh go gq gp gn → Turn X XN XH XK XV g gh go gq gp gn → Task X XN XH XK XV g gh go gq gp gn
  task-in other (Turn.Goes t) = t
  task-in other (Turn.Answers a) = other

  task-is : (other t x : Task X XN XH XK XV g gh go gq gp gn) → Turn.Goes t ≡ Turn.Goes x → t ≡ x
  unfolding task-in
  task-is other t x is = ap (task-in other) is

module _ {X XN XH XK XV : Type 0} {g : Environments X XN XH XK XV} {gh : Hashes XH} {go : Orders XK} {gq : Equalities XK} {gp : PartialOrders XK}
    {gn : Nodes XN X XN XH XK XV} {N E : Type 0} {v : Values N} {me : Owner} {n : ℕ} {shelf : Shelf} {first : Task X XN XH XK XV g gh go gq gp gn}
    {below : List Todo} where
  -- one walk after another
  pub walked-on : {mid_shelf next_shelf : Shelf} {now next : Task X XN XH XK XV g gh go gq gp gn} {now_below next_below : List Todo} {s mid t : PagerState N E}
      → HasWalked v me n shelf first below mid_shelf now now_below s mid → HasWalked v me n mid_shelf now now_below next_shelf next next_below mid t
      → HasWalked v me n shelf first below next_shelf next next_below s t
  walked-on one two = record {
    fits = λ f alone. two.fits (one.fits f alone) (one.alone f alone);
    alone = λ f alone. two.alone (one.fits f alone) (one.alone f alone);
    then = λ f alone answer u last w. one.then f alone answer u last (two.then (one.fits f alone) (one.alone f alone) answer u last w);
  }

  -- a run after a walk
  pub walked-runs : {mid_shelf shelf' : Shelf} {now : Task X XN XH XK XV g gh go gq gp gn} {now_below : List Todo} {answer : WorkerAnswer}
      {s mid t : PagerState N E} → HasWalked v me n shelf first below mid_shelf now now_below s mid
      → RunsToAnswer v me n mid_shelf now now_below shelf' answer mid t → RunsToAnswer v me n shelf first below shelf' answer s t
  walked-runs {shelf' = shelf'} {answer = answer} {t = t} one two = record
      { runs = λ f alone. one.then f alone answer t shelf' (two.runs (one.fits f alone) (one.alone f alone)) }

  -- a turn that goes on
  pub turn-walked : {shelf' : Shelf} {next : Task X XN XH XK XV g gh go gq gp gn} {next_below : List Todo}
      {moved : StepResult X XN XH XK XV g gh go gq gp gn} {s t : PagerState N E}
      → PerformsTask v me n shelf first below shelf' moved (todo_of next ∷ next_below) s t → moved.turn ≡ Turn.Goes next
      → HasWalked v me n shelf first below shelf' next next_below s t
  turn-walked turns goes = step-walked (steps-to turns (rw goes (record { closes = refl }))) goes refl

  -- a turn comes to what it comes to
  pub turn-comes : {shelf' : Shelf} {after : List Todo} {moved : StepResult X XN XH XK XV g gh go gq gp gn} {s t : PagerState N E}
      → PerformsTask v me n shelf first below shelf' moved after s t → WalksTo v me n shelf first below shelf' moved.turn after s t
  turn-comes turns = record { now_shelf = _; now = _; now_below = _; moved = _; mid = _; walked = none-walked; last = turns; comes = refl }

  -- turns after a walk
  pub comes-on : {mid_shelf shelf' : Shelf} {next : Task X XN XH XK XV g gh go gq gp gn} {next_below after : List Todo}
      {turn : Turn X XN XH XK XV g gh go gq gp gn} {s mid t : PagerState N E} → HasWalked v me n shelf first below mid_shelf next next_below s mid
      → WalksTo v me n mid_shelf next next_below shelf' turn after mid t → WalksTo v me n shelf first below shelf' turn after s t
  comes-on one c = record {
    now_shelf = _;
    now = _;
    now_below = _;
    moved = _;
    mid = _;
    walked = walked-on one c.walked;
    last = c.last;
    comes = c.comes;
  }

  -- a walk with one step more
  pub steps-stride : {mid_shelf shelf' : Shelf} {now : Task X XN XH XK XV g gh go gq gp gn} {now_below : List Todo}
      {moved : StepResult X XN XH XK XV g gh go gq gp gn} {turn : Turn X XN XH XK XV g gh go gq gp gn} {s mid t : PagerState N E}
      (path : List (WaitingValue X XN XH XK XV g gh go gq gp gn)) → HasWalked v me n shelf first below mid_shelf now now_below s mid
      → PerformsStep v me n mid_shelf now now_below shelf' moved (todos_after turn path) mid t → moved.turn ≡ turn
      → Strides v me n shelf first below shelf' turn (todos path) s t
  steps-stride path walked step comes = record {
    goes = λ next is. walked-on walked (step-walked step (comes ∙ is) (ap (λ (x : Turn X XN XH XK XV g gh go gq gp gn). todos_after x path) is));
    answers = λ answer is. walked-runs walked (step-ends step (comes ∙ is));
  }

  -- turns with the worker's end
  pub comes-strides : {shelf' : Shelf} {turn : Turn X XN XH XK XV g gh go gq gp gn} {s mid t : PagerState N E}
      (path : List (WaitingValue X XN XH XK XV g gh go gq gp gn)) → WalksTo v me n shelf first below shelf' turn (todos_after turn path) s mid
      → EndsIfAnswered v n turn mid t → Strides v me n shelf first below shelf' turn (todos path) s t
  comes-strides path c close = steps-stride path c.walked (steps-to c.last (rw c.comes close)) c.comes

  -- a walk is a stride
  pub walk-strides : {shelf' : Shelf} {next : Task X XN XH XK XV g gh go gq gp gn} {after : List Todo} {s t : PagerState N E}
      → HasWalked v me n shelf first below shelf' next after s t → Strides v me n shelf first below shelf' (Turn.Goes next) after s t
  walk-strides {shelf'} {next} {after} {s} {t} walked = record {
    goes = λ x is. subst (λ y. HasWalked v me n shelf first below shelf' y after s t) (task-is next next x is) walked;
    answers = λ answer is. absurd (cc);
  }
