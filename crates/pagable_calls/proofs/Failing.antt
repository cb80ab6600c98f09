-- A page-out of the list fails by its own worker's error alone.
use Rattle.pagable_calls.specs.Paged.{IsFailed}
use Rattle.pagable_pageout.specs.{PageOuts.seen_as_failure, Turns.plain, declared.tasks.PageOutError.PageOutError}
use Rattle.pagable_pager_spec.specs.{
  Access.{ListRun, fails, no-more, pages, skips},
  Pager.PagerState,
  World.{Seen, Values},
  declared.events.WorkerAnswer.WorkerAnswer,
}
use Rattle.std.proofs.Common.{Err, IfErr, Ok, Result, refl, ℕ, ◌≡◌}

no-other : {N E B W : Type 0} {m : Seen N B W} {i : ℕ} {s s' : PagerState N E} {answer : Result (Unit {0}) WorkerAnswer} → ListRun m i s answer s'
    → answer ≡ Err WorkerAnswer.AlreadyFailed → ⊥
no-other (no-more s) is = cc
no-other (skips i place key h told answer s mid low s' at has takes releases more) is = no-other more is
no-other (pages i place key h answer s mid s' at has entry more) is = no-other more is
no-other (fails i place h e s s' at has entry) is = cc

pub failed-alone : {N E : Type 0} {v : Values N} {i : ℕ} {s s' : PagerState N E} (r : Result (Unit {0}) PageOutError)
    → ListRun (plain v) i s (seen_as_failure r) s' → IfErr r IsFailed
failed-alone (Ok u) run = tt
failed-alone (Err (PageOutError.Failed e)) run = (e, refl)
failed-alone (Err PageOutError.AlreadyFailed) run = absurd (no-other run refl)
