-- No operation changes the environment.
use Rattle.pagable_pager_spec.specs.{
  Access.{AccessState, EntryRun, ItemRun, ListRun, LoadRun, PinRun, ReadRun, WorkerRun, entry-is-refused, entry-is-walked, fails, item-is-walked, load-ends},
  Access.{load-fails, load-goes-on, load-is-refused, load-pins, load-reads, no-entry-worker, no-more, no-worker, pages, pin-is-refused, pins-at-once},
  Access.{reading-fails, reading-is-refused, skips, worker-ends, worker-goes-on},
  Basics.{Error, HandleNumber},
  Pager.PagerState,
  World.{Reading, Seen, Todo, Values, Written},
  declared.{events.{Action.Action, LoadAnswer.LoadAnswer, WorkerAnswer.WorkerAnswer}, handle_row.Owner.Owner},
}
use Rattle.pagable_theorems.specs.CallerLaws.{Operation, Operations, calls, goes-on, is-done, keeps-nodes, pages-item, pages-list, pins, reads-key}
use Rattle.std.proofs.Common.{List, Result, refl, ℕ, ◌∙◌, ◌≡◌}

load-keeps : {N E : Type 0} {v : Values N} {me : Owner} {reading : Reading} {s s' : PagerState N E} {answer : LoadAnswer N} → LoadRun v me reading s answer s'
    → s'.environment ≡ s.environment
load-keeps (load-ends reading answer s s' step) = step.moves.environment
load-keeps (load-goes-on reading frames answer s mid s' step more) = load-keeps more ∙ step.moves.environment

pub pin-keeps : {N E : Type 0} {v : Values N} {s s' : PagerState N E} {h : HandleNumber} {r : Result HandleNumber Error} → PinRun v s h r s'
    → s'.environment ≡ s.environment
pin-keeps (pins-at-once k s' c) = c.moves.environment
pin-keeps (pin-is-refused e s' c) = c.moves.environment
pin-keeps (load-is-refused e s' c) = c.moves.environment
pin-keeps (load-pins k reading mid s' starts run) = load-keeps run ∙ starts.begins.moves.environment
pin-keeps (load-fails e reading mid s' starts run) = load-keeps run ∙ starts.begins.moves.environment

read-keeps : {N E : Type 0} {v : Values N} {s s' : PagerState N E} {key t : ℕ} {r : Result N Error} → ReadRun v s key t r s' → s'.environment ≡ s.environment
read-keeps (reading-is-refused e s' c) = c.moves.environment
read-keeps (load-reads x l mid s' starts run) = load-keeps run ∙ starts.moves.environment
read-keeps (reading-fails e l mid s' starts run) = load-keeps run ∙ starts.moves.environment

module _ {N E B W : Type 0} {m : Seen N B W} where
  worker-keeps : {n : ℕ} {todo : List Todo} {s s' : AccessState N E} {steps : List (Action W)} {answer : WorkerAnswer} → WorkerRun m n todo s steps answer s'
      → s'.pager.environment ≡ s.pager.environment
  worker-keeps (worker-ends todo next step answer s s' does is) = does.moves.environment
  worker-keeps (worker-goes-on todo next step steps answer s mid s' does is more) = worker-keeps more ∙ does.moves.environment

  item-keeps : {s s' : AccessState N E} {item : Written} {answer : WorkerAnswer} → ItemRun m s item answer s' → s'.pager.environment ≡ s.pager.environment
  item-keeps (no-worker e s' why c shelf) = c.moves.environment
  item-keeps (item-is-walked n steps answer mid s' starts run) = worker-keeps run ∙ starts.begins.moves.environment

  entry-keeps : {s s' : PagerState N E} {place : ℕ} {answer : WorkerAnswer} → EntryRun m s place answer s' → s'.environment ≡ s.environment
  entry-keeps (entry-is-refused h row t s' is none c) = c.moves.environment
  entry-keeps (no-entry-worker e s' why c) = c.moves.environment
  entry-keeps (entry-is-walked h row t n steps answer mid s' is kinds starts run) = worker-keeps run ∙ starts.begins.moves.environment

  list-keeps : {i : ℕ} {s s' : PagerState N E} {answer : Result (Unit {0}) WorkerAnswer} → ListRun m i s answer s' → s'.environment ≡ s.environment
  list-keeps (no-more s) = refl
  list-keeps (skips i place key h told answer s mid low s' is has takes releases more) = list-keeps more ∙ releases.moves.environment ∙ takes.moves.environment
  list-keeps (pages i place key h answer s mid s' is has entry more) = list-keeps more ∙ entry-keeps entry
  list-keeps (fails i place h e s s' is has entry) = entry-keeps entry

  operation-keeps : {s s' : PagerState N E} → Operation m s s' → s'.environment ≡ s.environment
  operation-keeps (calls call reply s s' c) = c.moves.environment
  operation-keeps (pins h r s s' run) = pin-keeps run
  operation-keeps (reads-key key t r s s' run) = read-keeps run
  operation-keeps (pages-item item answer s s' new run) = item-keeps run
  operation-keeps (pages-list i answer s s' run) = list-keeps run
  operation-keeps (keeps-nodes s s' keeps) = keeps.moves.environment

  pub all-keep : {s s' : PagerState N E} → Operations m s s' → s'.environment ≡ s.environment
  all-keep (is-done s) = refl
  all-keep (goes-on s mid s' one more) = all-keep more ∙ operation-keeps one
