-- A handle that is pinned, and pinned again after other work with its pager.
use Rattle.pagable_pageout.specs.Turns.{plain}
use Rattle.pagable_pager_spec.specs.{
  Access.{IsValueOf, PinRun},
  Basics.{HandleNumber, Tree},
  Pager.{PagerStandsFor, PagerState, ValueStands},
  Runs.HoldsSettled,
  World.Values,
}
use Rattle.pagable_theorems.specs.{CallerLaws.{AskWell, Operations, PinAsksWell}, PageOutLaws.NobodyWorks}
use Rattle.std.specs.Prelude.{Ok, ℕ}

-- What the two pins gave, with what was done between. If nobody works at first, no value can be written to later, each
-- node has its tree, and all calls ask well, both values stand for one tree.
pub record ShowsSame {N E : Type 0} (v : Values N) (s : PagerState N E) (h : HandleNumber) (x : N) (l : HandleNumber)
    (y : N) (s' : PagerState N E) : Type 0 where
  pub k : HandleNumber
  pub mid : PagerState N E
  pub later : PagerState N E
  pub first : PinRun v s h (Ok k) mid
  pub shown : IsValueOf mid k x
  pub between : Operations (plain v) mid later
  pub again : PinRun v later h (Ok l) s'
  pub shown_again : IsValueOf s' l y
  pub same : NobodyWorks s.core → HoldsSettled v s → (trees : ℕ → Tree) → PagerStandsFor v s trees → PinAsksWell first
      → AskWell between → PinAsksWell again
      → (t : Tree) × ValueStands v mid x t × ValueStands v s' y t
