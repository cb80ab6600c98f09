-- What a budget keeps, and what its calls do to it and to its pager.
use Rattle.lru.specs.LruCache.{LruCache, promoted}
use Rattle.pagable_calls.specs.{Cells.{Pins, Releases}, PageOuts.Clones, Paged.PagesOutList}
use Rattle.pagable_budget.specs.declared.{bound.BudgetStats.BudgetStats, evictions.KeptPin.KeptPin}
use Rattle.pagable_pageout.specs.declared.tasks.PageOutError.{PageOutError}
use Rattle.pagable_pager.specs.View.{PagerView, Storages, pager_core}
use Rattle.pagable_pager_spec.specs.{
  Basics.{Error, HandleNumber, NodeNumber},
  Calls.NodeCall,
  Pager.PagerState,
  World.{Values, greatest},
}
use Rattle.std.specs.{
  Map.lookup,
  Prelude.{Bool, Err, List, None, Ok, Option, Result, Some, false, is_some, length, min, nat_eq, sum_by, true, ℕ, []},
  Prelude.{◌++◌, ◌+◌, ◌-◌, ◌<◌, ◌^◌, ◌∷◌, ◌≡◌, ◌≤◌},
}

-- the number of a cell, and the pin that the budget keeps of it
abbrev pub Kept : Type 0
Kept = ℕ × KeptPin

abbrev pub cost_of : List Kept → ℕ
cost_of pins = sum_by (λ (e : Kept). e.1.cost) pins

-- the kept pins, most recently used first; the bound on their total cost; and the counts
pub record BudgetView : Type 0 where
  pub pins : List Kept
  pub most : ℕ
  pub stats : BudgetStats

-- the cost is the pins' total cost and within the bound; nothing else bounds their number
pub record IsBounded (pins : LruCache ℕ KeptPin) (cost most : ℕ) : Type 0 where
  pub sum : cost ≡ cost_of pins.entries
  pub within : cost ≤ most
  pub wide : pins.cap ≡ 2 ^ 64 - 1

abbrev pub new_budget : ℕ → BudgetView
new_budget most = record { pins = []; most = most; stats = record { hits = 0; misses = 0; evictions = 0 } }

-- n raised by k, up to the greatest number
abbrev pub more : ℕ → ℕ → ℕ
more n k = min (n + k) greatest

-- one more hit or miss
abbrev pub counted : Bool → BudgetStats → BudgetStats
counted true stats = record stats { hits = more stats.hits 1 }
counted false stats = record stats { misses = more stats.misses 1 }

-- a hit or a miss of this cell is counted, and its pin becomes the most recently used
abbrev pub touched : ℕ → BudgetView → BudgetView
touched cell b = record b {
  pins = promoted (nat_eq cell) b.pins;
  stats = counted (is_some (lookup (nat_eq cell) b.pins)) b.stats;
}

abbrev pub hit : ℕ → BudgetView → BudgetView
hit cell b = record b { pins = promoted (nat_eq cell) b.pins; stats = counted true b.stats }

abbrev pub missed : BudgetView → BudgetView
missed b = record b { stats = counted false b.stats }

-- no pin was evicted without need: with the last evicted one, the kept pins cost too much
abbrev pub IsNeeded : ℕ → List Kept → List Kept → Type 0
IsNeeded most pins [] = Unit {0}
IsNeeded most pins (e ∷ later) = most < cost_of pins + e.1.cost

-- the pin is kept as the most recently used, or nothing changes
pub record Inserts (cell : ℕ) (pin : KeptPin) (is_kept : Bool) (pins pins' : LruCache ℕ KeptPin) : Type 0 where
  pub kept : is_kept ≡ true → pins'.entries ≡ (cell, pin) ∷ pins.entries
  pub refused : is_kept ≡ false → pins'.entries ≡ pins.entries
  pub room : pins'.cap ≡ pins.cap

module _ {N S E H K V : Type 0} (tells : Storages S E N H K V) where
  -- the handles of these pins are released, from the last to the first
  pub data Evicts (old : PagerView N S E) : List Kept → PagerView N S E → Type 0 where
    evicts-none : Evicts old [] old
    evicts-more : (e : Kept) (later : List Kept) (told : Result (Unit {0}) Error) (mid new : PagerView N S E)
        → Evicts old later mid → Releases tells mid e.1.handle told new
        → Evicts old (e ∷ later) new

  -- the last pin is released and its cost returned, or no pin is kept
  pub data EvictsLast (pins : List Kept) (old : PagerView N S E) : Option ℕ → List Kept → PagerView N S E → Type 0 where
    none-is-kept : pins ≡ [] → EvictsLast pins old None [] old
    last-goes : (e : Kept) (left : List Kept) (told : Result (Unit {0}) Error) (new : PagerView N S E) → pins ≡ left
        ++ e ∷ [] → Releases tells old e.1.handle told new
        → EvictsLast pins old (Some e.1.cost) left new

  -- pins at the end are evicted until those that are left cost at most this much, and no more of them
  pub record EvictsAbove (most : ℕ) (pins : List Kept) (old : PagerView N S E) (left : List Kept)
      (new : PagerView N S E) : Type 0 where
    pub evicted : List Kept
    pub are : pins ≡ left ++ evicted
    pub evicts : Evicts old evicted new
    pub within : cost_of left ≤ most
    pub needed : IsNeeded most left evicted

  pub record Trims (most : ℕ) (b : BudgetView) (old : PagerView N S E) (b' : BudgetView) (new : PagerView N S E) : Type
      0 where
    pub evicts : EvictsAbove most b.pins old b'.pins new
    pub most_is : b'.most ≡ b.most
    pub stats : b'.stats ≡ record b.stats { evictions = more b.stats.evictions (length b.pins - length b'.pins) }

  pub record Clears (b : BudgetView) (old : PagerView N S E) (b' : BudgetView) (new : PagerView N S E) : Type 0 where
    pub evicts : Evicts old b.pins new
    pub none : b' ≡ record b { pins = [] }

  -- room is made for the pin, which is kept as the most recently used; or memory runs out and it is released
  pub data Stores (b : BudgetView) (old : PagerView N S E) (cell : ℕ) (pin : KeptPin) : BudgetView → PagerView N S E
      → Type 0 where
    pin-is-kept : (mid : BudgetView) (new : PagerView N S E) → Trims (b.most - pin.cost) b old mid new
        → Stores b old cell pin (record mid { pins = (cell, pin) ∷ mid.pins }) new
    no-memory-is-left : (told : Result (Unit {0}) Error) (b' : BudgetView) (mid new : PagerView N S E)
        → Trims (b.most - pin.cost) b old b' mid → Releases tells mid pin.handle told new
        → Stores b old cell pin b' new

  -- a clone of the caller's pin is kept, if its cost is within the bound and the pager can make it
  pub data Admits (b : BudgetView) (old : PagerView N S E) (cell : ℕ) (k : HandleNumber) (cost : ℕ) : BudgetView
      → PagerView N S E → Type 0 where
    costs-too-much : b.most < cost → Admits b old cell k cost b old
    clone-is-refused : (e : Error) (new : PagerView N S E) → cost ≤ b.most → Clones tells old k (Err e) new
        → Admits b old cell k cost b new
    clone-is-stored : (c : HandleNumber) (b' : BudgetView) (mid new : PagerView N S E) → cost ≤ b.most
        → Clones tells old k (Ok c) mid
        → Stores b mid cell (record { handle = c; cost = cost }) b' new → Admits b old cell k cost b' new

  -- A pin of the cell is kept beside the caller's, or was kept already. For a handle that isn't live none is kept.
  pub data Keeps (b : BudgetView) (old : PagerView N S E) (k : HandleNumber) (cost : ℕ) : BudgetView → PagerView N S E
      → Type 0 where
    no-cell : (e : Error) → NodeCall (pager_core tells old) k (Err e) → Keeps b old k cost b old
    cell-is-kept : (n : NodeNumber) → NodeCall (pager_core tells old) k (Ok n) → is_some (lookup (nat_eq n.0) b.pins)
        ≡ true → Keeps b old k cost (hit n.0 b) old
    cell-is-new : (n : NodeNumber) (b' : BudgetView) (new : PagerView N S E) → NodeCall (pager_core tells old) k (Ok n)
        → lookup (nat_eq n.0) b.pins ≡ None
        → Admits (missed b) old n.0 k cost b' new → Keeps b old k cost b' new

  -- the caller's pin is made, and then the budget's own; an error leaves the budget as it was
  pub data PinsWithin (says : E → Values N) (b : BudgetView) (old : PagerView N S E) (h : HandleNumber)
      (cost : ℕ) : Result (HandleNumber × N) Error → BudgetView
      → PagerView N S E → Type 0 where
    pin-is-refused : (e : Error) (new : PagerView N S E) → Pins tells says old h (Err e) new
        → PinsWithin says b old h cost (Err e) b new
    pin-is-answered : (k : HandleNumber) (x : N) (b' : BudgetView) (mid new : PagerView N S E)
        → Pins tells says old h (Ok (k, x)) mid → Keeps b mid k cost b' new
        → PinsWithin says b old h cost (Ok (k, x)) b' new

-- nothing is done while at most this many cells are pending; else all pending cells are paged out
pub data PagesOutAbove {N E : Type 0} (v : Values N) (most : ℕ) (s : PagerState N E) : Result (Unit {0}) PageOutError
    → PagerState N E → Type 0 where
  few-wait : length s.core.list ≤ most → PagesOutAbove v most s (Ok tt) s
  many-wait : (r : Result (Unit {0}) PageOutError) (s' : PagerState N E) → most < length s.core.list
      → PagesOutList v s r s' → PagesOutAbove v most s r s'
