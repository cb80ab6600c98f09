-- Which pins leave and join a list of pins, what they cost, and what that does to the pager.
use Rattle.lru.proofs.Pairs.{cut_end, last_of_push, lookup-lookup_entry, promoted_absent}
use Rattle.lru.specs.LruCache.{LruCache, last_entry, lru_cache, promoted, put_entries}
use Rattle.pagable_calls.specs.Cells.{Releases}
use Rattle.pagable_budget.specs.{
  Budgets.{Admits, BudgetView, Clears, Evicts, EvictsAbove, EvictsLast, Inserts, IsBounded, IsNeeded, Keeps, Kept, Stores, Trims, cell-is-kept, cell-is-new},
  Budgets.{clone-is-refused, clone-is-stored, cost_of, costs-too-much, counted, evicts-more, evicts-none, hit, last-goes, missed, more, no-cell},
  Budgets.{no-memory-is-left, none-is-kept, pin-is-kept, touched},
  declared.{bound.BudgetStats.BudgetStats, evictions.KeptPin.KeptPin},
}
use Rattle.pagable_pager.specs.View.{PagerView, Storages, pager_core}
use Rattle.pagable_pager_spec.specs.{Basics.{Error, HandleNumber, NodeNumber}, Calls.NodeCall}
use Rattle.std.proofs.{
  Common.{Bool, Err, IsErrAnd, List, None, Ok, OnErr, OnOk, Option, Result, Some, ap, append-nil, append_assoc, ap₂, arith, false, is_ok, length},
  Common.{length-append, nat_eq, refl, subst, sym, take, true, ℕ, [], ◌++◌, ◌+◌, ◌-◌, ◌<◌, ◌^◌, ◌∙◌, ◌∷◌, ◌≡◌},
  lemmas.{List.{Sums.{sum_by-cons, sum_by_push}, take_all}, Option.same_Some},
}
use Rattle.std.specs.{Map.{lookup, lookup_entry, remove_entry}, Option.{option_map, option_map_or}, Prelude.{is_some, slice_get}}

-- ---- the last element of a list

module _ {X : Type 0} where
  split-push : (xs : List X) (x e : X) → slice_get (xs ++ x ∷ []) (length (xs ++ x ∷ []) - 1) ≡ Some e
      → xs ++ x ∷ [] ≡ take (length (xs ++ x ∷ []) - 1) (xs ++ x ∷ []) ++ e ∷ []
  split-push xs x e some =
      let at = last_of_push xs x in
      let same : x ≡ e = same_Some x e (sym at.0 ∙ some) in
      ap (λ y. xs ++ y ∷ []) same ∙ ap (λ ys. ys ++ e ∷ []) (sym at.1)

  -- the list is what comes before its last element, and that
  pub split-last : (es : List X) (e : X) → slice_get es (length es - 1) ≡ Some e → es ≡ take (length es - 1) es ++ e ∷ []
  split-last [] e some = cc
  split-last (x ∷ xs) e some =
      let cut = cut_end (x ∷ xs) (omega arith) in
      subst (λ ys. slice_get ys (length ys - 1) ≡ Some e → ys ≡ take (length ys - 1) ys ++ e ∷ []) (sym cut.2) (split-push cut.0 cut.1 e) some

  -- where there is none it is empty
  pub no-last : (es : List X) → slice_get es (length es - 1) ≡ None → es ≡ []
  no-last [] none = refl
  no-last (x ∷ xs) none =
      let cut = cut_end (x ∷ xs) (omega arith) in
      let at = (last_of_push cut.0 cut.1).0 in
      subst (λ ys. slice_get ys (length ys - 1) ≡ None → ys ≡ []) (sym cut.2)
      (λ (is : slice_get (cut.0 ++ cut.1 ∷ []) (length (cut.0 ++ cut.1 ∷ []) - 1) ≡ None). absurd cc) none

-- ---- pins by the numbers of their cells

cost-push : (left : List Kept) (e : Kept) → cost_of (left ++ e ∷ []) ≡ cost_of left + e.1.cost
cost-push left e = sum_by_push (λ (k : Kept). k.1.cost) left e

module _ (test : ℕ → Bool) where
  cost-without : (es : List Kept) (e : Kept) → lookup_entry test es ≡ Some e → e.1.cost + cost_of (remove_entry test es) ≡ cost_of es
  cost-without [] e h = cc
  cost-without (f ∷ es) e h = (elim (test f.0) as (λ y. test f.0 ≡ y → e.1.cost + cost_of (remove_entry test (f ∷ es)) ≡ cost_of (f ∷ es)) [
    | true ↦ λ t. let h' = rw t at h in let same : f ≡ e = cc in rw t (subst (λ g. g.1.cost + cost_of es ≡ cost_of (f ∷ es)) same
        (sym (sum_by-cons (λ (k : Kept). k.1.cost) f es)))
    | false ↦ λ t.
        let on = cost-without es e (rw t at h) in
        let first = sum_by-cons (λ (k : Kept). k.1.cost) f es in
        let then = sum_by-cons (λ (k : Kept). k.1.cost) f (remove_entry test es) in
        rw t (omega (arith, on, first, then))
  ]) refl

  cost-promoted-by : (es : List Kept) (o : Option Kept) → lookup_entry test es ≡ o → cost_of (option_map_or (λ e. e ∷ remove_entry test es) o es) ≡ cost_of es
  cost-promoted-by es None h = refl
  cost-promoted-by es (Some e) h = sum_by-cons (λ (k : Kept). k.1.cost) e (remove_entry test es) ∙ cost-without es e h

  pub cost-promoted : (es : List Kept) → cost_of (promoted test es) ≡ cost_of es
  cost-promoted es = cost-promoted-by es (lookup_entry test es) refl

  no-entry-by : (o : Option Kept) → option_map (λ (e : Kept). e.1) o ≡ None → o ≡ None
  no-entry-by None none = refl
  no-entry-by (Some e) none = absurd cc

  no-entry : (es : List Kept) → lookup test es ≡ None → lookup_entry test es ≡ None
  no-entry es none = no-entry-by (lookup_entry test es) (lookup-lookup_entry test es ∙ none)

  -- no pin of the cell is kept in a part of the pins
  pub none-before : (left gone : List Kept) → lookup test (left ++ gone) ≡ None → lookup test left ≡ None
  none-before [] gone none = refl
  none-before (e ∷ left) gone none = (elim (test e.0) as (λ y. test e.0 ≡ y → lookup test (e ∷ left) ≡ None) [
    | true ↦ λ t. let none' = rw t at none in absurd cc
    | false ↦ λ t. rw t (none-before left gone (rw t at none))
  ]) refl

-- what comes to fewer pins than there is room for pushes none out
pub put-new : (c : LruCache ℕ KeptPin) (cell : ℕ) (pin : KeptPin) → lookup (nat_eq cell) c.entries ≡ None → length c.entries < 2 ^ 63 → c.cap ≡ 2 ^ 64 - 1
    → put_entries nat_eq c cell pin ≡ (cell, pin) ∷ c.entries
put-new c cell pin new few wide =
    ap (λ o. option_map_or (λ (e : Kept). (e.0, pin) ∷ remove_entry (nat_eq cell) c.entries) o ((cell, pin) ∷ take (c.cap - 1) c.entries))
    (no-entry (nat_eq cell) c.entries new)
    ∙ ap (λ es. (cell, pin) ∷ es) (take_all (c.cap - 1) c.entries (omega (arith, few, wide)))

-- what came of it
pub inserts : {X Y : Type 0} (old new : LruCache ℕ KeptPin) (cell : ℕ) (pin : KeptPin) (r : Result X Y) (b : Bool) → lookup (nat_eq cell) old.entries ≡ None
    → old.cap ≡ 2 ^ 64 - 1
    → length old.entries < 2 ^ 63 → OnOk r (new ≡ lru_cache (put_entries nat_eq old cell pin) old.cap) → OnErr r (new ≡ old) → b ≡ is_ok r
    → Inserts cell pin b old new
inserts old new cell pin (Ok x) b none wide few ok err is = record {
  kept = λ told. ap (λ (c : LruCache ℕ KeptPin). c.entries) ok ∙ put-new old cell pin none few wide;
  refused = λ told. absurd cc;
  room = ap (λ (c : LruCache ℕ KeptPin). c.cap) ok;
}
inserts old new cell pin (Err y) b none wide few ok err is = record {
  kept = λ told. absurd cc;
  refused = λ told. ap (λ (c : LruCache ℕ KeptPin). c.entries) err;
  room = ap (λ (c : LruCache ℕ KeptPin). c.cap) err;
}

-- a hit or a miss, by whether a pin is kept
pub as-hit : (cell : ℕ) (b : BudgetView) → is_some (lookup (nat_eq cell) b.pins) ≡ true → touched cell b ≡ hit cell b
as-hit cell b is = ap (λ kept. let new : BudgetView = record b { pins = promoted (nat_eq cell) b.pins; stats = counted kept b.stats } in new) is

pub as-miss : (cell : ℕ) (b : BudgetView) → is_some (lookup (nat_eq cell) b.pins) ≡ false → touched cell b ≡ missed b
as-miss cell b is =
    let none = promoted_absent nat_eq (lru_cache b.pins 0) cell is in
    λ i. record b { pins = none.1 i; stats = counted (is i) b.stats }

-- ---- pins that are evicted

module _ {N S E H K V : Type 0} (tells : Storages S E N H K V) where
  -- the last pin is evicted, if there is one
  evict-none-of : (pins : List Kept) (p : PagerView N S E) → last_entry pins ≡ None → EvictsLast tells pins p None (take (length pins - 1) pins) p
  evict-none-of [] p none = none-is-kept refl
  evict-none-of (e ∷ es) p none = let is : e ∷ es ≡ [] = no-last (e ∷ es) none in absurd cc

  pub evict-none : (pins pins' : LruCache ℕ KeptPin) (p : PagerView N S E) (r : Option Kept) → r ≡ last_entry pins.entries
      → pins' ≡ lru_cache (take (length pins.entries - 1) pins.entries) pins.cap → r ≡ None → EvictsLast tells pins.entries p None pins'.entries p
  evict-none pins pins' p r is left none =
      subst (λ (c : LruCache ℕ KeptPin). EvictsLast tells pins.entries p None c.entries p) (sym left) (evict-none-of pins.entries p (sym is ∙ none))

  pub evict-one : (pins pins' : LruCache ℕ KeptPin) (cell : ℕ) (pin : KeptPin) (told : Result (Unit {0}) Error) (p q : PagerView N S E) (r : Option Kept) → r
      ≡ last_entry pins.entries
      → pins' ≡ lru_cache (take (length pins.entries - 1) pins.entries) pins.cap → r ≡ Some (cell, pin) → Releases tells p pin.handle told q
      → EvictsLast tells pins.entries p (Some pin.cost) pins'.entries q
  evict-one pins pins' cell pin told p q r is left some releases =
      subst (λ (c : LruCache ℕ KeptPin). EvictsLast tells pins.entries p (Some pin.cost) c.entries q) (sym left)
      (last-goes (cell, pin) (take (length pins.entries - 1) pins.entries) told q (split-last pins.entries (cell, pin) (sym is ∙ some)) releases)

  -- those at the end so far
  pub record SoFar (pins : List Kept) (old : PagerView N S E) (left : List Kept) (now : PagerView N S E) : Type 0 where
    pub evicted : List Kept
    pub are : pins ≡ left ++ evicted
    pub evicts : Evicts tells old evicted now

  -- and no more than it needs
  pub record Needed (most : ℕ) (pins : List Kept) (old : PagerView N S E) (left : List Kept) (now : PagerView N S E) : Type 0 where
    pub evicted : List Kept
    pub are : pins ≡ left ++ evicted
    pub evicts : Evicts tells old evicted now
    pub needed : IsNeeded most left evicted

  pub at-first : (pins : List Kept) (old : PagerView N S E) → SoFar pins old pins old
  at-first pins old = record { evicted = []; are = sym (append-nil pins); evicts = evicts-none }

  pub none-needed : (most : ℕ) (pins : List Kept) (old : PagerView N S E) → Needed most pins old pins old
  none-needed most pins old = record { evicted = []; are = sym (append-nil pins); evicts = evicts-none; needed = tt }

  pub one-less : {left left' : List Kept} {given : ℕ} {p q : PagerView N S E} → EvictsLast tells left p (Some given) left' q → cost_of left
      ≡ cost_of left' + given
  one-less (last-goes e left' told q is releases) = ap cost_of is ∙ cost-push left' e

  pub one-shorter : {left left' : List Kept} {given : ℕ} {p q : PagerView N S E} → EvictsLast tells left p (Some given) left' q → length left' < length left
  one-shorter (last-goes e left' told q is releases) = omega (arith, ap length is, length-append left' (e ∷ []))

  pub one-more : {pins : List Kept} {old : PagerView N S E} {left left' : List Kept} {given : ℕ} {p q : PagerView N S E} → SoFar pins old left p
      → EvictsLast tells left p (Some given) left' q → SoFar pins old left' q
  one-more {p = p} so (last-goes e left' told q is releases) = record {
    evicted = e ∷ so.evicted;
    are = so.are ∙ ap (λ es. es ++ so.evicted) is ∙ append_assoc left' (e ∷ []) so.evicted;
    evicts = evicts-more e so.evicted told p q so.evicts releases;
  }

  pub one-needed : {most : ℕ} {pins : List Kept} {old : PagerView N S E} {left left' : List Kept} {given : ℕ} {p q : PagerView N S E}
      → Needed most pins old left p
      → most < cost_of left → EvictsLast tells left p (Some given) left' q → Needed most pins old left' q
  one-needed {most = most} {p = p} so much (last-goes e left' told q is releases) = record {
    evicted = e ∷ so.evicted;
    are = so.are ∙ ap (λ es. es ++ so.evicted) is ∙ append_assoc left' (e ∷ []) so.evicted;
    evicts = evicts-more e so.evicted told p q so.evicts releases;
    needed = subst (λ c. most < c) (ap cost_of is ∙ cost-push left' e) much;
  }

  pub all-evicted : {pins : List Kept} {old : PagerView N S E} {left left' : List Kept} {p q : PagerView N S E} → SoFar pins old left p
      → EvictsLast tells left p None left' q
      → Evicts tells old pins q
  all-evicted {old = old} {q = q} so (none-is-kept none) = subst (λ es. Evicts tells old es q) (sym (so.are ∙ ap (λ es. es ++ so.evicted) none)) so.evicts

  pub all-empty : {left left' : List Kept} {p q : PagerView N S E} → EvictsLast tells left p None left' q → left' ≡ []
  all-empty (none-is-kept none) = refl

  -- evictions leave the storage alone
  pub same-storage : {old new : PagerView N S E} {gone : List Kept} → Evicts tells old gone new → new.storage ≡ old.storage
  same-storage evicts-none = refl
  same-storage (evicts-more e later told mid new evicts releases) = releases.only.storage ∙ same-storage evicts

pub ruleset ends = (evict-none)

pub ruleset gone = (all-evicted, all-empty)

-- ---- what a budget holds, within its bound

-- pins in another order cost the same
pub bounded-promoted : (pins pins' : LruCache ℕ KeptPin) (cost most cell : ℕ) → IsBounded pins cost most → pins'
    ≡ lru_cache (promoted (nat_eq cell) pins.entries) pins.cap
    → IsBounded pins' cost most
bounded-promoted pins pins' cost most cell was are = subst (λ c. IsBounded c cost most) (sym are)
    (record { sum = was.sum ∙ sym (cost-promoted (nat_eq cell) pins.entries); within = was.within; wide = was.wide })

-- ---- a pin within a budget leaves the storage alone, but for the caller's pin

module _ {N S E H K V : Type 0} (tells : Storages S E N H K V) where
  stores-alone : {b b' : BudgetView} {p q : PagerView N S E} {cell : ℕ} {pin : KeptPin} → Stores tells b p cell pin b' q → q.storage ≡ p.storage
  stores-alone (pin-is-kept mid q trims) = same-storage tells trims.evicts.evicts
  stores-alone (no-memory-is-left told b' mid q trims releases) = releases.only.storage ∙ same-storage tells trims.evicts.evicts

  admits-alone : {b b' : BudgetView} {p q : PagerView N S E} {cell : ℕ} {k : HandleNumber} {cost : ℕ} → Admits tells b p cell k cost b' q → q.storage
      ≡ p.storage
  admits-alone (costs-too-much much) = refl
  admits-alone (clone-is-refused e q fits clones) = clones.only.storage
  admits-alone (clone-is-stored c b' mid q fits clones stores) = stores-alone stores ∙ clones.only.storage

  pub keeps-alone : {b b' : BudgetView} {p q : PagerView N S E} {k : HandleNumber} {cost : ℕ} → Keeps tells b p k cost b' q → q.storage ≡ p.storage
  keeps-alone (no-cell e call) = refl
  keeps-alone (cell-is-kept n call is) = refl
  keeps-alone (cell-is-new n b' q call new admits) = admits-alone admits

-- ---- what the calls of a budget do, by the fields that they leave

-- what is answered where a call within was refused
pub failed : {T X : Type 0} {e : X} (r : Result T X) → IsErrAnd r (λ y. y ≡ e) → r ≡ Err e
failed (Err e) is = ap (λ y. Err y) is
failed (Ok x) is = absurd is

abbrev pub budget_of : List Kept → ℕ → BudgetStats → BudgetView
budget_of pins most stats = record { pins = pins; most = most; stats = stats }

none-of : (cell : ℕ) (pins : List Kept) → is_some (lookup (nat_eq cell) pins) ≡ false → lookup (nat_eq cell) pins ≡ None
none-of cell pins is = (promoted_absent nat_eq (lru_cache pins 0) cell is).0

-- no pin of a cell is kept after a look for it that found none
pub still-none : (cell : ℕ) (b mid : BudgetView) (kept : Bool) → kept ≡ is_some (lookup (nat_eq cell) b.pins) → mid ≡ touched cell b → kept ≡ false
    → lookup (nat_eq cell) mid.pins ≡ None
still-none cell b mid kept is after none =
    let absent = sym is ∙ none in
    subst (λ (m : BudgetView). lookup (nat_eq cell) m.pins ≡ None) (sym (after ∙ as-miss cell b absent)) (none-of cell b.pins absent)

module _ {N S E H K V : Type 0} (tells : Storages S E N H K V) where
  pub trimmed : (b : BudgetView) (p q : PagerView N S E) (pins pins' : List Kept) (most n : ℕ) (stats : BudgetStats) (before after evictions : ℕ)
      → budget_of pins most stats ≡ b
      → EvictsAbove tells n pins p pins' q → before ≡ length pins → after ≡ length pins' → evictions ≡ more stats.evictions (before - after)
      → Trims tells n b p (budget_of pins' most (record stats { evictions = evictions })) q
  trimmed b p q pins pins' most n stats before after evictions see evicts first then counts =
      subst (λ c. Trims tells n c p (budget_of pins' most (record stats { evictions = evictions })) q) see (record {
        evicts = evicts;
        most_is = refl;
        stats = ap (λ k. let s : BudgetStats = record stats { evictions = k } in s) (counts ∙ ap₂ (λ x y. more stats.evictions (x - y)) first then);
      })

  pub cleared : (b : BudgetView) (p q : PagerView N S E) (pins pins' : List Kept) (most : ℕ) (stats : BudgetStats) → budget_of pins most stats ≡ b
      → Evicts tells p pins q → pins' ≡ []
      → Clears tells b p (budget_of pins' most stats) q
  cleared b p q pins pins' most stats see evicts none =
      subst (λ c. Clears tells c p (budget_of pins' most stats) q) see (record { evicts = evicts; none = ap (λ es. budget_of es most stats) none })

  pub stored : (b mid : BudgetView) (p q : PagerView N S E) (cell : ℕ) (pin : KeptPin) (pins pins' : List Kept) (n most : ℕ) (stats : BudgetStats) → n
      ≡ b.most - pin.cost
      → budget_of pins most stats ≡ mid → pins' ≡ (cell, pin) ∷ pins → Trims tells n b p mid q → Stores tells b p cell pin (budget_of pins' most stats) q
  stored b mid p q cell pin pins pins' n most stats room see kept trims =
      subst (λ c. Stores tells b p cell pin c q) (sym (ap (λ es. budget_of es most stats) kept
      ∙ ap (λ (m : BudgetView). budget_of ((cell, pin) ∷ m.pins) m.most m.stats) see))
      (pin-is-kept mid q (subst (λ k. Trims tells k b p mid q) room trims))

  pub unstored : (b mid : BudgetView) (p low q : PagerView N S E) (cell : ℕ) (pin : KeptPin) (pins pins' : List Kept) (n most : ℕ) (stats : BudgetStats)
      (told : Result (Unit {0}) Error)
      → n ≡ b.most - pin.cost → budget_of pins most stats ≡ mid → pins' ≡ pins → Trims tells n b p mid low → Releases tells low pin.handle told q
      → Stores tells b p cell pin (budget_of pins' most stats) q
  unstored b mid p low q cell pin pins pins' n most stats told room see same trims releases =
      subst (λ c. Stores tells b p cell pin c q) (sym (ap (λ es. budget_of es most stats) same ∙ see))
      (no-memory-is-left told mid low q (subst (λ k. Trims tells k b p mid low) room trims) releases)

  pub kept-already : (b b' : BudgetView) (p : PagerView N S E) (k : HandleNumber) (cost : ℕ) (n : NodeNumber) (kept : Bool)
      → NodeCall (pager_core tells p) k (Ok n)
      → kept ≡ is_some (lookup (nat_eq n.0) b.pins) → b' ≡ touched n.0 b → kept ≡ true → Keeps tells b p k cost b' p
  kept-already b b' p k cost n kept call is after so =
      let there = sym is ∙ so in subst (λ c. Keeps tells b p k cost c p) (sym (after ∙ as-hit n.0 b there)) (cell-is-kept n call there)

  pub came-new : (b mid b' : BudgetView) (p q : PagerView N S E) (k : HandleNumber) (cost : ℕ) (n : NodeNumber) (kept : Bool)
      → NodeCall (pager_core tells p) k (Ok n)
      → kept ≡ is_some (lookup (nat_eq n.0) b.pins) → mid ≡ touched n.0 b → kept ≡ false → Admits tells mid p n.0 k cost b' q → Keeps tells b p k cost b' q
  came-new b mid b' p q k cost n kept call is after so admits =
      let absent = sym is ∙ so in
      cell-is-new n b' q call (none-of n.0 b.pins absent) (subst (λ c. Admits tells c p n.0 k cost b' q) (after ∙ as-miss n.0 b absent) admits)
