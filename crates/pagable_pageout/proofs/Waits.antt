-- For whom a worker waits, why chains of waits end, and the slots of a table after each change.
use Rattle.indexmap.specs.IndexMap.{IndexMap, get, set_value_at}
use Rattle.pagable_pageout.proofs.Words.{
  [],
  Bool,
  Environments,
  Equalities,
  Err,
  Hashes,
  List,
  Nodes,
  None,
  Ok,
  Option,
  Orders,
  PartialOrders,
  Result,
  SameShelf,
  Shelf,
  Some,
  ap,
  arith,
  basics,
  false,
  if_there,
  if◌then◌else◌,
  inl,
  inr,
  is_same,
  length,
  lookup,
  nat_eq,
  none-some,
  open_worker,
  option_map,
  refl,
  same_some,
  shelf_in,
  slice_get,
  slot_of,
  subst,
  sym,
  tests,
  true,
  with_outcome,
  ℕ,
  ∥∥₁_map,
  ◌<◌,
  ◌∙◌,
  ◌∷◌,
  ◌≡◌,
  ◌≤◌,
}
use Rattle.pagable_pageout.specs.{
  Slots.{Changes, EachEnds, Ends, FailedTo, HoldOnlyOwnResults, HoldsOnlyResultOf, SlotIs, TellsDeadlock, after_failure, claimed_by, ends-at, failed_by},
  Slots.{slots_in, waits_for},
  declared.lent_slot.LentSlot.LentSlot,
}
use Rattle.pagable_pager_spec.specs.{
  Basics.{Identity, SameAt, updated},
  Workers.{ComesToEnd, IsOpenSlot, is_open_outcome, is_open_slot, may-go-on, waits-back, waits-on, with_slot, with_wait, works},
  World.{Outcome, Slot, is_identity, no_result},
}
use Rattle.std.proofs.{Common.{cond, suc, zero, ◌&&◌, ◌⊎◌}, lemmas.Grind.merely}
use Rattle.std.specs.{Map.values_of, Prelude.{OnErr, OnOk}}
use mathlib.Core.{HLevel.Σ_prop_path, Logic.{∥∥₁_elim, ∥∥₁_prop}}
use native.Mathlib.Nat.{ℕ_set}

open-is : (x : Slot) → x.outcome ≡ no_result → open_worker (Some x) ≡ Some x.worker
open-is x e = ap (λ q. if is_open_outcome q then Some x.worker else None) e

closed : (slot : Option Slot) → is_open_slot slot ≡ false → (w : ℕ) → open_worker slot ≡ Some w → ⊥
closed None h w e = none-some w e
closed (Some x) h w e = none-some w (sym (ap (λ b. if b then Some x.worker else None) h) ∙ e)

-- where the worker that it waits for leads, it does; and where it waits for none it goes no further
pub leads-on : (s : Shelf) (v u w : ℕ) → waits_for s u ≡ Some w → nat_eq u v ≡ false → (b : Bool) → TellsDeadlock s v w b → TellsDeadlock s v u b
leads-on s v u w is differs b h = grind (tests, same_some, waits-back, waits-on)

pub leads-no-more : (s : Shelf) (v u : ℕ) → waits_for s u ≡ None → nat_eq u v ≡ false → TellsDeadlock s v u false
leads-no-more s v u none differs = by (s.waits u) refl none
  where
    not-open : (slot : Option Slot) → open_worker slot ≡ None → is_open_slot slot ≡ false
    not-open slot none = grind tests

    by : (found : Option Identity) → s.waits u ≡ found → if_there (λ i. open_worker (s.slots i)) None found ≡ None → ComesToEnd s v u
    by None is none = works u differs is
    by (Some i) is none = may-go-on u i differs is (not-open (s.slots i) none)

-- once its wait is forgotten
module _ (s s1 s2 : Shelf) (v : ℕ) (i : Identity) (same : SameShelf (with_wait s v None) s1) where
  off : (u : ℕ) → nat_eq u v ≡ false → s1.waits u ≡ s.waits u
  off u d = same.waits u ∙ ap (λ b. if b then None else s.waits u) d

  pub open-still : (j : Identity) (slot : Slot) → IsOpenSlot s j slot → IsOpenSlot s1 j slot
  open-still j slot o = record { claimed = same.slots j ∙ o.claimed; no_result_yet = o.no_result_yet }

  pub end-still : {u : ℕ} → ComesToEnd s v u → ComesToEnd s1 v u
  end-still (works u d e) = works u d (off u d ∙ e)
  end-still (may-go-on u j d e o) = may-go-on u j d (off u d ∙ e) (ap is_open_slot (same.slots j) ∙ o)
  end-still (waits-on u j slot d e o c) = waits-on u j slot d (off u d ∙ e) (open-still j slot o) (end-still c)

pub ruleset claims = (tests, open-still, end-still)

-- ---- the slots of a table after one of them came or changed

pub either-way : {A B P Q : Type 0} (r : Result A B) → OnOk r P → OnErr r Q → P ⊎ Q
either-way (Ok x) p q = inl p
either-way (Err e) p q = inr q

pub eq-sym : (a b : ℕ) → nat_eq a b ≡ nat_eq b a
eq-sym a b = grind tests

pub same-as : (i j : Identity) → is_same (i.kind.0, i.node.0) (j.kind.0, j.node.0) ≡ is_identity i j
same-as i j = ap (λ b. b && nat_eq i.node.0 j.node.0) (eq-sym i.kind.0 j.kind.0) ∙ ap (λ b. nat_eq j.kind.0 i.kind.0 && b) (eq-sym i.node.0 j.node.0)

pub same-numbers : (i j : Identity) → i.kind.0 ≡ j.kind.0 → i.node.0 ≡ j.node.0 → i ≡ j
same-numbers i j k n = λ p. record { kind = record { 0 = k p }; node = record { 0 = n p } }

pub same-identity : (i j : Identity) → is_same (i.kind.0, i.node.0) (j.kind.0, j.node.0) ≡ true → i ≡ j
same-identity i j h = grind (basics, same-numbers)

-- what waits at one number, and at the others
pub wait-is : {T : Type 0} (old new : IndexMap ℕ Identity T) (v : ℕ) (w : Option Identity)
    → ((q : ℕ) → get nat_eq new q ≡ cond (nat_eq v q) w (get nat_eq old q)) → SameAt (updated v w (λ q. get nat_eq old q)) (λ q. get nat_eq new q)
wait-is old new v w h q = h q ∙ ap (λ b. cond b w (get nat_eq old q)) (eq-sym v q)

module _ {E EN EH EK EV : Type 0} {g : Environments E EN EH EK EV} {gh : Hashes EH} {go : Orders EK} {gq : Equalities EK} {gp : PartialOrders EK}
    {gn : Nodes EN E EN EH EK EV} where
  module _ {S : Type 0} (old new : IndexMap (ℕ × ℕ) (LentSlot E EN EH EK EV g gh go gq gp gn) S) (i : Identity) (s : LentSlot E EN EH EK EV g gh go gq gp gn)
      (h : (q : ℕ × ℕ) → get is_same new q ≡ cond (is_same (i.kind.0, i.node.0) q) (Some s) (get is_same old q)) where
    pub slot-is : (x : Slot) → slot_of s ≡ x → SlotIs (slots_in old) i (Some x) (slots_in new)
    slot-is x e j = grind (basics, same-as)

    pub own-is : HoldOnlyOwnResults old → ((j : Identity) → is_same (i.kind.0, i.node.0) (j.kind.0, j.node.0) ≡ true → HoldsOnlyResultOf j s)
        → HoldOnlyOwnResults new
    own-is own fresh j t there = grind (basics, same_some)

    -- the slot that stood there has changed
    module _ (was : LentSlot E EN EH EK EV g gh go gq gp gn) (at : Some was ≡ get is_same old (i.kind.0, i.node.0)) where
      pub changed-is : (f : Slot → Slot) → slot_of s ≡ f (slot_of was) → Changes f (slots_in old) i (slots_in new)
      changed-is f e j = grind (basics, slot-is)

-- ---- waits come to an end after each change of a table

module _ (s s' : Shelf) (h : (u w : ℕ) → waits_for s' u ≡ Some w → (waits_for s u ≡ Some w) ⊎ Ends s' w) where
  ends-still : {u : ℕ} → Ends s u → Ends s' u
  ends-still (ends-at u f) = ends-at u (λ w e. elim (h u w e) [ inl old ↦ ends-still (f w old) | inr ends ↦ ends ])

  -- where each wait that is new comes to an end
  pub each-ends : EachEnds s → EachEnds s'
  each-ends ends u = ∥∥₁_map (ends u) ends-still

-- slots that get an outcome
pub less-open : (s s' : Shelf) → ((i : Identity) (w : ℕ) → open_worker (s'.slots i) ≡ Some w → open_worker (s.slots i) ≡ Some w) → SameAt s.waits s'.waits
    → EachEnds s → EachEnds s'
less-open s s' h same = each-ends s s' (λ u w e. let waits = same u in inl (grind (tests, h)))

-- one that doesn't wait any more
pub stopped : (s s' : Shelf) (v : ℕ) → SameShelf (with_wait s v None) s' → EachEnds s → EachEnds s'
stopped s s' v same = each-ends s s' (λ u w e. let waits = same.waits u in inl (grind (tests, same.slots)))

-- a claim of a worker that doesn't wait
module _ (s s' : Shelf) (v : ℕ) (i : Identity) (same : SameShelf (with_slot s i (Some (claimed_by v))) s') (works-on : s.waits v ≡ None) where
  claimer-ends : Ends s' v
  claimer-ends = ends-at v (λ w e. absurd (none-some w (ap (if_there (λ j. open_worker (s'.slots j)) None) (sym (same.waits v ∙ works-on)) ∙ e)))

  pub taken : EachEnds s → EachEnds s'
  taken = each-ends s s' (λ u w e. let waits = same.waits u in grind (tests, same.slots, same_some, claimer-ends))

-- a worker waits for one whose wait comes to an end without it
module _ (s s' : Shelf) (v : ℕ) (i : Identity) (same : SameShelf (with_wait s v (Some i)) s') where
  -- whom another one waits for
  was-for : (u w : ℕ) → nat_eq u v ≡ false → waits_for s' u ≡ Some w → waits_for s u ≡ Some w
  was-for u w d e = let waits = same.waits u in grind (tests, same.slots)

  end-later : {u : ℕ} → ComesToEnd s v u → Ends s' u
  end-later (works u d e) = ends-at u (λ w n. let f = was-for u w d n in absurd (none-some w (ap (if_there (λ j. open_worker (s.slots j)) None) (sym e) ∙ f)))
  end-later (may-go-on u j d e o) = ends-at u (λ w n. let f = was-for u w d n in
      absurd (closed (s.slots j) o w (ap (if_there (λ k. open_worker (s.slots k)) None) (sym e) ∙ f)))
  end-later (waits-on u j slot d e o c) = ends-at u (λ w n. grind (tests, was-for u w d n, same_some, open-is, end-later c))

  pub waiting : (slot : Slot) → IsOpenSlot s i slot → ComesToEnd s v slot.worker → EachEnds s → EachEnds s'
  waiting slot o c = each-ends s s' (λ u w e. let waits = same.waits u in let later = end-later c in
      grind (tests, same.slots, was-for, same_some, open-is))

-- no worker waits
pub no-waits : (s : Shelf) → ((v : ℕ) → s.waits v ≡ None) → EachEnds s
no-waits s h u = merely (ends-at u (λ w e. absurd (none-some w (ap (if_there (λ j. open_worker (s.slots j)) None) (sym (h u)) ∙ e))))

-- a slot that changes and doesn't come to be without a result
module _ (old new : Identity → Option Slot) (i : Identity) (f : Slot → Slot)
    (h : (x : Slot) (w : ℕ) → open_worker (Some (f x)) ≡ Some w → open_worker (Some x) ≡ Some w) (is : Changes f old i new) where
  pub changed-less : (j : Identity) (w : ℕ) → open_worker (new j) ≡ Some w → open_worker (old j) ≡ Some w
  changed-less j w e = grind (tests, same-identity, same-as, h)

module _ {E EN EH EK EV : Type 0} {g : Environments E EN EH EK EV} {gh : Hashes EH} {go : Orders EK} {gq : Equalities EK} {gp : PartialOrders EK}
    {gn : Nodes EN E EN EH EK EV} {S T : Type 0} (old new : IndexMap (ℕ × ℕ) (LentSlot E EN EH EK EV g gh go gq gp gn) S) (waits : IndexMap ℕ Identity T)
    (i : Identity) (s was : LentSlot E EN EH EK EV g gh go gq gp gn) (f : Slot → Slot) where
  pub changed-table : ((q : ℕ × ℕ) → get is_same new q ≡ cond (is_same (i.kind.0, i.node.0) q) (Some s) (get is_same old q))
      → Some was ≡ get is_same old (i.kind.0, i.node.0) → slot_of s ≡ f (slot_of was)
      → ((x : Slot) (w : ℕ) → open_worker (Some (f x)) ≡ Some w → open_worker (Some x) ≡ Some w) → (HoldsOnlyResultOf i was → HoldsOnlyResultOf i s)
      → HoldOnlyOwnResults old
      → EachEnds (shelf_in old waits)
      → HoldOnlyOwnResults new × EachEnds (shelf_in new waits)
  changed-table h at e less named own ends =
      let is = changed-is old new i s h was at f e in (
        own-is old new i s h own (λ j same. subst (λ k. HoldsOnlyResultOf k s) (same-identity i j same) (named (own i was (sym at)))),
        less-open (shelf_in old waits) (shelf_in new waits) (changed-less (slots_in old) (slots_in new) i f less is) (λ v. refl) ends,
      )

-- a slot that gets an outcome
pub outcome-less : (o : Outcome) → is_open_outcome o ≡ false → (x : Slot) (w : ℕ) → open_worker (Some (with_outcome o x)) ≡ Some w → open_worker (Some x)
    ≡ Some w
outcome-less o h x w e = grind tests

-- ---- how many waits lead on from a worker

-- so many, and no more
abbrev Long : Shelf → ℕ → ℕ → Type 0
Long s zero u = waits_for s u ≡ None
Long s (suc n) u = (w : ℕ) × (waits_for s u ≡ Some w) × Long s n w

module _ (s : Shelf) where
  same-long : (n m u : ℕ) → Long s n u → Long s m u → n ≡ m
  same-long zero zero u a b = refl
  same-long zero (suc m) u a b = absurd (none-some b.0 (sym a ∙ b.1))
  same-long (suc n) zero u a b = absurd (none-some a.0 (sym b ∙ a.1))
  same-long (suc n) (suc m) u a b = ap suc (same-long n m a.0 a.2 (subst (Long s m) (same_some _ _ (sym b.1 ∙ a.1)) b.2))

  long-by : (u : ℕ) → ((w : ℕ) → waits_for s u ≡ Some w → (n : ℕ) × Long s n w) → (o : Option ℕ) → waits_for s u ≡ o → (n : ℕ) × Long s n u
  long-by u f None none = (zero, none)
  long-by u f (Some w) is = let l = f w is in (suc l.0, (w, is, l.1))

  long : {u : ℕ} → Ends s u → (n : ℕ) × Long s n u
  long (ends-at u f) = long-by u (λ w is. long (f w is)) (waits_for s u) refl

  pub how-long : EachEnds s → (u : ℕ) → (n : ℕ) × ∥ Long s n u ∥₁
  how-long ends u =
      let one : (x y : (n : ℕ) × ∥ Long s n u ∥₁) → x ≡ y = λ x y. Σ_prop_path (λ n. ∥∥₁_prop)
      (∥∥₁_elim x.1 (ℕ_set _ _) (λ a. ∥∥₁_elim y.1 (ℕ_set _ _) (λ b. same-long x.0 y.0 u a b))) in
      ∥∥₁_elim (ends u) one (λ e. let l = long e in (l.0, ∣ l.1 ∣₁))

  -- fewer than from one that waits for it
  pub nearer : (ends : EachEnds s) (u w : ℕ) → waits_for s u ≡ Some w → (how-long ends w).0 < (how-long ends u).0
  nearer ends u w e =
      let n = how-long ends u in
      let m = how-long ends w in
      let is : n.0 ≡ suc m.0 = ∥∥₁_elim n.1 (ℕ_set _ _) (λ a. ∥∥₁_elim m.1 (ℕ_set _ _) (λ b. same-long n.0 (suc m.0) u a (w, e, b))) in
      omega (arith, is)

-- ---- what a worker's failure makes of its claims, one row after another

module _ {E EN EH EK EV : Type 0} {g : Environments E EN EH EK EV} {gh : Hashes EH} {go : Orders EK} {gq : Equalities EK} {gp : PartialOrders EK}
    {gn : Nodes EN E EN EH EK EV} (v : ℕ) where
  -- the next row is failed; or there is none
  pub row-fails : (n : ℕ) (first rows : List ((ℕ × ℕ) × LentSlot E EN EH EK EV g gh go gq gp gn)) (s w : LentSlot E EN EH EK EV g gh go gq gp gn)
      → slice_get (values_of rows) n ≡ Some s → slot_of w ≡ failed_by v (slot_of s) → ((i : Identity) → HoldsOnlyResultOf i s → HoldsOnlyResultOf i w)
      → FailedTo v n first rows → FailedTo v (suc n) first (set_value_at rows n w)
  row-fails zero (e ∷ es) (m ∷ ms) s w at is own h =
      let same : m ≡ e = cc in
      let rest : ms ≡ es = cc in
      let here : s ≡ e.1 = sym (same_some _ _ at) ∙ ap (λ (x : (ℕ × ℕ) × LentSlot E EN EH EK EV g gh go gq gp gn). x.1) same in (
        record {
          key = ap (λ (x : (ℕ × ℕ) × LentSlot E EN EH EK EV g gh go gq gp gn). x.0) same;
          slot = is ∙ ap (λ x. failed_by v (slot_of x)) here;
          own = λ i named. own i (subst (HoldsOnlyResultOf i) (sym here) named);
        },
        rest,
      )
  row-fails (suc n) (e ∷ es) (m ∷ ms) s w at is own (row, rest) = (row, row-fails n es ms s w at is own rest)
  row-fails n first rows s w at is own h = grind (tests, none-some)

  pub no-row : (n : ℕ) (first rows : List ((ℕ × ℕ) × LentSlot E EN EH EK EV g gh go gq gp gn)) → slice_get (values_of rows) n ≡ None → FailedTo v n first rows
      → FailedTo v (suc n) first rows
  no-row (suc n) (e ∷ es) (m ∷ ms) none (row, rest) = (row, no-row n es ms none rest)
  no-row n first rows none h = grind (tests, none-some)

  -- once each row is failed
  pub all-failed : (n : ℕ) (first rows : List ((ℕ × ℕ) × LentSlot E EN EH EK EV g gh go gq gp gn)) (q : ℕ × ℕ) → length first ≤ n → FailedTo v n first rows
      → option_map slot_of (lookup (is_same q) rows) ≡ after_failure v (option_map slot_of (lookup (is_same q) first))
  all-failed zero [] rows q many h = rw h refl
  all-failed zero (e ∷ es) rows q many h = absurd (omega (arith, many))
  all-failed (suc n) [] rows q many h = rw h refl
  all-failed (suc n) (e ∷ es) [] q many h = absurd h
  all-failed (suc n) (e ∷ es) (f ∷ fs) q many (row, rest) = let more = all-failed n es fs q (omega arith) rest in
      rw row.key (grind (tests, row.slot, more))

  pub still-named : (n : ℕ) (first rows : List ((ℕ × ℕ) × LentSlot E EN EH EK EV g gh go gq gp gn)) (i : Identity) (q : ℕ × ℕ) → FailedTo v n first rows
      → ((s : LentSlot E EN EH EK EV g gh go gq gp gn) → lookup (is_same q) first ≡ Some s → HoldsOnlyResultOf i s)
      → (s : LentSlot E EN EH EK EV g gh go gq gp gn) → lookup (is_same q) rows ≡ Some s → HoldsOnlyResultOf i s
  still-named zero first rows i q h named s there = named s (sym (ap (lookup (is_same q)) h) ∙ there)
  still-named (suc n) (e ∷ es) (f ∷ fs) i q (row, rest) named s there = by (still-named n es fs i q rest) (is_same q e.0) refl
      (sym (ap (λ k. cond (is_same q k) (Some f.1) (lookup (is_same q) fs)) row.key) ∙ there)
    where
      by : (((x : LentSlot E EN EH EK EV g gh go gq gp gn) → lookup (is_same q) es ≡ Some x → HoldsOnlyResultOf i x)
          → (x : LentSlot E EN EH EK EV g gh go gq gp gn)
          → lookup (is_same q) fs ≡ Some x → HoldsOnlyResultOf i x)
          → (b : Bool) → is_same q e.0 ≡ b → cond b (Some f.1) (lookup (is_same q) fs) ≡ Some s → HoldsOnlyResultOf i s
      by more true at is = subst (HoldsOnlyResultOf i) (same_some _ _ is) (row.own i (named e.1 (ap (λ b. cond b (Some e.1) (lookup (is_same q) es)) at)))
      by more false at is = more (λ x was. named x (ap (λ b. cond b (Some e.1) (lookup (is_same q) es)) at ∙ was)) s is
  still-named n first rows i q h named s there = grind (tests, none-some)

pub failure-less : (v : ℕ) (o : Option Slot) (w : ℕ) → open_worker (after_failure v o) ≡ Some w → open_worker o ≡ Some w
failure-less v o w e = grind (tests, outcome-less)

pub ruleset failing = (no-row, all-failed)
