-- What was read holds what was lent: a value by itself, one that is made of others, and items that are put in one after another.
use Rattle.pagable_traits.proofs.{
  Items.puts-last,
  Words.{Bool, Err, IsPermutation, List, None, Ok, Option, Ordering, PutInTurn, Result, Some, ap, false, insert_entry, lookup, match_ordering, refl, set_value},
  Words.{subst, sym, true, ℕ, [], ◌++◌, ◌∙◌, ◌∷◌, ◌≡◌},
}
use Rattle.pagable_traits.specs.{
  HeldValues.{Beside, CollectsHeld, holding_beside, lists_beside, options_beside, pairs_beside, results_beside},
  References.holding_reference,
  declared.arc.HoldingArc.HoldingArc,
}
use Rattle.pagable_value_spec.specs.{
  Cursor.{HoldsLentValues, InputState, IsLent, MovesOn},
  Hashed.PutsAnywhere,
  declared.{error.Error.Error, numbers.ArcRef.ArcRef},
}
use Rattle.std.proofs.lemmas.List.{Elements.{All-cons, All-head, All-nil, All-push, All-tail, All-weaker}, Sorted.All-permutation}
use Rattle.std.specs.{Arc.arc_value, List.All, Prelude.{IfOk, MatchOption, cond, if◌then◌else◌, option_and_then}}
use Rattle.indexmap.specs.IndexMap as placed_maps

-- a reference that took what was lent by it holds that
pub taken_holds : {N T : Type 0} {sort : ℕ} (t : ℕ) (pins : Bool) (held : N → Option T) {s : InputState N} (lends : Option N) (a : HoldingArc T sort)
    (r : ArcRef)
    → holding_reference t pins a ≡ r → ((y : N) → lends ≡ Some y → IsLent s r y)
    → option_and_then held lends ≡ Some (arc_value a.value) → HoldsLentValues s (holding_beside t pins held) a
taken_holds t pins held None a r same lent value = absurd cc
taken_holds t pins held {s} (Some z) a r same lent value = record {
  each = λ q y only own.
      let was = lent z refl in
      let at : s.lent was.0 ≡ Some (q, z) = was.1 ∙ ap (λ (x : ArcRef). Some (x, z)) (sym same ∙ own) in
      subst (λ w. held w ≡ Some (arc_value a.value)) (only was.0 z at) value;
}

module _ {N X : Type 0} where
  -- a type whose values hold nothing beside references
  pub holds_nothing : (s : InputState N) (r : Result X Error) → IfOk r (HoldsLentValues s (λ x a y. Unit {0}))
  holds_nothing s (Ok x) = record { each = λ a y only. tt }
  holds_nothing s (Err e) = tt

  -- what was lent where the deserializer stood later was lent where it stood before
  pub held_before : {B : Beside N X} {s t : InputState N} {x : X} → MovesOn s t → HoldsLentValues t B x → HoldsLentValues s B x
  held_before m h = record { each = λ r y only. h.each r y (λ place z is. only place z (ap (λ f. f place) (sym m.lent) ∙ is)) }

  pub held_so : (B : Beside N X) {s t : InputState N} (r : Result X Error) → MovesOn s t → IfOk r (HoldsLentValues t B) → IfOk r (HoldsLentValues s B)
  held_so B (Ok x) m h = held_before m h
  held_so B (Err e) m h = tt

  pub some_holds : {B : Beside N X} {s t : InputState N} {x : X} → MovesOn s t → HoldsLentValues t B x → HoldsLentValues s (options_beside B) (Some x)
  some_holds m h = record { each = (held_before m h).each }

  pub none_holds : {B : Beside N X} {s : InputState N} → HoldsLentValues s (options_beside B) None
  none_holds = record { each = λ r y only. tt }

  -- as a value that is carried as another one
  pub seen_holds : {Y : Type 0} {B : Beside N Y} {s : InputState N} {x : X} {y : Y} (view : X → Y) → view x ≡ y → HoldsLentValues s B y
      → HoldsLentValues s (λ z. B (view z)) x
  seen_holds {B = B} {s = s} view is h = record { each = (subst (HoldsLentValues s B) (sym is) h).each }

module _ {N X Y : Type 0} {B : Beside N X} {C : Beside N Y} {s t : InputState N} where
  pub success_holds : {x : X} → MovesOn s t → HoldsLentValues t B x → HoldsLentValues s (results_beside B C) (Ok x)
  success_holds m h = record { each = (held_before m h).each }

  pub failure_holds : {y : Y} → MovesOn s t → HoldsLentValues t C y → HoldsLentValues s (results_beside B C) (Err y)
  failure_holds m h = record { each = (held_before m h).each }

pub pair_holds : {N X Y : Type 0} {B : Beside N X} {C : Beside N Y} {s t : InputState N} {x : X} {y : Y} → MovesOn s t → HoldsLentValues s B x
    → HoldsLentValues t C y
    → HoldsLentValues s (pairs_beside B C) (x, y)
pair_holds m h k = record { each = λ r z only. (h.each r z only, (held_before m k).each r z only) }

-- ---- items

module _ {N T : Type 0} (B : Beside N T) (puts : List T → T → List T → Type 0) where
  pub none_held : {s : InputState N} {now : List T} → now ≡ [] → CollectsHeld s B puts now
  unfolding PutInTurn
  none_held {s} e = record { xs = []; each = All-nil (HoldsLentValues s B); is = e }

  pub more_held : {s t : InputState N} {old new : List T} {x : T} → MovesOn s t → CollectsHeld s B puts old → HoldsLentValues t B x → puts old x new
      → CollectsHeld s B puts new
  more_held {s} {old = old} {new = new} {x = x} m c h p = record {
    xs = c.xs ++ x ∷ [];
    each = All-push (HoldsLentValues s B) c.xs x c.each (held_before m h);
    is = puts-last puts [] c.xs x old new c.is p;
  }

  earlier : {s t : InputState N} {now : List T} → MovesOn s t → CollectsHeld t B puts now → CollectsHeld s B puts now
  earlier {s} {t} m c = record { xs = c.xs; each = All-weaker (HoldsLentValues t B) (HoldsLentValues s B) (λ x h. held_before m h) c.xs c.each; is = c.is }

  pub collected_so : {C : Type 0} (held : C → List T) {s t : InputState N} (r : Result C Error) → MovesOn s t → IfOk r (λ c. CollectsHeld t B puts (held c))
      → IfOk r (λ c. CollectsHeld s B puts (held c))
  collected_so held (Ok x) m h = earlier m h
  collected_so held (Err e) m h = tt

-- as the items of a list
pub items_hold : {N T X Y : Type 0} (B : Beside N T) {s : InputState N} {x : X} {y : Y} (items : X → List T) (view : Y → List T) → view y ≡ items x
    → HoldsLentValues s (λ v. lists_beside B (items v)) x → HoldsLentValues s (λ v. lists_beside B (view v)) y
items_hold B items view is h = record { each = λ r z only. rw is (h.each r z only) }

-- What holds of the items that are there, and of one that is put in, holds of those that are left.
abbrev pub Keeps : {T : Type 0} → (List T → T → List T → Type 0) → (T → Type 0) → Type 0
Keeps {T} puts P = (old : List T) (x : T) (new : List T) → All P old → P x → puts old x new → All P new

kept-in-turn : {T : Type 0} (puts : List T → T → List T → Type 0) (P : T → Type 0) → Keeps puts P → (acc xs now : List T) → PutInTurn puts acc xs now
    → All P acc → All P xs → All P now
unfolding PutInTurn
kept-in-turn puts P keeps acc [] now is there all = rw is there
kept-in-turn puts P keeps acc (x ∷ xs) now put there all = kept-in-turn puts P keeps put.0 xs now put.2 (keeps acc x put.0 there (All-head P x xs all) put.1)
    (All-tail P x xs all)

-- items that were put in one after another, wherever each went
pub collection_holds : {N T V : Type 0} (B : Beside N T) (puts : List T → T → List T → Type 0) (s : InputState N) (items : V → List T) (r : Result V Error)
    → ((q : ArcRef) (y : N) → Keeps puts (λ x. B x q y)) → IfOk r (λ v. CollectsHeld s B puts (items v))
    → IfOk r (HoldsLentValues s (λ v. lists_beside B (items v)))
collection_holds B puts s items (Ok v) keeps c = record {
  each = λ q y only. let P : _ → Type 0 = λ x. B x q y in kept-in-turn puts P (keeps q y) [] c.xs (items v) c.is (All-nil P)
      (All-weaker (HoldsLentValues s B) P (λ x h. h.each q y only) c.xs c.each);
}
collection_holds B puts s items (Err e) keeps c = tt

-- items that were put in each at the end
pub list_holds : {N T V : Type 0} (B : Beside N T) (s : InputState N) (items : V → List T) (r : Result V Error)
    → IfOk r (λ v. CollectsHeld s B (λ ys y zs. zs ≡ ys ++ y ∷ []) (items v)) → IfOk r (HoldsLentValues s (λ v. lists_beside B (items v)))
list_holds B s items r = collection_holds B _ s items r (λ q y old x new all h is. rw is (All-push (λ z. B z q y) old x all h))

-- ---- entries of maps: each key and each value is one that was put in

module _ {K V : Type 0} (P : K → Type 0) (Q : V → Type 0) where
  abbrev Both : K × V → Type 0
  Both e = P e.0 × Q e.1

  sorted-kept : (cmp : K → K → Ordering) (es : List (K × V)) (e : K × V) → All Both es → Both e → All Both (insert_entry cmp es e.0 e.1)
  sorted-kept cmp [] e all h = All-cons Both e [] h (All-nil Both)
  sorted-kept cmp (f ∷ es) e all h = by (cmp e.0 f.0) (sorted-kept cmp es e (All-tail Both f es all) h)
    where
      by : (o : Ordering) → All Both (insert_entry cmp es e.0 e.1) → All Both
          (match_ordering o ((e.0, e.1) ∷ f ∷ es) ((f.0, e.1) ∷ es) (f ∷ insert_entry cmp es e.0 e.1))
      by Ordering.Less rest = All-cons Both e (f ∷ es) h all
      by Ordering.Equal rest = All-cons Both (f.0, e.1) es ((All-head Both f es all).0, h.1) (All-tail Both f es all)
      by Ordering.Greater rest = All-cons Both f _ (All-head Both f es all) rest

  placed-kept : (eq : K → K → Bool) (es : List (K × V)) (e : K × V) → All Both es → Both e → All Both (placed_maps.insert_entry eq es e.0 e.1)
  placed-kept eq [] e all h = All-cons Both e [] h (All-nil Both)
  placed-kept eq (f ∷ es) e all h = by (eq e.0 f.0) (placed-kept eq es e (All-tail Both f es all) h)
    where
      by : (b : Bool) → All Both (placed_maps.insert_entry eq es e.0 e.1) → All Both (if b then (f.0, e.1) ∷ es else f ∷ placed_maps.insert_entry eq es e.0 e.1)
      by true rest = All-cons Both (f.0, e.1) es ((All-head Both f es all).0, h.1) (All-tail Both f es all)
      by false rest = All-cons Both f _ (All-head Both f es all) rest

  value-kept : (test : K → Bool) (es : List (K × V)) (v : V) → All Both es → Q v → All Both (set_value test es v)
  value-kept test [] v all h = all
  value-kept test (f ∷ es) v all h = by (test f.0) (value-kept test es v (All-tail Both f es all) h)
    where
      by : (b : Bool) → All Both (set_value test es v) → All Both (cond b ((f.0, v) ∷ es) (f ∷ set_value test es v))
      by true rest = All-cons Both (f.0, v) es ((All-head Both f es all).0, h) (All-tail Both f es all)
      by false rest = All-cons Both f _ (All-head Both f es all) rest

  anywhere-kept : (eq : K → K → Bool) (es : List (K × V)) (e : K × V) (new : List (K × V)) → All Both es → Both e → PutsAnywhere eq es e new → All Both new
  anywhere-kept eq es e new all h (distinct, put) = by (lookup (eq e.0) es) put
    where
      by : (o : Option V) → MatchOption o (IsPermutation (e ∷ es) new) (λ _. new ≡ set_value (eq e.0) es e.1) → All Both new
      by None shuffled = All-permutation Both (e ∷ es) new shuffled (All-cons Both e es h all)
      by (Some v) is = rw is (value-kept (eq e.0) es e.1 all h.1)

module _ {N K V M : Type 0} (B : Beside N K) (C : Beside N V) (s : InputState N) (entries : M → List (K × V)) (r : Result M Error) where
  abbrev HoldsBy : (List (K × V) → K × V → List (K × V) → Type 0) → Type 0
  HoldsBy puts = IfOk r (λ m. CollectsHeld s (pairs_beside B C) puts (entries m))
      → IfOk r (HoldsLentValues s (λ m. lists_beside (pairs_beside B C) (entries m)))

  pub sorted_map_holds : (cmp : K → K → Ordering) → HoldsBy (λ es e fs. fs ≡ insert_entry cmp es e.0 e.1)
  sorted_map_holds cmp = collection_holds (pairs_beside B C) _ s entries r
      (λ q y es e fs all h is. rw is (sorted-kept (λ k. B k q y) (λ v. C v q y) cmp es e all h))

  pub placed_map_holds : (eq : K → K → Bool) → HoldsBy (λ es e fs. fs ≡ placed_maps.insert_entry eq es e.0 e.1)
  placed_map_holds eq = collection_holds (pairs_beside B C) _ s entries r
      (λ q y es e fs all h is. rw is (placed-kept (λ k. B k q y) (λ v. C v q y) eq es e all h))

  pub hash_map_holds : (eq : K → K → Bool) → HoldsBy (λ es e fs. PutsAnywhere eq es e fs)
  hash_map_holds eq = collection_holds (pairs_beside B C) _ s entries r (λ q y es e fs all h put. anywhere-kept (λ k. B k q y)
      (λ v. C v q y) eq es e fs all h put)

pub ruleset lent = (holds_nothing, some_holds, none_holds, seen_holds, pair_holds, success_holds, failure_holds)
