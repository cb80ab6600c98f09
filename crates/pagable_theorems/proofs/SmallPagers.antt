-- A pager with few handles and nodes satisfies the invariant, by facts about its first numbers that compute.
use Rattle.pagable_pager_spec.specs.{
  Basics.is_eager,
  Cascade.{Falls, IsLeast, MustList, fallen, is_keyed, loses_value, owned_outside},
  Kinds.{is_at, is_loose, is_pin, is_share, is_shared, sharing},
  Pager.{EventHolds, HoldsItsNodes, IsHandleBefore, MayOwnLoad},
  World.{Root, is_here, of_key, type_at},
}
use Rattle.pagable_theorems.proofs.{
  CascadeWitness.within-self,
  HandlesKept.good,
  Trees.sum-zero,
  Words.{Alike, Among, ArcRef, Blob, Bool, Core, Event, HandleRow, IsPagerWhole, List, None, Ok, OpenLoad, Option, Owner, PagerState, Some, Written, and_parts},
  Words.{ap, arith, basics, cases_lt, false, held, inl, inr, is_handle, is_owned_by, is_owner, is_some, length, nat_eq, not, of_cell, one, owner_value, pins},
  Words.{references_fault, refl, row_at, rules, subst, suc, sym, times, true, updated, ℕ, [], ◌&&◌, ◌<◌, ◌==◌, ◌∷◌, ◌≡◌, ◌≤◌},
}
use Rattle.pagable_theorems.specs.{SmallWorlds.no_work, Witness.{Sample, machine, sample, value_at}}
use Rattle.std.proofs.{Common.All, lemmas.{Bool.{agree_below, agree_below_at}, List.Kept.AllPairs-cons}}
use Rattle.std.specs.{List.{AllByRecursion as Each, AllPairs}, Prelude.{IfSome, nat_le, nat_lt}}

-- what holds of what there is
of-some : {X : Type 0} (P : X → Type 0) {x : Option X} {y : X} → IfSome x P → x ≡ Some y → P y
of-some P {x} {y} h is = subst (λ o. IfSome o P) is h

each-among : {X : Type 0} (P : X → Type 0) (xs : List X) (x : X) → Each P xs → Among xs x → P x
each-among P (y ∷ ys) x h (suc i, is) = each-among P ys x h.1 (i, is)
each-among x0 x1 x2 x3 x4 = grind (basics, of-some)

none-pass : {X : Type 0} (P : X → Type 0) (q : X → Bool) (xs : List X) → Each P xs → ((x : X) → P x → q x ≡ false) → times q xs ≡ 0
none-pass P q xs all h = sum-zero (λ x. one (q x)) xs (λ x among. ap one (h x (each-among P xs x all among)))

-- what holds of the first numbers and past them holds of all
by-four : (P : ℕ → Type 0) → P 0 × P 1 × P 2 × P 3 → ((n : ℕ) → 3 < n → P n) → (n : ℕ) → P n
by-four x0 h past x3 = grind basics

by-number : (k : ℕ) (f g : ℕ → Bool) → agree_below f g (suc k) ≡ true → ((n : ℕ) → k < n → f n ≡ g n) → (n : ℕ) → f n ≡ g n
by-number k f g ok past n = elim (cases_lt k n) [ inl lt ↦ past n lt | inr le ↦ agree_below_at f g (suc k) n ok (omega arith) ]

pub updated-past : {X : Type 0} (k m : ℕ) (x d : X) (f : ℕ → X) → m ≤ k → ((n : ℕ) → k < n → f n ≡ d) → (n : ℕ) → k < n → updated m x f n ≡ d
updated-past k m x d f le past n lt = let a : (n == m) ≡ false = grind basics in rw a (past n lt)

-- of the nodes up to 3, not shared, and owned by the values of these or by one who isn't the list
abbrev pub OwnerLow : Owner → Type 0
OwnerLow (Owner.Value n) = nat_le n.0 3 ≡ true
OwnerLow Owner.List = ⊥
OwnerLow owner = Unit {0}

abbrev pub RowLow : HandleRow → Type 0
RowLow h = (nat_le h.node.0 3 ≡ true) × (is_shared h.mode ≡ false) × OwnerLow h.owner

abbrev pub IsLow : Core → Type 0
IsLow w = Each RowLow w.rows

module _ (rows : List HandleRow) (low : Each RowLow rows) where
  held-past : (n : ℕ) → 3 < n → held n rows ≡ 0
  held-past n lt = none-pass RowLow (is_at n) rows low (λ h ok. grind (basics, ok.0))

  unshared : (n : ℕ) → sharing n rows ≡ 0
  unshared n = none-pass RowLow (is_share n) rows low (λ h ok. grind (basics, ok.1))

  owner-past : (n : ℕ) → 3 < n → (o : Owner) → OwnerLow o → is_owner (owner_value n) o ≡ false
  owner-past n lt x2 ok = grind basics

pub alike-self : (w : Core) → Alike w w
alike-self w = grind (basics, and_parts)

-- no cell without a key loses its last pin
abbrev pub lists_none : Core → Core → (ℕ → Bool) → ℕ → Bool
lists_none before w gone n = nat_lt 0 (pins n before.rows) && (nat_eq (pins n (fallen w gone []).rows) 0 && not (is_keyed w n))

-- a value that goes owns a handle that isn't given
abbrev pub takes_more : Core → (ℕ → Bool) → ℕ → Bool
takes_more w given n = loses_value w.rows (is_keyed w) [] given n && nat_lt 0 (owned_outside w.rows given n)

pub falls-so : (before w : Core) (given gone : ℕ → Bool) → IsLow before → nat_le w.last.handle 9 ≡ true → agree_below (lists_none before w gone) (λ n. false) 4
    ≡ true
    → IsLeast w.rows (is_keyed w) [] given gone → Falls before w given (Ok tt) (fallen w gone [])
falls-so before w given gone low few none least =
    let no-must : (n : ℕ) → MustList before w (fallen w gone []) n → ⊥ = λ n must.
    let is_none = by-number 3 (lists_none before w gone) (λ n. false) none (λ n lt.
    let a = none-pass RowLow (is_pin n) before.rows low (λ h ok. grind (basics, ok.0)) in rw a refl) n in
    grind (basics, must.pinned, must.unpinned, must.unkeyed) in
    search (arith, least, no-must, alike-self)

-- the given handles fall alone, if no value that goes owns another
abbrev pub AreAlone : Core → Core → (ℕ → Bool) → Type 0
AreAlone before w given =
    IsLow before × IsLow w × (nat_le w.last.handle 9 ≡ true) × (agree_below (lists_none before w given) (λ n. false) 4 ≡ true)
    × (agree_below (takes_more w given) (λ n. false) 4 ≡ true)

pub falls-alone : (before w : Core) (given : ℕ → Bool) → AreAlone before w given → Falls before w given (Ok tt) (fallen w given [])
falls-alone before w given (low_before, low, few, none, ok) = falls-so before w given given low_before few none (record {
  holds = within-self w.rows (is_keyed w) [] given;
  closed = λ n goes. let a = by-number 3 (takes_more w given) (λ n. false) ok
      (λ n lt. let none : owned_outside w.rows given n ≡ 0 = search (rules, none-pass, owner-past) in grind (basics, none)) n in
      grind basics;
  least = λ t holds closed. holds;
})

-- no cell past the node 3, no load past 3, no worker past 1; and the cache knows the node 3 at most, by the kind 4 and the key 8
abbrev pub Few : Core → Type 0
Few w = ((n : ℕ) → 3 < n → w.cells n ≡ None) × ((l : ℕ) → 3 < l → w.loads l ≡ None) × ((v : ℕ) → 1 < v → w.workers v ≡ false)
    × ((kind key n : ℕ) → w.cache kind key ≡ Some n → (kind ≡ 4) × (key ≡ 8) × (n ≡ 3))

pub none-cached : (kind key n : ℕ) → ◌≡◌ {A = Option ℕ} None (Some n) → (kind ≡ 4) × (key ≡ 8) × (n ≡ 3)
none-cached kind key n is = absurd (cc)

-- the handles stand in the order of their numbers, which are above this one
abbrev pub Rises : ℕ → List HandleRow → Type 0
Rises low [] = Unit {0}
Rises low (h ∷ hs) = (nat_lt low h.number.0 ≡ true) × Rises h.number.0 hs

ordered : (low : ℕ) (rows : List HandleRow) → Rises low rows → AllPairs IsHandleBefore rows × All (λ (h : HandleRow). low < h.number.0) rows
ordered low [] ok = (λ i j d lt within. absurd (omega arith), λ j d within. absurd (omega arith))
ordered low (h ∷ hs) (first, more) = let rest = ordered h.number.0 hs more in
    (AllPairs-cons IsHandleBefore h hs rest.1 rest.0, let others = rest.1 in λ i d within. grind basics)

-- a handle's number was given, and its owner is there
abbrev pub OwnerThere : Core → Owner → Type 0
OwnerThere w (Owner.Load l) = is_some (w.loads l.0) ≡ true
OwnerThere w (Owner.Worker v) = w.workers v.0 ≡ true
OwnerThere w owner = Unit {0}

abbrev pub RowThere : Core → HandleRow → Type 0
RowThere w h = (nat_lt 0 h.number.0 ≡ true) × (nat_le h.number.0 w.last.handle ≡ true) × OwnerThere w h.owner

abbrev pub RootFits : Core → Root → Type 0
RootFits w (of_cell node t h) = IfSome (type_at w node.0) (λ u. u ≡ t) × IfSome (row_at w h)
    (λ (row : HandleRow). (row.node ≡ node) × (is_loose row.mode ≡ true))
    × (nat_le h.0 w.last.handle ≡ true) × (nat_le node.0 w.last.node ≡ true)
RootFits w of_key = Unit {0}

abbrev pub LoadFits : Core → ℕ → OpenLoad → Type 0
LoadFits w l load = (nat_lt 0 l ≡ true) × (nat_le l w.last.load ≡ true) × (load.owner ≡ Owner.Caller) × RootFits w load.root

-- how often a value refers to a handle, and the value of the node owns it; which is the same
abbrev pub refers : Sample → ℕ → ℕ
refers x q = times (λ (r : ArcRef). r.handle.0 == q) (sample.references x)

abbrev pub owns : Core → ℕ → ℕ → ℕ
owns w n q = times (λ h. is_handle q h && is_owned_by (owner_value n) h) w.rows

abbrev pub ValueFits : Core → ℕ → Option Sample → Type 0
ValueFits w n None = times (is_owned_by (owner_value n)) w.rows ≡ 0
ValueFits w n (Some x) = (type_at w n ≡ Some (sample.node_type x)) × (agree_below (λ q. nat_eq (refers x q) (owns w n q)) (λ q. true) 10 ≡ true)
    × Each (λ (r : ArcRef). nat_le r.handle.0 9 ≡ true) (sample.references x) × (references_fault w (owner_value n) [] (sample.references x) ≡ None)

-- what is asked of the node and of the load of this number
abbrev pub NumberFits : Core → List (Option Sample) → ℕ → Type 0
NumberFits w vs n = ((is_some (w.cells n) && not (nat_lt 0 n && nat_le n w.last.node)) ≡ false) × (is_some (w.cells n) ≡ nat_lt 0 (held n w.rows))
    × (is_some (value_at vs n) ≡ (is_some (w.cells n) && is_here w n)) × ValueFits w n (value_at vs n) × IfSome (w.loads n) (LoadFits w n)

-- it refers to nothing that is read together with it
abbrev pub IsLoose : Sample → Type 0
IsLoose None = Unit {0}
IsLoose (Some r) = is_eager r.kind.0 ≡ false

-- all that is asked of a pager with few of each: of its handles, of it as a whole, and of each number
pub record Stands (w : Core) (vs : List (Option Sample)) : Type 0 where
  pub short : nat_le (length vs) 4 ≡ true
  pub list : w.list ≡ []
  pub stands_open : w.closed ≡ false
  pub room : (nat_le w.last.handle 9 ≡ true) × (nat_le w.last.node 3 ≡ true) × (nat_le w.last.load 3 ≡ true) × (nat_le (length w.rows) w.places.handles ≡ true)
  pub workers : (w.workers 0 ≡ false) × ((w.workers 1 && not (nat_le 1 w.last.worker)) ≡ false)
  pub loose : Each (λ (o : Option Sample). IfSome o IsLoose) vs
  pub third : IfSome (type_at w 3) (λ t. t ≡ 1) × IfSome (w.cache 4 8) (λ n. nat_le n w.last.node ≡ true)

pub record Passes (w : Core) (vs : List (Option Sample)) : Type 0 where
  pub handles : IsLow w × Rises 0 w.rows × Each (RowThere w) w.rows
  pub stands : Stands w vs
  pub numbers : NumberFits w vs 0 × NumberFits w vs 1 × NumberFits w vs 2 × NumberFits w vs 3

past-end : (vs : List (Option Sample)) (n : ℕ) → length vs ≤ n → value_at vs n ≡ None
past-end (x ∷ xs) (suc n) few = past-end xs n (omega arith)
past-end x0 x1 few = grind basics

pub loose-at : (vs : List (Option Sample)) (n : ℕ) (x : Sample) → Each (λ (o : Option Sample). IfSome o IsLoose) vs → value_at vs n ≡ Some x → IsLoose x
loose-at (o ∷ os) (suc n) x (own, rest) is = loose-at os n x rest is
loose-at x0 x1 x2 x3 x4 = grind basics

-- so there is nothing that it would have to hold
pub loose-holds : (s : PagerState Sample (Unit {0})) (event : Event Sample Blob Written) (x : Sample) → IsLoose x → EventHolds sample s event x
loose-holds s event x loose = by event
  where
    nothing-eager : HoldsItsNodes sample s x
    nothing-eager r among eager = grind (basics, each-among)

    by : (event : Event Sample Blob Written) → EventHolds sample s event x
    by (Event.LoadStep l) = nothing-eager
    by (Event.WorkerStep k) = nothing-eager
    by event = tt

module _ (w : Core) (vs : List (Option Sample)) (few : Few w) (p : Passes w vs) where
  number : (n : ℕ) → NumberFits w vs n
  number = by-four (NumberFits w vs) p.numbers (λ n lt. grind (basics, past-end, held-past, none-pass, owner-past))

  row : (h : HandleRow) → Among w.rows h → RowThere w h
  row h among = each-among (RowThere w) w.rows h p.handles.2 among

  low : (h : HandleRow) → Among w.rows h → RowLow h
  low h among = each-among RowLow w.rows h p.handles.0 among

  load : (l : ℕ) (load : OpenLoad) → w.loads l ≡ Some load → LoadFits w l load
  load l x is = of-some (LoadFits w l) (number l).4 is

  value : (n : ℕ) (x : Sample) → value_at vs n ≡ Some x → ValueFits w n (Some x)
  value n x is = subst (λ o. ValueFits w n o) is (number n).3

  inside : (n : ℕ) (x : Sample) (q : ℕ) → value_at vs n ≡ Some x → refers x q ≡ owns w n q
  inside n x q is = let a = by-number 9 (λ q. nat_eq (refers x q) (owns w n q)) (λ q. true) (value n x is).1
      (λ q lt. grind (basics, none-pass, (value n x is).2, p.handles.2)) q in
      grind basics

  pub whole-so : IsPagerWhole sample (machine w vs no_work).pager
  whole-so =
      let (few_handles, few_nodes, few_loads, enough) = p.stands.room in
      record {
        whole = record {
          handles = record {
            ordered = (ordered 0 w.rows p.handles.1).0;
            numbered = λ h among. let (a, b, c) = row h among in (grind basics, grind basics);
            nodes_numbered = grind (basics, number, and_parts);
            within = grind basics;
            live = λ n. (number n).1;
            uniform = λ n. inl (unshared w.rows p.handles.0 n);
            unkeyed = λ n some. absurd (omega (arith, unshared w.rows p.handles.0 n));
            places = (grind basics, let e : length w.list ≡ 0 = ap length p.stands.list in omega arith);
          };
          owners_there = record {
            listed = λ q. subst (λ hs. times (λ h. h.0 == q) hs ≡ times (λ h. is_handle q h && is_owned_by Owner.List h) w.rows) (sym p.stands.list)
                (sym (grind (basics, none-pass, low)));
            waiting = λ h among is. absurd (subst (λ o. OwnerLow o) is (low h among).2);
            loads = λ h l among is. subst (λ o. OwnerThere w o) is (row h among).2;
            workers = λ h v among is. subst (λ o. OwnerThere w o) is (row h among).2;
          };
          loads = record {
            numbered = λ l some. grind basics;
            owned = λ l x is. subst (λ o. MayOwnLoad w o) (sym (load l x is).2) tt;
            roots = λ l x node t h is root. grind (basics, of-some, subst (λ r. RootFits w r) root (load l x is).3);
          };
          cache = λ kind key n is. grind (basics, low, few.3 kind key n is, p.stands.third);
          workers_numbered = grind basics;
          shut = λ closed. absurd (cc);
        };
        counted = λ n. refl;
        valued = λ n. (number n).2;
        typed = λ n x is. (value n x is).0;
        owns_references = λ n x q is. inside n x q is;
        owns_nothing = λ n is. subst (λ o. ValueFits w n o) is (number n).3;
        references = λ n x r is among. good w (owner_value n) [] (sample.references x) (value n x is).3 r among;
      }
