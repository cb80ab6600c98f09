-- A pager's invariant about values, row by row: a value owns the row of each handle that it refers to, and no other; a node without a value owns nothing. And
-- the calls that neither bring nor drop a value.
use Rattle.pagable_pager_spec.specs.{
  Basics.{Among, ArcRef, Error, HandleNumber, Kind, LoadNumber, NodeNumber, SameAt, WorkerNumber, changed, if_there, is_shared_kind, one, times},
  Calls.{Asked, CloneCall, LoosenCall, PinCall, RecallCall, TakeCall, is_named_by, moved, row_of, with_cached, with_handle, with_known, with_mode},
  Cascade.only_handle,
  Events.{with_entry_taken, with_worker},
  Kinds.{find_row, is_at, is_handle, is_in_memory, is_owned_by, is_owner, is_pin, is_pinning, is_share, is_shared, mode_of, owner_value, pins},
  LoadCalls.{BeginCall, BeginKeyCall, is_owned_in},
  Pager.{IsPagerWhole, IsWhole, PagerState},
  Refusals.{IsReference, Owns},
  World.{Alike, Core, Last, Values, is_here, key_at, row_at, type_at, usable},
  declared.{handle_row.{HandleRow.HandleRow, Owner.Owner}, mode.Mode.Mode, pinning.{Beginning.Beginning, Pinning.Pinning}},
}
use Rattle.pagable_theorems.proofs.{
  Decoding.among-either,
  FormsOfTrees.{held-of, owned-once},
  HandlesKept.{NotValues, Stands, among-changed, among-found, found-after, found-number, only-one, same-owner, stands-whole},
  LoadProgress.row-pins,
  StepBounds.{entered-of, found},
  Trees.{at-most-sum, counted, one-true, same-number, self-number, sum-zero},
  Words.basics,
}
use Rattle.std.proofs.{
  Common.{Bool, Err, List, None, Ok, Option, Some, ap, arith, false, if◌then◌else◌, length, map, refl, subst, suc, sum_by, sym, true, ℕ, [], ◌&&◌, ◌+◌, ◌<◌},
  Common.{◌==◌, ◌∙◌, ◌∷◌, ◌≡◌, ◌≤◌},
  lemmas.{Bool.{and_parts, false_from_ne_true}, List.Sums.{sum_by-cons, sum_by_push}, Option.slice_get_within},
}
use Rattle.std.specs.Prelude.{Result, is_some, nat_lt, not, slice_get}
use Rattle.pagable_theorems.proofs.Effects as effects

-- the reference names the one row of a handle that the node's value owns
pub record Refers (w : Core) (n : ℕ) (r : ArcRef) : Type 0 where
  pub is : IsReference w (owner_value n) r
  pub stands : Stands w.last.handle w.rows r.handle.0 is.row

-- the value of the node is of its type, and owns what it refers to
pub record Has {N : Type 0} (v : Values N) (w : Core) (n : ℕ) (x : N) : Type 0 where
  pub typed : type_at w n ≡ Some (v.node_type x)
  pub names : (r : ArcRef) → Among (v.references x) r → Refers w n r
  pub once : (q : ℕ) → times (λ (r : ArcRef). r.handle.0 == q) (v.references x) ≤ 1
  pub owned : (h : HandleRow) → Among w.rows h → h.owner ≡ owner_value n → (r : ArcRef) × Among (v.references x) r × (r.handle.0 ≡ h.number.0)

-- what is so of a node with this value, or without one
abbrev pub At : {N : Type 0} → Values N → Core → ℕ → Option N → Type 0
At v w n (Some x) = Has v w n x
At v w n None = (h : HandleRow) → Among w.rows h → h.owner ≡ owner_value n → ⊥

-- whether a live node has its value in memory
abbrev pub holds_value : Core → ℕ → Bool
holds_value w n = is_some (w.cells n) && is_here w n

pub same-value : {n m : ℕ} (o : Owner) → o ≡ owner_value n → o ≡ owner_value m → m ≡ n
same-value {n} {m} o a b = same-number m n (sym (ap (is_owner (owner_value n)) b) ∙ (ap (is_owner (owner_value n)) a ∙ self-number n))

pub among-named : (rs : List ArcRef) (r : ArcRef) → Among rs r → is_named_by rs r.handle.0 ≡ true
unfolding is_named_by
among-named (x ∷ xs) r (suc i, is) = grind (basics, among-named xs r)
among-named x0 r x2 = grind basics

-- what is counted is there, and what isn't there isn't counted
some-there : {X : Type 0} (test : X → Bool) (xs : List X) (x : X) → Among xs x → test x ≡ true → 0 < times test xs
some-there test xs x among is = grind (basics, at-most-sum (λ y. one (test y)) xs x among)

there-some : {X : Type 0} (test : X → Bool) (xs : List X) → 0 < times test xs → (x : X) × Among xs x × (test x ≡ true)
there-some test xs some = let c = counted (λ y. one (test y)) xs some in (c.0, c.1, one-true _ c.2)

-- the handle is this one, and the node's value owns it
abbrev owns : ℕ → ℕ → HandleRow → Bool
owns n q h = is_handle q h && is_owned_by (owner_value n) h

pub owned-test : (n : ℕ) (o : Owner) → o ≡ owner_value n → is_owner (owner_value n) o ≡ true
owned-test n o is = ap (is_owner (owner_value n)) is ∙ self-number n

owns-test : (n q : ℕ) (h : HandleRow) → h.number.0 ≡ q → h.owner ≡ owner_value n → owns n q h ≡ true
owns-test n q h number own = let a = ap (λ m. m == q) number ∙ self-number q in let b = owned-test n h.owner own in rw (a, b) refl

-- ---- a pager's type says that

module _ {N E : Type 0} {v : Values N} {s : PagerState N E} (is : IsPagerWhole v s) where
  pub sits : (n : ℕ) → At v s.core n (s.values n)
  sits n = at (s.values n) refl
    where
      at : (o : Option N) → s.values n ≡ o → At v s.core n o
      at None e = λ h among own.
          absurd (omega (arith, is.owns_nothing n e, some-there (is_owned_by (owner_value n)) s.core.rows h among (owned-test n h.owner own)))
      at (Some x) e = record {
        typed = is.typed n x e;
        names = λ r among. let a = is.references n x r e among in record { is = a; stands = stands-whole is.whole.handles r.handle.0 a.row a.live };
        once = λ q. subst (λ k. k ≤ 1) (sym (is.owns_references n x q e)) (owned-once is.whole.handles (owner_value n) q);
        owned = λ h among own.
            let some = some-there (owns n h.number.0) s.core.rows h among (owns-test n h.number.0 h refl own) in
            let c = there-some (λ (r : ArcRef). r.handle.0 == h.number.0) (v.references x)
            (subst (λ k. 0 < k) (sym (is.owns_references n x h.number.0 e)) some) in
            (c.0, c.1, same-number _ _ c.2);
      }

pub settled : {N E : Type 0} {v : Values N} (s : PagerState N E) → ((n : ℕ) → At v s.core n (s.values n))
    → ((n : ℕ) → is_some (s.values n) ≡ holds_value s.core n)
    → ((n : ℕ) → s.counts n ≡ pins n s.core.rows) → IsWhole s.core → IsPagerWhole v s
settled {N} {v = v} s all valued counts whole = record {
  whole = whole;
  counted = counts;
  valued = valued;
  typed = λ n x e. (has n x e).typed;
  owns_references = λ n x q e. inside n x q (has n x e);
  owns_nothing = λ n e. sum-zero (λ h. one (is_owned_by (owner_value n) h)) s.core.rows (λ h among.
      ap one (false_from_ne_true (is_owned_by (owner_value n) h) (λ own. subst (At v s.core n) e (all n) h among (same-owner (owner_value n) h.owner own))));
  references = λ n x r e among. ((has n x e).names r among).is;
}
  where
    has : (n : ℕ) (x : N) → s.values n ≡ Some x → Has v s.core n x
    has n x e = subst (At v s.core n) e (all n)

    inside : (n : ℕ) (x : N) (q : ℕ) → Has v s.core n x → times (λ (r : ArcRef). r.handle.0 == q) (v.references x) ≡ times (owns n q) s.core.rows
    inside n x q a =
        let up : 0 < times (λ (r : ArcRef). r.handle.0 == q) (v.references x) → 0 < times (owns n q) s.core.rows = λ some.
        let c = there-some (λ (r : ArcRef). r.handle.0 == q) (v.references x) some in
        let is = (a.names c.0 c.1).is in
        let number = found-number c.0.handle.0 s.core.rows is.row is.live ∙ same-number _ _ c.2 in
        some-there (owns n q) s.core.rows is.row (among-found c.0.handle.0 s.core.rows is.row is.live) (owns-test n q is.row number is.owned) in
        let down : 0 < times (owns n q) s.core.rows → 0 < times (λ (r : ArcRef). r.handle.0 == q) (v.references x) = λ some.
        let c = there-some (owns n q) s.core.rows some in
        let both = and_parts (is_handle q c.0) (is_owned_by (owner_value n) c.0) c.2 in
        let named = a.owned c.0 c.1 (same-owner (owner_value n) c.0.owner both.1) in
        some-there (λ (r : ArcRef). r.handle.0 == q) (v.references x) named.0 named.1 (ap (λ m. m == q) named.2 ∙ both.0) in
        let le = a.once q in let few = owned-once whole.handles (owner_value n) q in grind arith

-- what the value of the node owns stays as it is, and nodes their types
pub record OwnsAlike (n : ℕ) (w m : Core) : Type 0 where
  pub typed : (p t : ℕ) → type_at w p ≡ Some t → type_at m p ≡ Some t
  pub spares : effects.Spares (owner_value n) w m
  pub owned : (h : HandleRow) → Among m.rows h → h.owner ≡ owner_value n → Among w.rows h

-- no value comes or goes
pub record Spares (w w' : Core) : Type 0 where
  pub owns : (n : ℕ) → OwnsAlike n w w'
  pub holds : (n : ℕ) → holds_value w' n ≡ holds_value w n

-- no value comes
pub record Keeps (w m : Core) : Type 0 where
  pub owns : (n : ℕ) → OwnsAlike n w m
  pub held : (n : ℕ) → holds_value m n ≡ true → holds_value w n ≡ true

-- no value owns such a handle
abbrev pub AreFree : Core → (ℕ → Bool) → Type 0
AreFree w given = (h : HandleRow) → Among w.rows h → given h.number.0 ≡ true → NotValues h.owner

-- nothing is listed or known once the storage is closed
abbrev pub IsShut : Core → Type 0
IsShut w = w.closed ≡ true → (w.list ≡ []) × ((kind key : ℕ) → w.cache kind key ≡ None)

-- right counts, and a world that is whole where nothing is listed or known once the storage is closed
pub record IsRight {N E : Type 0} (s' : PagerState N E) : Type 0 where
  pub counted : (n : ℕ) → s'.counts n ≡ pins n s'.core.rows
  pub whole : IsShut s'.core → IsWhole s'.core

-- what a call leaves: a value stays exactly where its node is still in memory
pub record Leaves {N E : Type 0} (values : ℕ → Option N) (s' : PagerState N E) : Type 0 where
  pub swept : (n : ℕ) → s'.values n ≡ (if holds_value s'.core n then values n else None)
  pub right : IsRight s'

pub spares-keeps : {w m : Core} → Spares w m → Keeps w m
spares-keeps s = record { owns = s.owns; held = λ n is. sym (s.holds n) ∙ is }

module _ {n : ℕ} where
  pub owns-then : {w m w' : Core} → OwnsAlike n w m → OwnsAlike n m w' → OwnsAlike n w w'
  owns-then a b = let spares = effects.spares-then (owner_value n) a.spares b.spares in search (a.typed, b.typed, spares, a.owned, b.owned)

  pub owns-same : {w m : Core} → m.rows ≡ w.rows → m.last.handle ≡ w.last.handle → ((p t : ℕ) → type_at w p ≡ Some t → type_at m p ≡ Some t) → OwnsAlike n w m
  owns-same {w} {m} rows last typed = grind basics

  pub sits-on : {N : Type 0} (v : Values N) {w m : Core} → OwnsAlike n w m → (o : Option N) → At v w n o → At v m n o
  sits-on v k None a = λ h among own. a h (k.owned h among own) own
  sits-on v k (Some x) a = record {
    typed = k.typed n _ a.typed;
    names = λ r among.
        let b = (a.names r among).is in
        let stands = k.spares.each r.handle.0 b.row b.owned (a.names r among).stands in
        record { is = record { row = b.row; live = stands.live; at = b.at; owned = b.owned; fits = b.fits; typed = k.typed _ _ b.typed }; stands = stands };
    once = a.once;
    owned = λ h among own. a.owned h (k.owned h among own) own;
  }

pub spares-then : {w m w' : Core} → Spares w m → Spares m w' → Spares w w'
spares-then a b = record { owns = λ n. owns-then (a.owns n) (b.owns n); holds = λ n. b.holds n ∙ a.holds n }

pub spares-same : {w w' : Core} → w'.rows ≡ w.rows → SameAt w.cells w'.cells → w'.last.handle ≡ w.last.handle → Spares w w'
spares-same {w} {w'} rows cells last = grind (basics, owns-same)

-- ---- nothing comes to the list or the cache once the storage is closed

pub shut-alike : {w w' : Core} → Alike w w' → IsShut w → IsShut w'
shut-alike {w} {w'} a shut closed = grind basics

pub record Rests (w w' : Core) : Type 0 where
  pub spares : Spares w w'
  pub shut : IsShut w'

pub rests-then : {w m w' : Core} → Spares w m → Alike m w' → IsShut m → Rests w w'
rests-then spares a shut = record { spares = spares-then spares (spares-same a.rows a.cells (ap (λ (l : Last). l.handle) a.last)); shut = shut-alike a shut }

pub unmoved : {w w' : Core} → Alike w w' → IsShut w → Rests w w'
unmoved a shut = rests-then (spares-same refl (λ n. refl) refl) a shut

-- the cache may learn a node
pub rests-cached : {m w' : Core} (kind : Kind) (key : ℕ) (n : NodeNumber) (b : Bool) → Alike (if b then m else with_cached m kind key n) w' → m.closed ≡ b
    → IsShut m → Rests m w'
rests-cached kind key n x3 a e shut = grind (basics, unmoved, rests-then, spares-same)

pub spared : {N E : Type 0} {v : Values N} {s s' : PagerState N E} → IsPagerWhole v s → Rests s.core s'.core → ((n : ℕ) → s'.values n ≡ s.values n) → IsRight s'
    → IsPagerWhole v s'
spared {v = v} {s} {s'} is rests same right =
    settled s' (λ n. subst (At v s'.core n) (sym (same n)) (sits-on v (rests.spares.owns n) (s.values n) (sits is n)))
    (λ n. ap is_some (same n) ∙ is.valued n ∙ sym (rests.spares.holds n))
    right.counted (right.whole rests.shut)

pub stayed : {N E : Type 0} {v : Values N} {s s' : PagerState N E} → IsPagerWhole v s → Rests s.core s'.core → Leaves s.values s' → IsPagerWhole v s'
stayed {N} {v = v} {s} {s'} is rests left = spared is rests (λ n. left.swept n ∙ (grind (basics, is.valued n ∙ sym (rests.spares.holds n))))
    left.right

sum-mapped : {X : Type 0} (f : X → X) (g h : X → ℕ) (xs : List X) → ((x : X) → Among xs x → g (f x) ≡ h x) → sum_by g (map f xs) ≡ sum_by h xs
sum-mapped f g h [] each = refl
sum-mapped f g h (x ∷ xs) each = grind (basics, sum_by-cons, map, sum-mapped f g h xs (λ y among. each y (suc among.0, among.1)))

pub pinned-here : (w : Core) (n : ℕ) → 0 < pins n w.rows → is_here w n ≡ true
pinned-here w n pinned = let some : nat_lt 0 (pins n w.rows) ≡ true = grind basics in rw some refl

pub row-here : (w : Core) (h : HandleNumber) (row : HandleRow) → row_at w h ≡ Some row → is_pinning row.mode ≡ true → is_here w row.node.0 ≡ true
row-here w h row live pinning = pinned-here w row.node.0 (row-pins w h row live pinning)

module _ (w : Core) (node : NodeNumber) (mode : Mode) (me : Owner) (free : NotValues me) where
  pub owns-handle : (n : ℕ) → OwnsAlike n w (with_handle w node mode me)
  owns-handle n = grind (basics, effects.spares-handle, among-either, only-one)

  pub spares-handle : (is_pinning mode ≡ true → is_here w node.0 ≡ true) → Spares w (with_handle w node mode me)
  spares-handle may = record {
    owns = owns-handle;
    holds = λ n. ap (λ p. is_some (w.cells n) && is_in_memory p (key_at w n))
        (sum_by_push (λ h. one (is_pin n h)) w.rows (row_of (w.last.handle + 1) node mode me))
        ∙ (grind (basics, same-number node.0 n));
  }

-- those that change aren't this value's, before or afterwards
module _ (w : Core) (test : HandleRow → Bool) (f : HandleRow → HandleRow) (numbers : (h : HandleRow) → (f h).number ≡ h.number) (n : ℕ)
    (free : (h : HandleRow) → Among w.rows h → test h ≡ true → (h.owner ≡ owner_value n → ⊥) × ((f h).owner ≡ owner_value n → ⊥)) where
  pub owns-changed : {list : List HandleNumber} → OwnsAlike n w (record w { rows = changed test f w.rows; list = list })
  owns-changed = record {
    typed = λ p t is. is;
    spares = record {
      each = λ q row own s. effects.unchanged (owner_value n) test f numbers
          (false_from_ne_true (test row) (λ is. (free row (among-found q w.rows row s.live) is).0 own)) s;
    };
    owned = λ h among own.
        let a = among-changed (λ x. if test x then f x else x) w.rows h among in
        let no = free a.0 a.1 in
        let e : a.0 ≡ h = grind basics in
        subst (Among w.rows) e a.1;
  }

pub moved-pins : (rows : List HandleRow) (set : ℕ → Bool) (owner : Owner) (n : ℕ) → pins n (moved set owner rows) ≡ pins n rows
moved-pins rows set owner n = grind (basics, sum-mapped)

-- handles that aren't values' move to another who is none
pub spares-moved : (w : Core) (set : ℕ → Bool) (owner : Owner) {list : List HandleNumber} → NotValues owner → AreFree w set
    → Spares w (record w { rows = moved set owner w.rows; list = list })
spares-moved w set owner free before = search (owns-changed, moved-pins)

-- the one row of a handle that isn't a value's takes another mode
module _ (w : Core) (h : HandleNumber) (mode : Mode) (row : HandleRow) (stands : Stands w.last.handle w.rows h.0 row) where
  abbrev to : HandleRow → HandleRow
  to x = record x { mode = mode }

  is-row : (x : HandleRow) → Among w.rows x → is_handle h.0 x ≡ true → x ≡ row
  is-row x among is = stands.only x among (same-number _ _ is)

  pub mode-owns : NotValues row.owner → (n : ℕ) → OwnsAlike n w (with_mode w h mode)
  mode-owns free n = owns-changed w (is_handle h.0) to (λ x. refl) n (λ x among is. let f = subst (λ (y : HandleRow). NotValues y.owner)
      (sym (is-row x among is)) free (record { 0 = n }) in (f, f))

  pub mode-others : (n : ℕ) → (row.node.0 == n) ≡ false → pins n (with_mode w h mode).rows ≡ pins n w.rows
  mode-others n other = sum-mapped (λ x. if is_handle h.0 x then to x else x) (λ x. one (is_pin n x)) (λ x. one (is_pin n x)) w.rows
      (λ x among. (grind (basics, is-row x among)))

  pub mode-here : is_pinning mode ≡ true → is_here (with_mode w h mode) row.node.0 ≡ true
  mode-here pinning =
      let number : is_handle h.0 row ≡ true = ap (λ n. n == h.0) (found-number h.0 w.rows row stands.live) ∙ self-number h.0 in
      row-here (with_mode w h mode) h (to row) (found-after (is_handle h.0) to (λ x. refl) h.0 w.rows row stands.live
      ∙ ap (λ b. Some (if b then to row else row)) number) pinning

  spares-mode : NotValues row.owner → is_pinning mode ≡ true → is_here w row.node.0 ≡ true → Spares w (with_mode w h mode)
  spares-mode free pinning here = record {
    owns = mode-owns free;
    holds = λ n. (grind (basics, mode-here pinning, mode-others n, same-number row.node.0 n));
  }

-- ---- calls by which no value comes or goes

pub not-load : (l : LoadNumber) → NotValues (Owner.Load l)
not-load l n e = cc

pub asked : {w w' : Core} → Asked w w' → Spares w w'
asked a = spares-same a.leaves.rows a.leaves.cells (ap (λ (l : Last). l.handle) a.leaves.last)

module _ {w : Core} (whole : IsWhole w) where
  pub begins : {w' : Core} {me : Owner} {h : HandleNumber} (r : Result Beginning Error) → BeginCall w me h r w' → Rests w w'
  begins (Ok (Beginning.Load l key)) c =
      let row = c.begins.0 in
      let clone = spares-handle w row.node Mode.LooseUnpinned (Owner.Load l) (not-load l) (λ is. absurd (cc)) in
      rests-then (spares-then clone (spares-same refl (λ n. refl) refl)) c.begins.2.4.2 whole.shut
  begins x0 c = grind (basics, unmoved)

  pub begins-key : {w' : Core} {me : Owner} {key : ℕ} (r : Result Beginning Error) → BeginKeyCall w me key r w' → Rests w w'
  begins-key x0 c = grind (basics, rests-then, spares-same, unmoved)

  pub rowed : (given : ℕ → Bool) → ((n : NodeNumber) → effects.Free (Owner.Value n) w given) → AreFree w given
  rowed given free h among is n own = let no = (free n).each h.number.0 h own
      (stands-whole whole.handles h.number.0 h (found whole.handles h.number.0 h among refl)) in cc

  -- handles whose rows pass a test that no value's passes
  pub by-row : (test : HandleRow → Bool) → ((h : HandleRow) (n : NodeNumber) → h.owner ≡ Owner.Value n → test h ≡ false)
      → AreFree w (λ q. if_there test false (find_row q w.rows))
  by-row test none = rowed _ (λ n. record { each = λ q row own s. ap (if_there test false) s.live ∙ none row n own })

  pub load-free : (l : LoadNumber) → AreFree w (is_owned_in w (Owner.Load l))
  load-free l = by-row (is_owned_by (Owner.Load l)) (λ h n own. ap (is_owner (Owner.Load l)) own)

  -- an own handle, and an entry of the list
  pub own-free : {me : Owner} {fits : Mode → Bool} (h : HandleNumber) (row : HandleRow) → NotValues me → Owns w me h fits row → AreFree w (only_handle h)
  own-free h row free owns = rowed (only_handle h) (λ n. effects.other-handle (Owner.Value n) h row (free n) owns)

  pub listed-free : (i : ℕ) (h : HandleNumber) → slice_get w.list i ≡ Some h → AreFree w (only_handle h)
  listed-free i h at = rowed (only_handle h) (λ n. effects.listed-free (Owner.Value n) refl whole.owners_there i h at)

  listed-open : (i : ℕ) (h : HandleNumber) → slice_get w.list i ≡ Some h → w.closed ≡ true → ⊥
  listed-open i h at closed = omega (arith, slice_get_within w.list i h at, ap (λ (hs : List HandleNumber). length hs) (whole.shut closed).0)

  -- a worker comes for an entry, which moves to it
  pub starts-listed : {w' : Core} (i : ℕ) (h : HandleNumber) (v : WorkerNumber) → slice_get w.list i ≡ Some h
      → Alike (with_worker (with_entry_taken w i h v)) w' → Rests w w'
  starts-listed i h v at a =
      rests-then (spares-then {m = with_entry_taken w i h v} (spares-moved w (only_handle h) (Owner.Worker v) (λ n e. cc) (listed-free i h at))
      (spares-same refl (λ n. refl) refl)) a
      (λ e. absurd (listed-open i h at e))

  module _ {me : Owner} (free : NotValues me) where
    pub clones : {w' : Core} {h : HandleNumber} (r : Result HandleNumber Error) → CloneCall w me h r w' → Rests w w'
    clones {h = h} (Ok k) c = let row = c.made.0 in rests-then (spares-handle w row.node row.mode me free (row-here w h row c.made.1)) c.made.3
        whole.shut
    clones (Err e) c = unmoved c.refused.stays whole.shut

    -- a handle of the asker's in a mode that pins
    pub turned : {fits : Mode → Bool} (h : HandleNumber) (row : HandleRow) → Owns w me h fits row → is_here w row.node.0 ≡ true
        → Spares w (with_mode w h Mode.LoosePinned)
    turned h row owns here = spares-mode w h Mode.LoosePinned row (stands-whole whole.handles h.0 row owns.live) (subst NotValues (sym owns.own) free) refl here

    pub pins-it : {w' : Core} {h : HandleNumber} (r : Result Pinning Error) → PinCall w me h r w' → Rests w w'
    pins-it {h = h} (Ok (Pinning.Pinned k)) c =
        let row = c.pins.0 in
        let owns = c.pins.1 in
        let here = mode-here w h Mode.LoosePinned row (stands-whole whole.handles h.0 row owns.live) refl in
        rests-then (spares-then (turned h row owns c.pins.2.0) (spares-handle _ row.node Mode.Pinned me free (λ is. here))) c.pins.2.2 whole.shut
    pins-it x0 c = grind (basics, unmoved)

    pub loosens : {w' : Core} {h : HandleNumber} (r : Result HandleNumber Error) → LoosenCall w me h r w' → Rests w w'
    loosens {h = h} (Ok k) c =
        let row = c.turned.0 in
        let owns = c.turned.1 in
        rests-then (turned h row owns (row-here w h row owns.live (grind (basics, owns.as_asked)))) c.turned.3 whole.shut
    loosens (Err e) c = unmoved c.refused.1 whole.shut

  pub takes : {w' : Core} {me : Owner} (i : ℕ) → NotValues me → (h : Option HandleNumber) → TakeCall w me i h w' → Rests w w'
  takes {me = me} i free (Some h) c = rests-then (spares-moved w (only_handle h) me free (listed-free i h c.0)) c.1 (λ e. absurd (listed-open i h c.0 e))
  takes i free None c = unmoved c.1 whole.shut

  pub known-here : (kind key n : ℕ) → usable w kind key ≡ Some n → is_pinning (mode_of kind) ≡ true → is_here w n ≡ true
  known-here kind key n known pinning =
      let entered = entered-of kind key n w known in
      let shared : is_shared_kind kind ≡ true → is_here w n ≡ true = λ is.
      let holds = counted (λ h. one (is_at n h)) w.rows (held-of whole.handles n entered.there) in
      let at : (holds.0.node.0 == n) ≡ true = one-true _ holds.2 in
      let shares : is_shared holds.0.mode ≡ true = (whole.cache kind key n entered.entry).shares holds.0 holds.1 (same-number _ _ at) ∙ is in
      let one_share : one (is_share n holds.0) ≡ 1 = rw (at, shares) refl in
      let le = at-most-sum (λ h. one (is_share n h)) w.rows holds.0 holds.1 in
      grind basics in
      grind (basics, not, is_some, is_here)

  pub spares-known : {owner : Owner} (kind : Kind) (key n : ℕ) → NotValues owner → usable w kind.0 key ≡ Some n → Spares w (with_known w kind n owner)
  spares-known {owner} kind key n free known = spares-handle w (record { 0 = n }) (mode_of kind.0) owner free (known-here kind.0 key n known)

  pub recalls : {w' : Core} {me : Owner} {kind : Kind} {key : ℕ} → NotValues me → (r : Result (Option HandleNumber) Error) → RecallCall w me kind key r w'
      → Rests w w'
  recalls {kind = kind} {key} free (Ok (Some k)) c = rests-then (spares-known kind key c.answers.0 free c.answers.1) c.answers.3 whole.shut
  recalls free x0 c = grind (basics, unmoved)
