-- What a step does: its effect on trees, and that it leaves the handles and loads of others alone. The cache keeps giving the same node for a kind and a key,
-- as long as a handle that fits the kind holds the node. The parts of which each call is made.
use Rattle.pagable_pager_spec.proofs.Elements.{among-left}
use Rattle.pagable_pager_spec.specs.{
  Basics.{changed, is_pinned_kind},
  Calls.{row_of, with_cached, with_key, with_mode, with_node},
  Cascade.{Falls, fallen, left_rows, nobody, only_handle},
  Kinds.{is_at, is_in_memory, is_loose, is_pin},
  LoadCalls.{is_owned_in, numbers_of, with_load, without_load},
  Pager.OwnersAreThere,
  Refusals.{Owns, OwnsLoad, earlier, named_fault},
  Workers.{is_load_of, is_workers, is_workers_at},
  World.{Cell, Root, usable},
}
use Rattle.pagable_theorems.proofs.{
  Decoding.among-either,
  HandlesKept.{Goes, Has, IsShut, NotLoads, NotValues, Quiet, Stands, a-handle, alike, born, fell as quiet-fell, found-number, goes-known, goes-quiet},
  HandlesKept.{goes-then, keyed, le-more, le-self, none-in-next, only-rows, parts, quiet-goes, quiet-self, rows-mode, rows-moved, rows-self, same-owner},
  HandlesKept.{stands-alike, stands-changed, stands-fell, stands-more},
  Trees.{at-most-sum, counted, one-true, same-number, same_some, self-number},
  Words.{Alike, Among, ArcRef, Blob, Bool, Change, Core, Error, HandleNumber, HandleRow, Kind, List, LoadNumber, Mode, NodeNumber, None, OpenLoad, Option},
  Words.{OptionalDataKey, Owner, Result, Some, and_parts, ap, arith, basics, cases_Bool, false, false_from_ne_true, find_row, held, if_there, if◌then◌else◌},
  Words.{inl, inr, is_handle, is_in, is_named_by, is_owned_by, is_owner, is_pinning, is_some, moved, not, nothing_felt, one, owner_value, owner_worker, pins},
  Words.{refl, rules, slice_get, subst, suc, sym, true, updated, with_handle, zero, ℕ, [], ◌&&◌, ◌++◌, ◌+◌, ◌<◌, ◌==◌, ◌∙◌, ◌∷◌, ◌≡◌, ◌≤◌},
}
use Rattle.pagable_theorems.specs.TreeSteps.{AreGood, Bears, Knows, sets_key}
use Rattle.std.specs.Prelude.{nat_lt}

module _ (kind key n : ℕ) where
  -- the cache has the node under kind and key, and it is there
  pub record IsEntered (cache : ℕ → ℕ → Option ℕ) (cells : ℕ → Option Cell) : Type 0 where
    pub entry : cache kind key ≡ Some n
    pub there : is_some (cells n) ≡ true

  -- a handle of the node is there, which pins it if the kind is one of pins
  pub record IsHeldFor (rows : List HandleRow) : Type 0 where
    pub row : HandleRow
    pub live : Among rows row
    pub at : row.node.0 ≡ n
    pub pins_it : is_pinned_kind kind ≡ true → is_pinning row.mode ≡ true

  at-row : (row : HandleRow) → row.node.0 ≡ n → (row.node.0 == n) ≡ true
  at-row row at = ap (λ (x : ℕ). x == n) at ∙ self-number n

  above-none : (a b : ℕ) (t : Bool) → t ≡ true → one t ≤ b → nat_lt 0 b ≡ true
  above-none a b t is le = let e : one t ≡ 1 = ap one is in grind basics

  pinned : (rows : List HandleRow) → IsHeldFor rows → is_pinned_kind kind ≡ true → nat_lt 0 (pins n rows) ≡ true
  pinned rows h is = grind (basics, above-none, at-row h.row h.at, at-most-sum (λ x. one (is_pin n x)) rows h.row h.live)

  pub can-use : (w : Core) → IsEntered w.cache w.cells → IsHeldFor w.rows → usable w kind key ≡ Some n
  can-use w e h = grind (basics, pins, pinned, if_there, is_pinned_kind, is_in_memory)

  pub entered-of : (w : Core) → usable w kind key ≡ Some n → IsEntered w.cache w.cells
  entered-of w is = grind basics

  pub stays-alike : {w w' : Core} → Alike w w' → IsEntered w.cache w.cells → IsHeldFor w'.rows → IsEntered w'.cache w'.cells
  stays-alike {w} {w'} a e h = entered-of w' (a.cache.gives kind key ∙ can-use w e (subst IsHeldFor a.rows h))

  pub stays-fell : {before w w' : Core} {given : ℕ → Bool} {r : Result (Unit {0}) Error} → Falls before w given r w' → IsEntered w.cache w.cells
      → IsHeldFor w'.rows → IsEntered w'.cache w'.cells
  stays-fell {before} {w} {w'} {given} {r} f e h =
      let rows = left_rows f.gone w.rows ++ f.entries in
      let g = subst IsHeldFor f.leaves.rows h in
      let some : nat_lt 0 (held n rows) ≡ true = above-none 0 (held n rows) (is_at n g.row) (at-row g.row g.at)
      (at-most-sum (λ x. one (is_at n x)) rows g.row g.live) in
      let there : is_some (if nat_lt 0 (held n rows) then w.cells n else None) ≡ true = rw some e.there in
      stays-alike {w = fallen w f.gone f.entries} f.leaves (record { entry = e.entry; there = there }) h

  -- the entry stays where the node is held before and after
  pub record Lasts (w w' : Core) : Type 0 where
    pub lasts : IsEntered w.cache w.cells → IsHeldFor w.rows → IsHeldFor w'.rows → IsEntered w'.cache w'.cells

  -- what is held after handles were given up was held before: an entry of the list comes for a node that was pinned
  pub held-fell : {w m w' : Core} {given : ℕ → Bool} {r : Result (Unit {0}) Error} → m.rows ≡ w.rows → Falls w m given r w' → IsHeldFor w'.rows
      → IsHeldFor w.rows
  held-fell {w} {m} {w'} same f h = let g = subst IsHeldFor f.leaves.rows h in
      elim (among-either (left_rows f.gone m.rows) f.entries g.live.0 g.row g.live.1) [
        | inl left ↦ record { row = g.row; live = subst (λ rows. Among rows g.row) same (among-left _ m.rows g.row left).0; at = g.at; pins_it = g.pins_it }
        | inr new ↦
            let some : 0 < held n f.entries = let e : one (is_at n g.row) ≡ 1 =
            ap one (at-row g.row g.at) in omega (arith, e, at-most-sum (λ x. one (is_at n x)) f.entries g.row new) in
            let p = counted (λ x. one (is_pin n x)) w.rows (f.only n some).0.pinned in
            let both = and_parts (p.0.node.0 == n) (is_pinning p.0.mode) (one-true _ p.2) in
            record { row = p.0; live = p.1; at = same-number _ _ both.0; pins_it = λ is. both.1 }
      ]

  entered-born : {cache : ℕ → ℕ → Option ℕ} {cells : ℕ → Option Cell} (p : ℕ) (x : Cell) → IsEntered cache cells
      → IsEntered cache (updated p (Some x) cells)
  entered-born {cache} {cells} p x e = grind basics

-- A call leaves each handle of an owner as it is that doesn't ask: it is there afterwards, with its row. The owner is a worker, or the list.

-- neither a value nor a load
pub record IsApart (mine : Owner) : Type 0 where
  pub no_value : NotValues mine
  pub no_load : (l : LoadNumber) → is_owner (Owner.Load l) mine ≡ false

pub worker-apart : (v : ℕ) → IsApart (owner_worker v)
worker-apart v = record { no_value = λ n is. absurd (cc); no_load = λ l. refl }

pub list-apart : IsApart Owner.List
list-apart = record { no_value = λ n is. absurd (cc); no_load = λ l. refl }

-- what references name is the handle of one of them
pub named-among : (rs : List ArcRef) (q : ℕ) → is_named_by rs q ≡ true → (r : ArcRef) × Among rs r × (r.handle.0 ≡ q)
unfolding is_named_by
named-among [] q is = absurd (cc)
named-among (r ∷ rs) q is = elim (cases_Bool (r.handle.0 == q)) [
  | inl e ↦ (r, (zero, refl), same-number _ _ e)
  | inr e ↦ let a = named-among rs q (rw e at is) in (a.0, (suc a.1.0, a.1.1), a.2)
]

pub with-one : (w : Core) {q : ℕ} {row : HandleRow} (node : NodeNumber) (mode : Mode) (owner : Owner) → Stands w.last.handle w.rows q row
    → Stands (with_handle w node mode owner).last.handle (with_handle w node mode owner).rows q row
with-one w {q} {row} node mode owner s =
    stands-more (row_of (w.last.handle + 1) node mode owner ∷ []) (le-more _ _)
    (none-in-next w.last.handle q (row_of (w.last.handle + 1) node mode owner) refl s.given) s

pub both-none : (a b : Option Error) → earlier a b ≡ None → (a ≡ None) × (b ≡ None)
both-none x0 x1 is = grind basics

-- where nothing is said against handles that are named, each is live and the owner's
pub named : (w : Core) (owner : Owner) (seen : List ℕ) (hs : List HandleNumber) → named_fault w owner seen hs ≡ None → (h : HandleNumber)
    → is_in (numbers_of hs) h.0 ≡ true → Has w owner h
unfolding named_fault is_in
named w owner seen [] none h is = absurd (cc)
named w owner seen (x ∷ hs) none h is = elim (cases_Bool (x.0 == h.0)) [
  | inl e ↦ subst (λ z. Has w owner z) (ap (λ n. let k : HandleNumber = record { 0 = n } in k) (same-number _ _ e)) (grind basics)
  | inr e ↦ named w owner (x.0 ∷ seen) hs (both-none _ _ none).1 h (rw e at is)
]

module _ (mine : Owner) where
  -- each handle of the owner's that stands before stands afterwards
  pub record Spares (w w' : Core) : Type 0 where
    pub each : (q : ℕ) (row : HandleRow) → row.owner ≡ mine → Stands w.last.handle w.rows q row → Stands w'.last.handle w'.rows q row

  -- no handle of the owner's has such a number
  pub record Free (w : Core) (test : ℕ → Bool) : Type 0 where
    pub each : (q : ℕ) (row : HandleRow) → row.owner ≡ mine → Stands w.last.handle w.rows q row → test q ≡ false

  pub spares-then : {w m w' : Core} → Spares w m → Spares m w' → Spares w w'
  spares-then a b = record { each = λ q row own s. b.each q row own (a.each q row own s) }

  pub then-alike : {w m w' : Core} → Alike m w' → Spares w m → Spares w w'
  then-alike a b = spares-then b (record { each = λ q row own s. stands-alike a s })

  pub then-fell : IsApart mine → {before w m w' : Core} {given : ℕ → Bool} {r : _} → Falls before m given r w' → Spares w m → Free w given → Spares w w'
  then-fell apart f a free = record {
    each = λ q row own s. stands-fell f (λ n is. apart.no_value n (sym own ∙ is)) (free.each q row own s)
        (a.each q row own s);
  }

  pub spares-handle : (w : Core) (node : NodeNumber) (mode : Mode) (owner : Owner) → Spares w (with_handle w node mode owner)
  spares-handle w node mode owner = record { each = λ q row own s. with-one w node mode owner s }

  pub unchanged : {last : ℕ} {rows : List HandleRow} {q : ℕ} {row : HandleRow} (test : HandleRow → Bool) (f : HandleRow → HandleRow)
      → ((h : HandleRow) → (f h).number ≡ h.number)
      → test row ≡ false → Stands last rows q row → Stands last (changed test f rows) q row
  unchanged {last} {rows} {q} {row} test f same e s = subst (λ r. Stands last (changed test f rows) q r) (ap (λ b. if b then f row else row) e)
      (stands-changed test f same s)

  -- handles of a set move that aren't the owner's
  pub moved-free : {last : ℕ} {rows : List HandleRow} {q : ℕ} {row : HandleRow} (set : ℕ → Bool) (owner : Owner) → set q ≡ false → Stands last rows q row
      → Stands last (moved set owner rows) q row
  moved-free set owner free s = unchanged (λ h. set h.number.0) (λ h. record h { owner = owner }) (λ h. refl) (ap set (found-number _ _ _ s.live) ∙ free) s

  pub other-handle : {w : Core} {me : Owner} {fits : Mode → Bool} (h : HandleNumber) (r : HandleRow) → (me ≡ mine → ⊥) → Owns w me h fits r
      → Free w (only_handle h)
  other-handle {w} {me} h r other owns = grind basics

  -- references of another's name none of the owner's handles
  pub named-free : (w : Core) (owner : Owner) (rs : List ArcRef) → (owner ≡ mine → ⊥) → AreGood w owner rs → Free w (is_named_by rs)
  named-free w owner rs other right =
      record {
        each = λ q row own s. false_from_ne_true (is_named_by rs q) (λ e. let a = named-among rs q e in let is = right a.0 a.1 in
            other (cc (a.2, is.live, is.owned, s.live, own)));
      }

  pub listed-free : is_owner Owner.List mine ≡ false → {w : Core} → OwnersAreThere w → (i : ℕ) (h : HandleNumber) → slice_get w.list i ≡ Some h
      → Free w (only_handle h)
  listed-free listing_error {w} there i h at = record {
    each = λ q row own s. false_from_ne_true (q == h.0) (λ e.
        let here : one (h.0 == q) ≡ 1 = ap (λ n. one (n == q)) (sym (same-number q h.0 e)) ∙ ap one (self-number q) in
        let most = at-most-sum (λ (x : HandleNumber). one (x.0 == q)) w.list h (i, at) in
        let (x, among, some) = counted (λ (x : HandleRow). one (is_handle q x && is_owned_by Owner.List x)) w.rows
        (omega (arith, here, most, there.listed q)) in
        grind (basics, one-true, same-number, s.only x among));
  }

  -- handles that a load hands over aren't the owner's
  pub handed-free : ((load : LoadNumber) → is_owner (Owner.Load load) mine ≡ false) → (w : Core) (l : LoadNumber) (hs : List HandleNumber) (seen : List ℕ)
      → named_fault w (Owner.Load l) seen hs ≡ None
      → (q : ℕ) (row : HandleRow) → row.owner ≡ mine → Stands w.last.handle w.rows q row → is_in (numbers_of hs) q ≡ false
  handed-free apart w l hs seen none q row own s = false_from_ne_true (is_in (numbers_of hs) q) (λ is.
      let has = named w (Owner.Load l) seen hs none (record { 0 = q }) is in let same : row ≡ has.row = same_some _ _ (sym s.live ∙ has.live) in
      let e : Owner.Load l ≡ mine = sym has.own ∙ ap (λ (x : HandleRow). x.owner) (sym same) ∙ own in
      cc (ap (is_owner (Owner.Load l)) e ∙ apart l, self-number l.0))

-- an owner of whom nothing is taken: not the asker, no value and no load; and not the list, where its entries may be taken
pub record IsOther (me : Owner) (lists : Bool) (w : Core) (mine : Owner) : Type 0 where
  pub apart : IsApart mine
  pub other : me ≡ mine → ⊥
  pub listing_error : lists ≡ true → (is_owner Owner.List mine ≡ false) × OwnersAreThere w

-- the load is the asker's, if it is open
abbrev pub IsMine : Core → Owner → LoadNumber → Type 0
IsMine w me l = (load : OpenLoad) → w.loads l.0 ≡ Some load → is_owner me load.owner ≡ true

pub owned-mine : {w : Core} {me : Owner} {l : LoadNumber} {load : OpenLoad} → OwnsLoad w me l load → IsMine w me l
owned-mine {me = me} o load is = ap (is_owner me) (ap (λ (x : OpenLoad). x.owner) (same_some _ _ (sym is ∙ o.stands_open)) ∙ o.own)
    ∙ (grind (basics, self-number))

-- What a step of the asker's does: up to what falls then, or to its end. It is felt as this change; each handle stays that isn't the asker's; where the cache
-- is left to itself it goes on to give what it gave, as long as the node is held; the same work, and loads that aren't the asker's stay, where what it asks is
-- so.
pub record Effect (me : Owner) (lists : Bool) (Asks Leaves : Type 0) (direct : Bool) (c : Change) (w w' : Core) : Type 0 where
  pub goes : Goes c w w'
  pub spares : (mine : Owner) → IsOther me lists w mine → Spares mine w w'
  pub lasts : Leaves → (kind key n : ℕ) → IsEntered kind key n w.cache w.cells → IsHeldFor kind key n w.rows → (direct ≡ false → IsHeldFor kind key n w'.rows)
      → IsEntered kind key n w'.cache w'.cells
  pub workers : (v : ℕ) → w'.workers v ≡ w.workers v
  pub others : Asks → (l : ℕ) (load : OpenLoad) → w.loads l ≡ Some load → l ≤ w.last.load → is_owner me load.owner ≡ false → w'.loads l ≡ Some load

-- whoever else is concerned has no handle of these numbers
abbrev pub Ours : Owner → Bool → Core → (ℕ → Bool) → Type 0
Ours me lists w set = (mine : Owner) → IsOther me lists w mine → Free mine w set

pub none-named : (w : Core) (owner : Owner) → AreGood w owner []
none-named w owner r among = absurd (cc (among.1))

not-load : {mine : Owner} (l : LoadNumber) → IsApart mine → Owner.Load l ≡ mine → ⊥
not-load l apart e = absurd (cc (ap (is_owner (Owner.Load l)) e ∙ apart.no_load l, self-number l.0))

-- what a worker gives up isn't another's
module _ (mine : Owner) (apart : IsApart mine) (u : ℕ) (other : owner_worker u ≡ mine → ⊥) where
  no-load : (w : Core) (o : Owner) → IsApart o → is_load_of w u o ≡ false
  no-load w (Owner.Load l) a = absurd (cc (a.no_load l, self-number l.0))
  no-load w o a = refl

  pub ended-free : (w : Core) → Free mine w (is_workers w u)
  ended-free w = grind (basics, same-owner, no-load)

  pub released-free : (w : Core) (p : ℕ) → Free mine w (is_workers_at w u p)
  released-free w p = grind (basics, same-owner)

module _ {me : Owner} {lists : Bool} where
  pub own-handle : {w : Core} {fits : Mode → Bool} (h : HandleNumber) (row : HandleRow) → Owns w me h fits row → Ours me lists w (only_handle h)
  own-handle h row owns mine o = other-handle mine h row o.other owns

  pub load-named : (w : Core) (l : LoadNumber) (references : List ArcRef) → AreGood w (Owner.Load l) references → Ours me lists w (is_named_by references)
  load-named w l references right mine o = named-free mine w (Owner.Load l) references (not-load l o.apart) right

  pub own-named : (w : Core) (references : List ArcRef) → AreGood w me references → Ours me lists w (is_named_by references)
  own-named w references right mine o = named-free mine w me references o.other right

  pub load-owns : (w : Core) (l : LoadNumber) → Ours me lists w (is_owned_in w (Owner.Load l))
  load-owns w l mine o = grind basics

  pub but : {w : Core} (f g : ℕ → Bool) → Ours me lists w f → Ours me lists w (λ q. f q && not (g q))
  but f g free mine o = record { each = λ q row own s. ap (λ b. b && not (g q)) ((free mine o).each q row own s) }

  pub no-one : {w : Core} → Ours me lists w nobody
  no-one mine o = record { each = λ q row own s. refl }

  pub entry : lists ≡ true → {w : Core} (i : ℕ) (h : HandleNumber) → slice_get w.list i ≡ Some h → Ours me lists w (only_handle h)
  entry taken i h at mine o = listed-free mine (o.listing_error taken).0 (o.listing_error taken).1 i h at

  pub handed : (w : Core) (l : LoadNumber) (hs : List HandleNumber) → named_fault w (Owner.Load l) [] hs ≡ None → Ours me lists w (is_in (numbers_of hs))
  handed w l hs none mine o = record { each = handed-free mine o.apart.no_load w l hs [] none }

module _ {me : Owner} {lists : Bool} {Asks Leaves : Type 0} where
  pub none : {c : Change} (w : Core) → Effect me lists Asks Leaves true c w w
  none {c} w = grind (basics, quiet-self, quiet-goes)

  module _ {c : Change} {w m : Core} (d : Effect me lists Asks Leaves true c w m) where
    directly : Leaves → (kind key n : ℕ) → IsEntered kind key n w.cache w.cells → IsHeldFor kind key n w.rows → IsEntered kind key n m.cache m.cells
    directly leaves kind key n e h = d.lasts leaves kind key n e h (λ f. absurd (cc))

    rowed : {rows : List HandleRow} {list : List HandleNumber} {last : ℕ} → let x =
        record m { rows = rows; list = list; last = record m.last { handle = last } } in
        Quiet m x → ((mine : Owner) → IsOther me lists w mine → Spares mine w x) → Effect me lists Asks Leaves true c w x
    rowed q spares = search (rules, goes-quiet, spares, directly, d.workers, d.others)

    pub handle : (node : NodeNumber) (mode : Mode) (owner : Owner) → Effect me lists Asks Leaves true c w (with_handle m node mode owner)
    handle node mode owner = rowed (a-handle m node mode owner) (λ mine o. spares-then mine (d.spares mine o) (spares-handle mine m node mode owner))

    pub turned : (h : HandleNumber) (mode : Mode) → is_loose mode ≡ true → Ours me lists w (only_handle h)
        → ((r : HandleRow) → find_row h.0 m.rows ≡ Some r → NotLoads r.owner) → Effect me lists Asks Leaves true c w (with_mode m h mode)
    turned h mode is free safe = rowed (only-rows (rows-mode m.last.handle m.rows h mode is safe) (le-self _))
        (λ mine o. record {
          each = λ q row own s. let r = (d.spares mine o).each q row own s in
              unchanged mine (is_handle h.0) (λ x. record x { mode = mode }) (λ x. refl)
              (ap (λ n. n == h.0) (found-number _ _ _ r.live) ∙ (free mine o).each q row own s) r;
        })

    pub moves : (set : ℕ → Bool) (owner : Owner) (list : List HandleNumber) → NotLoads owner → Ours me lists w set
        → Effect me lists Asks Leaves true c w (record m { rows = moved set owner m.rows; list = list })
    moves set owner list safe free = rowed (only-rows (rows-moved m.last.handle m.rows set owner safe) (le-self _))
        (λ mine o. record { each = λ q row own s. moved-free mine set owner ((free mine o).each q row own s) ((d.spares mine o).each q row own s) })

    plainly : {cache : ℕ → ℕ → Option ℕ} {loads : ℕ → Option OpenLoad} {last : ℕ} → let x =
        record m { cache = cache; loads = loads; last = record m.last { load = last } } in
        Goes c w x → (Leaves → (kind key n : ℕ) → IsEntered kind key n w.cache w.cells → IsHeldFor kind key n w.rows → IsEntered kind key n cache m.cells)
        → (Asks → (l : ℕ) (load : OpenLoad) → w.loads l ≡ Some load → l ≤ w.last.load → is_owner me load.owner ≡ false → loads l ≡ Some load)
        → Effect me lists Asks Leaves true c w x
    plainly goes lasts others =
        let each = λ (mine : Owner) (o : IsOther me lists w mine). (d.spares mine o).each in
        record {
          goes = goes;
          spares = λ mine o. record { each = each mine o };
          lasts = λ k kind key n e h still. lasts k kind key n e h;
          workers = d.workers;
          others = others;
        }

    pub cached : (kind : Kind) (key : ℕ) (n : NodeNumber) → Knows c w kind.0 key n.0 → usable w kind.0 key ≡ None
        → Effect me lists Asks Leaves true c w (with_cached m kind key n)
    cached kind key n knows unknown = plainly (goes-known d.goes kind key n knows) (λ k k' q p e h.
        let was = directly k k' q p e h in record { entry = grind (basics, same-number, can-use k' q p w e h); there = was.there }) d.others

    pub cached-if : (b : Bool) (kind : Kind) (key : ℕ) (n : NodeNumber) → Knows c w kind.0 key n.0 → usable w kind.0 key ≡ None
        → Effect me lists Asks Leaves true c w (if b then m else with_cached m kind key n)
    cached-if x0 kind key n knows unknown = grind (basics, cached)

    pub opens : (key : ℕ) (root : Root) → Goes c w (with_load m key root me) → Effect me lists Asks Leaves true c w (with_load m key root me)
    opens key root goes = plainly goes directly (λ own l load is few other. grind (basics, d.goes.loads_last, d.others own l load is few other))

    pub shuts : (l : LoadNumber) → (Asks → IsMine w me l) → Effect me lists Asks Leaves true c w (without_load m l)
    shuts l mine = plainly (goes-quiet d.goes (grind (arith, parts, le-self, rows-self))) directly
        (λ own l load is few other. grind (basics, same-number, d.others own l load is few other, mine own))

    pub like : {w' : Core} → Alike m w' → Effect me lists Asks Leaves false c w w'
    like a = search (rules, goes-quiet, alike, then-alike, stays-alike, directly, a.workers, a.loads, d.workers, d.others, d.spares)

    pub fell : {before w' : Core} {given : ℕ → Bool} {r : Result (Unit {0}) Error} → Falls before m given r w' → Ours me lists w given
        → Effect me lists Asks Leaves false c w w'
    fell {w' = w'} f free =
        let spares : (mine : Owner) → IsOther me lists w mine → Spares mine w w' = λ mine o. then-fell mine o.apart f (d.spares mine o) (free mine o) in
        search (rules, goes-quiet, quiet-fell, spares, stays-fell, directly, f.leaves.workers, f.leaves.loads, d.workers, d.others)

  pub own-mode : NotLoads me → {c : Change} (w : Core) {fits : Mode → Bool} (h : HandleNumber) (row : HandleRow) → Owns w me h fits row → (mode : Mode)
      → is_loose mode ≡ true → Effect me lists Asks Leaves true c w (with_mode w h mode)
  own-mode free w h row owns mode is = turned (none w) h mode is (own-handle h row owns)
      (λ r found. subst NotLoads (sym (ap (λ (x : HandleRow). x.owner) (same_some _ _ (sym found ∙ owns.live)) ∙ owns.own)) free)

  pub node : {c : Change} (w : Core) (t : ℕ) (own : OptionalDataKey) (references : List ArcRef) → Bears c t own → Ours me lists w (is_named_by references)
      → Effect me lists Asks Leaves true c w (with_node w t own references)
  node {c} w t own references bears free =
      let spares : (mine : Owner) → IsOther me lists w mine → Spares mine w (with_node w t own references) =
      λ mine o. record {
        each = λ q row mine_is s. moved-free mine (is_named_by references) (owner_value (w.last.node + 1))
            ((free mine o).each q row mine_is s) s;
      } in
      search (rules, born, spares, entered-born)

  pub with-key : (w : Core) (n : NodeNumber) (key : ℕ) → Effect me lists Asks Leaves true (sets_key n.0 key) w (with_key w n key)
  with-key w n key = grind (basics, keyed w n key)

  -- what is stored may grow, and the storage may fail
  pub beside : {c : Change} (w : Core) (stored : ℕ → Option Blob) (failures : ℕ) → ((q : ℕ) (b : Blob) → w.stored q ≡ Some b → stored q ≡ Some b)
      → (IsShut w → (q : ℕ) → stored q ≡ None)
      → Effect me lists Asks Leaves true c w (record w { stored = stored; failures = failures })
  beside {c} w stored failures keeps shut = grind (basics, quiet-self, quiet-goes)

  pub forgets : {c : Change} (w : Core) → (Leaves → ⊥) → Effect me lists Asks Leaves true c w (record w { cache = λ kind key. None })
  forgets {c} w none = grind (basics, parts, le-self, rows-self, quiet-goes)

  pub stays : {c : Change} {w w' : Core} → Alike w w' → Effect me lists Asks Leaves false c w w'
  stays {w = w} a = like (none w) a

-- one step of the asker's and then another, where the node is held in the middle if it was before
pub one-then : {me : Owner} {Asks Asks' Leaves : Type 0} {w m w' : Core} → ((kind key n : ℕ) → IsHeldFor kind key n w.rows → IsHeldFor kind key n m.rows)
    → (Asks → Asks')
    → Effect me false Asks Leaves false nothing_felt w m → Effect me false Asks' Leaves false nothing_felt m w'
    → Effect me false Asks Leaves false nothing_felt w w'
one-then up asks a b = record {
  goes = goes-then a.goes b.goes;
  spares = λ mine o. spares-then mine (a.spares mine o) (b.spares mine (record { apart = o.apart; other = o.other; listing_error = λ f. absurd (cc) }));
  lasts = λ k kind key n e h still. b.lasts k kind key n (a.lasts k kind key n e h (λ f. up kind key n h)) (up kind key n h) still;
  workers = λ v. b.workers v ∙ a.workers v;
  others = λ own l load is few other. b.others (asks own) l load (a.others own l load is few other)
      (omega arith) other;
}
