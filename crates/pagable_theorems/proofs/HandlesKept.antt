-- What a step does to the core, as far as it matters for trees: the parts of each call's summary. And a live handle that no value owns and that isn't
-- released keeps its row in a cascade.
use Rattle.pagable_pager_spec.proofs.Elements.{among-left, found-among}
use Rattle.pagable_pager_spec.specs.{
  Basics.{changed, or_else},
  Calls.{row_of, with_cached, with_key, with_mode, with_node},
  Cascade.{AreNewEntries, Falls, FallsAnyhow, fallen, is_keyed, left_rows},
  Kinds.{is_loose, is_pin},
  LoadCalls.{EndCall, is_owned_in, with_load, with_pin, without_load},
  Refusals.reference_fault,
  World.{Cell, Root},
  declared.{events.PinStep.PinStep, pinning.Pinning.Pinning},
}
use Rattle.pagable_theorems.proofs.{
  CascadeWitness.outlast,
  Decoding.among-either,
  Trees.{same-number, same_some, self-number},
  Words.{Action, Alike, Among, ArcRef, Blob, Bool, Call, Change, CloneCall, Core, Event, EventReply, HandleNumber, HandleRow, HandlesAreWhole, Happens},
  Words.{Identity, IsReference, Kind, Last, List, LoadNumber, Mode, NodeNumber, None, Ok, OpenLoad, Option, OptionalDataKey, Owner, PinCall, Reply, Seen, Some},
  Words.{Todo, WorkerState, World, adopted, answer_after, ap, arith, basics, bears_known, false, false_from_ne_true, find_row, if◌then◌else◌, inl, inr},
  Words.{is_handle, is_named_by, is_owner, is_pinning, le_trans, mode_of, moved, next_node, not, nothing_felt, one, owner_value, owner_worker, pins},
  Words.{references_fault, refl, row_at, rules, subst, suc, sum_by-cons, sym, to_load, to_pin, true, type_of, updated, with_handle, zero, ℕ, [], ◌&&◌, ◌++◌},
  Words.{◌+◌, ◌<◌, ◌==◌, ◌∙◌, ◌∷◌, ◌≡◌, ◌≤◌, ◌⊎◌},
}
use Rattle.pagable_theorems.specs.TreeSteps.{AreGood, Bears, BeginsWell, HasPin, Knows, PinHolds, StaysAway, sets_key}
use Rattle.pagable_pager_spec.specs.Workers as workers
pub use Rattle.pagable_pager_spec.proofs.Elements.{among-map as among-changed, among-one as only-one, once}
pub use Rattle.pagable_theorems.specs.TreeSteps.{CoreGoes as Goes, IsShut, Kept, RowsGo, Was}

-- a step that sets no key, bears no node, begins no load and lets the cache know nothing
pub record Quiet (w w' : Core) : Type 0 where
  pub nodes : w.last.node ≤ w'.last.node
  pub handles : w.last.handle ≤ w'.last.handle
  pub loads_last : w.last.load ≤ w'.last.load
  pub workers_last : w.last.worker ≤ w'.last.worker
  pub cells : (n : ℕ) (cell : Cell) → w'.cells n ≡ Some cell → w.cells n ≡ Some cell
  pub stored : (q : ℕ) (b : Blob) → w.stored q ≡ Some b → w'.stored q ≡ Some b
  pub loads : (l : ℕ) (load : OpenLoad) → w'.loads l ≡ Some load → w.loads l ≡ Some load
  pub cache : (kind key n : ℕ) → w'.cache kind key ≡ Some n → w.cache kind key ≡ Some n
  pub rows : RowsGo w.last.handle w.rows w'.rows
  pub shut : IsShut w → IsShut w'

-- the cache gets to know no node by the change but the next one
abbrev pub KnowsNext : Change → Core → Type 0
KnowsNext c w = (kind key n : ℕ) → Knows c w kind key n → n ≡ w.last.node + 1

pub le-self : (n : ℕ) → n ≤ n
le-self n = omega arith

pub le-more : (a b : ℕ) → a ≤ a + b
le-more a b = omega arith

pub next-above : (q last : ℕ) → q ≡ last + 1 → last < q
next-above q last next = omega arith

pub rows-self : (last : ℕ) (rows rows' : List HandleRow) → rows' ≡ rows → RowsGo last rows rows'
rows-self last rows rows' same q row found few = record {
  was = row;
  live = subst (λ r. find_row q r ≡ Some row) same found;
  at = refl;
  mine = λ l is. refl;
  loose = λ is. is;
}

pub rows-then : (last more : ℕ) (rows mid rows' : List HandleRow) → last ≤ more → RowsGo last rows mid → RowsGo more mid rows' → RowsGo last rows rows'
rows-then last more rows mid rows' le first second q row found few = let b = second q row found (omega arith) in grind (basics, first q b.was b.live few)

pub found-number : (q : ℕ) (rows : List HandleRow) (row : HandleRow) → find_row q rows ≡ Some row → row.number.0 ≡ q
found-number q rows row found = (found-among q rows row found).1

-- a handle that is found in a changed row was found before
pub found-changed : (test : HandleRow → Bool) (f : HandleRow → HandleRow) → ((h : HandleRow) → (f h).number ≡ h.number)
    → (q : ℕ) (rows : List HandleRow) (row : HandleRow)
    → find_row q (changed test f rows) ≡ Some row → (was : HandleRow) × (find_row q rows ≡ Some was) × (row ≡ (if test was then f was else was))
unfolding find_row
found-changed test f same q [] row found = absurd (cc)
found-changed test f same q (h ∷ hs) row found = grind (basics, is_handle, false, true, find_row, changed, found-changed test f same q hs row)

abbrev pub NotLoads : Owner → Type 0
NotLoads o = (l : LoadNumber) → o ≡ Owner.Load l → ⊥

pub rows-mode : (last : ℕ) (rows : List HandleRow) (h : HandleNumber) (mode : Mode) → is_loose mode ≡ true
    → ((r : HandleRow) → find_row h.0 rows ≡ Some r → NotLoads r.owner)
    → RowsGo last rows (changed (is_handle h.0) (λ row. record row { mode = mode }) rows)
rows-mode last rows h mode is_so free q row found few = grind (basics, found-changed, found-number)

pub rows-moved : (last : ℕ) (rows : List HandleRow) (s : ℕ → Bool) (owner : Owner) → NotLoads owner → RowsGo last rows (moved s owner rows)
rows-moved last rows s owner free q row found few = grind (basics, found-changed)

pub find-both : (q : ℕ) (xs ys : List HandleRow) → find_row q (xs ++ ys) ≡ or_else (find_row q xs) (find_row q ys)
unfolding find_row
find-both q [] ys = refl
find-both q (h ∷ hs) ys = grind (basics, find-both q hs ys)

-- handles that come at the end have greater numbers
rows-more : (last : ℕ) (rows more : List HandleRow) → ((q : ℕ) → q ≤ last → find_row q more ≡ None) → RowsGo last rows (rows ++ more)
rows-more last rows more new q row found few =
    let back : find_row q rows ≡ Some row = grind (basics, find-both, new q few) in
    record { was = row; live = back; at = refl; mine = λ l is. refl; loose = λ is. is }

pub none-in-new : (last q : ℕ) (entries : List HandleRow) → AreNewEntries last entries → q ≤ last → find_row q entries ≡ None
unfolding find_row
none-in-new last q [] new few = refl
none-in-new last q (h ∷ hs) (number, mode, owner, new) few = let a : is_handle q h ≡ false =
    grind basics in rw a (none-in-new (last + 1) q hs new (omega arith))

pub none-in-next : (last q : ℕ) (h : HandleRow) → h.number.0 ≡ last + 1 → q ≤ last → find_row q (h ∷ []) ≡ None
unfolding find_row
none-in-next last q h next few = let a : is_handle q h ≡ false = grind basics in rw a refl

pub find-left : (gone : ℕ → Bool) (q : ℕ) (rows : List HandleRow) → find_row q (left_rows gone rows) ≡ (if gone q then None else find_row q rows)
unfolding find_row
find-left gone q [] = grind basics
find-left gone q (h ∷ hs) = grind (basics, is_handle, find_row, left_rows, false, true, same-number, find-left gone q hs)

pub quiet-then : {w m w' : Core} → Quiet w m → Quiet m w' → Quiet w w'
quiet-then {w} {m} {w'} a b = search (rules, rows-then, le_trans, a.cells, b.cells, a.stored, b.stored, a.loads, b.loads, a.cache, b.cache, a.shut, b.shut)

pub le-of : (a b : ℕ) → b ≡ a → a ≤ b
le-of a b is = omega arith

pub alike : {w w' : Core} → Alike w w' → Quiet w w'
alike {w} {w'} a = grind (arith, le-of, rows-self)

-- nodes and what is stored stay, and what is said of the other parts is so
pub parts : {w : Core} {rows : List HandleRow} {list : List HandleNumber} {cells : ℕ → Option Cell} {loads : ℕ → Option OpenLoad} {cache : ℕ → ℕ → Option ℕ}
    {workers : ℕ → Bool} {last worker : ℕ}
    → w.last.handle ≤ last → w.last.worker ≤ worker → ((n : ℕ) (cell : Cell) → cells n ≡ Some cell → w.cells n ≡ Some cell)
    → ((l : ℕ) (load : OpenLoad) → loads l ≡ Some load → w.loads l ≡ Some load)
    → ((kind key n : ℕ) → cache kind key ≡ Some n → w.cache kind key ≡ Some n) → RowsGo w.last.handle w.rows rows
    → Quiet w (record w {
      rows = rows;
      list = list;
      cells = cells;
      loads = loads;
      cache = cache;
      workers = workers;
      last = record w.last { handle = last; worker = worker };
    })
parts {w} handles workers cells loads cache go = grind (arith, le-self)

pub quiet-self : (w : Core) → Quiet w w
quiet-self w = parts (le-self _) (le-self _) (λ n cell is. is) (λ l load is. is) (λ kind key n is. is) (rows-self w.last.handle w.rows w.rows refl)

pub only-rows : {w : Core} {rows : List HandleRow} {list : List HandleNumber} {last : ℕ} → RowsGo w.last.handle w.rows rows → w.last.handle ≤ last
    → Quiet w (record w { rows = rows; list = list; last = record w.last { handle = last } })
only-rows go le = parts le (le-self _) (λ n cell is. is) (λ l load is. is) (λ kind key n is. is) go

pub fell : {before w w' : Core} {given : ℕ → Bool} {r : _} → Falls before w given r w' → Quiet w w'
fell {w = w} f = quiet-then {m = fallen w f.gone f.entries}
    (parts (le-more _ _) (le-self _) (λ n cell is. grind basics) (λ l load is. is) (λ kind key n is. is)
    (rows-then w.last.handle w.last.handle w.rows (left_rows f.gone w.rows) _ (le-of _ _ refl)
    (λ q row found few. record { was = row; live = grind (basics, find-left f.gone q w.rows); at = refl; mine = λ l is. refl; loose = λ is. is })
    (rows-more w.last.handle (left_rows f.gone w.rows) f.entries (λ q few. none-in-new w.last.handle q f.entries f.new few)))) (alike f.leaves)

pub fell-anyhow : {before w w' : Core} {given : ℕ → Bool} → FallsAnyhow before w given w' → Quiet w w'
fell-anyhow f = fell f.falls

pub a-handle : (w : Core) (node : NodeNumber) (mode : Mode) (owner : Owner) → Quiet w (with_handle w node mode owner)
a-handle w node mode owner = only-rows (rows-more w.last.handle w.rows _
    (λ q few. none-in-next w.last.handle q (row_of (w.last.handle + 1) node mode owner) refl few)) (le-more _ _)

pub quiet-goes : (c : Change) {w w' : Core} → Quiet w w' → Goes c w w'
quiet-goes c q = grind arith

pub goes-quiet : {c : Change} {w m w' : Core} → Goes c w m → Quiet m w' → Goes c w w'
goes-quiet {c} {w} {m} {w'} a b = search (rules, rows-then, le_trans, a.cells, b.cells, a.stored, b.stored, a.loads, b.loads, a.cache, b.cache, a.shut, b.shut)

pub updated-at : {X : Type 0} (n : ℕ) (x : X) (f : ℕ → X) → updated n x f n ≡ x
updated-at n x f = ap (λ b. if b then x else f n) (self-number n)

pub at-updated : {X : Type 0} (m : ℕ) (x : Option X) (f : ℕ → Option X) (n : ℕ) (y : X) → updated m x f n ≡ Some y → ((n ≡ m) × (x ≡ Some y)) ⊎ (f n ≡ Some y)
at-updated m x f n y is = grind (arith, same-number)

pub born : (c : Change) (w : Core) (t : ℕ) (key : OptionalDataKey) (references : List ArcRef) → Bears c t key → Goes c w (with_node w t key references)
born c w t key references bears = grind (arith, le-more, le-self, at-updated, rows-moved)

pub keyed : (w : Core) (node : NodeNumber) (key : ℕ) → Goes (sets_key node.0 key) w (with_key w node key)
keyed w node key = grind (arith, le-self, at-updated, rows-self)

pub begun : (c : Change) (w : Core) (key : ℕ) (root : Root) (me : Owner) → BeginsWell w (record { owner = me; key = key; root = root })
    → Goes c w (with_load w key root me)
begun c w key root me well =
    let loads : (l : ℕ) (load : OpenLoad) → (with_load w key root me).loads l ≡ Some load → (w.loads l ≡ Some load) ⊎ ((w.last.load < l) × BeginsWell w load) =
    λ l load is. elim (at-updated _ _ w.loads l load is) [
      | inl (at, e) ↦ inr (next-above l w.last.load at, rw (← same_some _ _ e) well)
      | inr there ↦ inl there
    ] in
    grind (basics, le-self, le-more, rows-self, loads)

-- where nothing is felt, a cell was there as it is
was-there : {w m : Core} → Goes nothing_felt w m → (n : ℕ) (cell : Cell) → m.cells n ≡ Some cell → w.cells n ≡ Some cell
was-there a n cell is = grind (basics, a.cells n cell is)

-- two steps of which nothing is felt: the cells that the first leaves are those that a load that the second begins is of
pub goes-then : {w m w' : Core} → Goes nothing_felt w m → Goes nothing_felt m w' → Goes nothing_felt w w'
goes-then {w} {m} {w'} a b =
    let cells : (n : ℕ) (cell : Cell) → w'.cells n ≡ Some cell → Kept nothing_felt w n cell
    ⊎ ((n ≡ w.last.node + 1) × Bears nothing_felt cell.node_type cell.key) =
    λ n cell is. inl (record { was = cell; live = was-there a n cell (was-there b n cell is); typed = refl; key = inl refl }) in
    let begins : (load : OpenLoad) → BeginsWell m load → BeginsWell w load =
    λ load well node t h root. grind (basics, well node t h root, was-there a node.0) in
    let loads : (l : ℕ) (load : OpenLoad) → w'.loads l ≡ Some load → (w.loads l ≡ Some load) ⊎ ((w.last.load < l) × BeginsWell w load) = λ l load is.
    elim (b.loads l load is) [ inl there ↦ a.loads l load there | inr (above, well) ↦ inr (omega arith, begins load well) ] in
    let cache : (kind key n : ℕ) → w'.cache kind key ≡ Some n → (w.cache kind key ≡ Some n) ⊎ Knows nothing_felt w kind key n = λ kind key n is.
    elim (b.cache kind key n is) [ inl there ↦ a.cache kind key n there | inr known ↦ absurd known ] in
    search (rules, rows-then, le_trans, cells, loads, cache, a.stored, b.stored, a.shut, b.shut)

pub goes-known : {c : Change} {w m : Core} → Goes c w m → (kind : Kind) (key : ℕ) (n : NodeNumber) → Knows c w kind.0 key n.0
    → Goes c w (with_cached m kind key n)
goes-known {c} {w} {m} a kind key n knows = grind (arith, same-number)

pub adopts : (w : Core) (l : LoadNumber) (kind : Kind) (key : ℕ) (own : OptionalDataKey) (references : List ArcRef)
    → Goes (bears_known kind.0 key own) w (adopted w l kind key own references)
adopts w l kind key own references =
    let made = goes-quiet (born (bears_known kind.0 key own) w (type_of kind.0) own references (refl, refl))
    (a-handle _ (next_node w) (mode_of kind.0) (Owner.Load l)) in
    grind (basics, goes-known made kind key (next_node w) (refl, refl, refl))

abbrev pub NotValues : Owner → Type 0
NotValues o = (n : NodeNumber) → o ≡ Owner.Value n → ⊥

-- The handle q has this row, and no other; and its number isn't above the last one.
pub record Stands (last : ℕ) (rows : List HandleRow) (q : ℕ) (row : HandleRow) : Type 0 where
  pub live : find_row q rows ≡ Some row
  pub only : (h : HandleRow) → Among rows h → h.number.0 ≡ q → h ≡ row
  pub given : q ≤ last

pub among-found : (q : ℕ) (rows : List HandleRow) (row : HandleRow) → find_row q rows ≡ Some row → Among rows row
among-found q rows row found = (found-among q rows row found).0

-- where nothing is found, nothing has the number
pub none-found : (q : ℕ) (rows : List HandleRow) (h : HandleRow) → find_row q rows ≡ None → Among rows h → h.number.0 ≡ q → ⊥
unfolding find_row
none-found q [] h none among is = absurd (cc)
none-found q (x ∷ xs) h none among is = let rest : (find_row q xs ≡ None → Among xs h → ⊥) =
    λ no there. none-found q xs h no there is in grind (basics, self-number, rest)

-- no number of a row is above this one
abbrev pub AreUpTo : ℕ → List HandleRow → Type 0
AreUpTo last rows = (h : HandleRow) → Among rows h → h.number.0 ≤ last

none-above : (last q : ℕ) (rows : List HandleRow) → AreUpTo last rows → last < q → find_row q rows ≡ None
unfolding find_row
none-above last q [] few above = refl
none-above last q (h ∷ hs) few above = grind (basics, few h (zero, refl), none-above last q hs (λ x among. few x (suc among.0, among.1)) above)

pub stands-whole : {w : Core} → HandlesAreWhole w → (q : ℕ) (row : HandleRow) → find_row q w.rows ≡ Some row → Stands w.last.handle w.rows q row
stands-whole {w} whole q row found =
    let among = among-found q w.rows row found in
    let number = found-number q w.rows row found in
    record {
      live = found;
      only = λ h there is. once w.rows whole.ordered h row there among (is ∙ sym number);
      given = subst (λ n. n ≤ w.last.handle) number (whole.numbered row among).1;
    }

pub record Has (w : Core) (owner : Owner) (h : HandleNumber) : Type 0 where
  pub row : HandleRow
  pub live : row_at w h ≡ Some row
  pub own : row.owner ≡ owner

pub has-alike : {w w' : Core} {owner : Owner} {h : HandleNumber} → Alike w w' → Has w owner h → Has w' owner h
has-alike {h = h} a has = record { row = has.row; live = subst (λ rows. find_row h.0 rows ≡ Some has.row) (sym a.rows) has.live; own = has.own }

pub stands-alike : {w w' : Core} {q : ℕ} {row : HandleRow} → Alike w w' → Stands w.last.handle w.rows q row → Stands w'.last.handle w'.rows q row
stands-alike {w} {w'} {q} {row} a s = subst (λ l. Stands l w'.rows q row) (sym (ap (λ (l : Last). l.handle) a.last))
    (subst (λ rows. Stands w.last.handle rows q row) (sym a.rows) s)

module _ (test : HandleRow → Bool) (f : HandleRow → HandleRow) (same : (h : HandleRow) → (f h).number ≡ h.number) where
  abbrev after : HandleRow → HandleRow
  after h = if test h then f h else h

  after-number : (h : HandleRow) → (after h).number ≡ h.number
  after-number h = grind basics

  pub found-after : (q : ℕ) (rows : List HandleRow) (row : HandleRow) → find_row q rows ≡ Some row → find_row q (changed test f rows) ≡ Some (after row)
  unfolding find_row
  found-after q [] row found = absurd (cc)
  found-after q (h ∷ hs) row found = grind (basics, is_handle, find_row, changed, true, false, after-number, found-after q hs row)

  pub stands-changed : {last : ℕ} {rows : List HandleRow} {q : ℕ} {row : HandleRow} → Stands last rows q row → Stands last (changed test f rows) q (after row)
  stands-changed {last} {rows} {q} {row} s =
      let only : (h : HandleRow) → Among (changed test f rows) h → h.number.0 ≡ q → h ≡ after row = λ h among is.
      let a = among-changed after rows h among in grind (basics, after-number a.0, s.only a.0 a.1) in
      record { live = found-after q rows row s.live; only = only; given = s.given }

-- where rows of greater numbers come; and such a row itself
pub stands-more : {last more_last : ℕ} {rows : List HandleRow} {q : ℕ} {row : HandleRow} (more : List HandleRow) → last ≤ more_last → find_row q more ≡ None
    → Stands last rows q row
    → Stands more_last (rows ++ more) q row
stands-more {last} {more_last} {rows} {q} {row} more le none s =
    let only : (h : HandleRow) → Among (rows ++ more) h → h.number.0 ≡ q → h ≡ row = λ h (i, at) is.
    elim (among-either rows more i h at) [ inl a ↦ s.only h a is | inr b ↦ absurd (none-found q more h none b is) ] in
    let g = s.given in record { live = find-both q rows more ∙ ap (λ x. or_else x (find_row q more)) s.live; only = only; given = omega arith }

pub stands-new : (last : ℕ) (rows : List HandleRow) (row : HandleRow) → AreUpTo last rows → row.number.0 ≡ last + 1
    → Stands (last + 1) (rows ++ row ∷ []) row.number.0 row
unfolding find_row
stands-new last rows row few next =
    let none = none-above last row.number.0 rows few (omega arith) in
    record {
      live = find-both row.number.0 rows (row ∷ []) ∙ (ap (λ x. or_else x (find_row row.number.0 (row ∷ []))) none
          ∙ (let e = self-number row.number.0 in rw e refl));
      only = λ h (i, at) is. elim (among-either rows (row ∷ []) i h at) [
        | inl a ↦ absurd (none-found row.number.0 rows h none a is)
        | inr b ↦ only-one row h b
      ];
      given = omega arith;
    }

-- a handle that isn't gone keeps its row
pub stands-left : {before w w' : Core} {given : ℕ → Bool} {r : _} (f : Falls before w given r w') {q : ℕ} {row : HandleRow} → f.gone q ≡ false
    → Stands w.last.handle w.rows q row
    → Stands w'.last.handle w'.rows q row
stands-left {w = w} f {q} {row} kept s =
    let left : Stands w.last.handle (left_rows f.gone w.rows) q row =
    record { live = find-left f.gone q w.rows ∙ (rw kept s.live); only = λ h a is. s.only h (among-left _ w.rows h a).0 is; given = s.given } in
    stands-alike {w = fallen w f.gone f.entries} f.leaves (stands-more f.entries (le-more _ _) (none-in-new w.last.handle q f.entries f.new s.given) left)

pub stands-fell : {before w w' : Core} {given : ℕ → Bool} {r : _} {q : ℕ} {row : HandleRow} → Falls before w given r w' → NotValues row.owner → given q ≡ false
    → Stands w.last.handle w.rows q row → Stands w'.last.handle w'.rows q row
stands-fell {before} {w} {w'} {given} {r} {q} {row} f free kept s =
    let among = among-found q w.rows row s.live in
    let no_value = λ (h : HandleRow) (a : Among w.rows h) (is : h.number.0 ≡ q). subst (λ (x : HandleRow). NotValues x.owner) (sym (s.only h a is)) free in
    let number = found-number q w.rows row s.live in
    let stays = ap f.gone (sym number) ∙ outlast w.rows (is_keyed w) f.entries given f.gone (λ p. p == q) f.set
    (λ x there goes. false_from_ne_true (x.number.0 == q) (λ e. cc (same-number x.number.0 q e)))
    (λ n x there own lost. false_from_ne_true (x.number.0 == q) (λ e.
    let o = no_value x there (same-number x.number.0 q e) in let no : is_owner (owner_value n) x.owner ≡ false = grind basics in cc))
    row among (ap (λ p. p == q) number ∙ self-number q) in
    stands-left f stays s

-- ---- references that nothing is to be said against name handles of their owner, as they should

pub or-none : {X : Type 0} (a b : Option X) → or_else a b ≡ None → (a ≡ None) × (b ≡ None)
or-none x0 b is = grind basics

pub same-owner : (o p : Owner) → is_owner o p ≡ true → p ≡ o
same-owner x0 x1 is = grind (basics, same-number)

module _ (w : Core) (owner : Owner) where
  good-one : (seen : List ℕ) (r : ArcRef) → reference_fault w owner seen r ≡ None → IsReference w owner r
  good-one seen r none = search (rules, same-number, same-owner)

  pub good : (seen : List ℕ) (references : List ArcRef) → references_fault w owner seen references ≡ None → AreGood w owner references
  unfolding references_fault
  good seen (x ∷ xs) none r (suc i, is) = good (x.handle.0 ∷ seen) xs (or-none _ _ none).1 r (i, is)
  good seen x1 x2 r x4 = grind (basics, good-one, or-none)

-- ---- a handle that is given up doesn't bring a value back

pub alike-away : {w w' : Core} → Alike w w' → (n : ℕ) → StaysAway w w' n
alike-away {w} {w'} a n = grind (arith, alike)

pins-left : (n : ℕ) (gone : ℕ → Bool) (rows more : List HandleRow) → pins n more ≡ 0 → pins n (left_rows gone rows ++ more) ≤ pins n rows
pins-left n gone [] more none = grind arith
pins-left n gone (h ∷ hs) more none =
    grind (
      basics,
      sum_by-cons (λ x. one (is_pin n x)) h hs,
      sum_by-cons (λ x. one (is_pin n x)) h (left_rows gone hs ++ more),
      pins-left n gone hs more none,
    )

pub no-pins : (n last : ℕ) (entries : List HandleRow) → AreNewEntries last entries → pins n entries ≡ 0
no-pins n last [] new = refl
no-pins n last (h ∷ hs) (number, mode, owner, new) = grind (basics, one, no-pins n (last + 1) hs new)

pub fell-away : {before w w' : Core} {given : ℕ → Bool} {r : _} → Falls before w given r w' → (n : ℕ) → StaysAway w w' n
fell-away {before} {w} {w'} f n = grind (arith, fell, pins-left, no-pins)

-- What is answered as pinned is a handle that pins: of a call, of a load's last step and of a worker's pin.

abbrev pub AreLow : Core → Type 0
AreLow w = AreUpTo w.last.handle w.rows

pub low-whole : {w : Core} → HandlesAreWhole w → AreLow w
low-whole whole h among = (whole.numbered h among).1

pub low-changed : (last : ℕ) (rows : List HandleRow) (test : HandleRow → Bool) (f : HandleRow → HandleRow) → ((h : HandleRow) → (f h).number ≡ h.number)
    → AreUpTo last rows → AreUpTo last (changed test f rows)
low-changed last rows test f same low h among =
    let a = among-changed (λ h. if test h then f h else h) rows h among in
    subst (λ (k : HandleNumber). k.0 ≤ last) (sym (ap (λ (r : HandleRow). r.number) a.2 ∙ after-number test f same a.0)) (low a.0 a.1)

pub new-handle : (w : Core) (node : NodeNumber) (mode : Mode) (owner : Owner) → AreLow w
    → Stands (w.last.handle + 1) (w.rows ++ row_of (w.last.handle + 1) node mode owner ∷ []) (w.last.handle + 1) (row_of (w.last.handle + 1) node mode owner)
new-handle w node mode owner low = stands-new w.last.handle w.rows (row_of (w.last.handle + 1) node mode owner) low refl

-- the handle is its owner's, and pins this node
pub record PinOf (w : Core) (me : Owner) (node : NodeNumber) (k : HandleNumber) : Type 0 where
  pub pin : HasPin w k
  pub own : pin.row.owner ≡ me
  pub at : pin.row.node ≡ node

pub pins-by : {last : ℕ} (w : Core) {row : HandleRow} (k : HandleNumber) (q : ℕ) → k.0 ≡ q → Stands last w.rows q row → is_pinning row.mode ≡ true
    → PinOf w row.owner row.node k
pins-by w {row = row} k q is s pins = record {
  pin = record { row = row; live = subst (λ n. find_row n w.rows ≡ Some row) (sym is) s.live; is = pins };
  own = refl;
  at = refl;
}

-- the pin that is made of a loose handle
pinned-new : (u : Core) (h : HandleNumber) (node : NodeNumber) (me : Owner) → AreLow u
    → Stands (with_pin u h node me).last.handle (with_pin u h node me).rows (u.last.handle + 1) (row_of (u.last.handle + 1) node Mode.Pinned me)
pinned-new u h node me low = new-handle (with_mode u h Mode.LoosePinned) node Mode.Pinned me
    (low-changed u.last.handle u.rows (is_handle h.0) (λ r. record r { mode = Mode.LoosePinned }) (λ r. refl) low)

module _ (w w' : Core) (low : AreLow w) where
  pub pin-call : (me : Owner) (h k : HandleNumber) (c : PinCall w me h (Ok (Pinning.Pinned k)) w') → PinOf w' me c.pins.0.node k
  pin-call me h k c = pins-by w' k (w.last.handle + 1) c.pins.2.1.above (stands-alike {w = with_pin w h c.pins.0.node me} c.pins.2.2
      (pinned-new w h c.pins.0.node me low)) refl

  pub clone-call : (me : Owner) (h k : HandleNumber) → CloneCall w me h (Ok k) w'
      → (row : HandleRow) × (row_at w h ≡ Some row) × Stands w'.last.handle w'.rows (w.last.handle + 1) (row_of (w.last.handle + 1) row.node row.mode me)
  clone-call me h k c = search (rules, stands-alike, new-handle)

  -- what the load owned goes, and not the pin
  owned-none : (l : LoadNumber) → is_owned_in w (Owner.Load l) (w.last.handle + 1) ≡ false
  owned-none l = let none = none-above w.last.handle (w.last.handle + 1) w.rows low (omega arith) in rw none refl

  pin-stays : (u : Core) (h : HandleNumber) (node : NodeNumber) (me : Owner) (k : HandleNumber) (given : ℕ → Bool) → NotValues me → AreLow u → u.last.handle
      ≡ w.last.handle
      → k.0 ≡ w.last.handle + 1 → given (w.last.handle + 1) ≡ false → FallsAnyhow w (with_pin u h node me) given w' → PinOf w' me node k
  pin-stays u h node me k given free low' same next kept f =
      let q : u.last.handle + 1 ≡ w.last.handle + 1 = ap (λ n. n + 1) same in
      pins-by w' k (u.last.handle + 1) (next ∙ sym q) (stands-fell f.falls free (ap given q ∙ kept) (pinned-new u h node me low')) refl

  pub end-call : {N : Type 0} (me : Owner) (l : LoadNumber) (x : N) (t : ℕ) (references : List ArcRef) (k : HandleNumber) → NotValues me
      → (c : EndCall w me l x t references (Ok k) w')
      → PinOf w' me c.installs.0 k
  end-call me l x t references k free c =
      let (node, h, may, i) = c.installs in
      elim i.falls [
        | inl (away, f) ↦ pin-stays (record (without_load w l) { rows = moved (is_named_by references) (Owner.Value node) w.rows }) h node me k _ free
            (low-changed w.last.handle w.rows (λ r. is_named_by references r.number.0) (λ r. record r { owner = Owner.Value node }) (λ r. refl) low) refl
            i.next.above
            (ap (λ b. b && not (is_named_by references (w.last.handle + 1))) (owned-none l)) f
        | inr (there, f) ↦ pin-stays (without_load w l) h node me k (is_owned_in w (Owner.Load l)) free low refl i.next.above (owned-none l) f
      ]

pub not-loose : (mode : Mode) → is_loose mode ≡ false → is_pinning mode ≡ true
not-loose x0 is = grind basics

pub low-handle : (w m : Core) (node : NodeNumber) (mode : Mode) (owner : Owner) → AreLow w → Alike (with_handle w node mode owner) m → AreLow m
low-handle w m node mode owner low a h among =
    let there = subst (λ rows. Among rows h) a.rows among in
    grind (basics, among-either w.rows (row_of (w.last.handle + 1) node mode owner ∷ []) there.0 h there.1, only-one, low h)

module _ {N B W : Type 0} (m : Seen N B W) (v : ℕ) (s s' : WorkerState) (low : AreLow s.core) where
  held : (todo : List Todo) (i : Identity) (k : HandleNumber) → workers.WorkDoes m v s todo (Action.Pin i (Ok (PinStep.Pinned k))) s'
      → HasPin s'.core k × (answer_after {W = W} todo (Action.Pin i (Ok (PinStep.Pinned k))) ≡ None)
  held (to_pin r place ∷ below) i k (is, p) = (
    elim p.pins.1 [
      | inl (sort, same, clone) ↦
          let c = clone-call s.core s'.core low (owner_worker v) r.handle k clone in
          (pins-by s'.core k (s.core.last.handle + 1) clone.made.2.above c.2 (not-loose c.0.mode (rw (same_some _ _ (sym sort.live ∙ c.1)) at sort.sort))).pin
      | inr (sort, (mid, clone, pin)) ↦ (pin-call mid s'.core (low-handle s.core mid _ _ _ low clone.made.3) (owner_worker v) p.pins.0 k pin).pin
    ],
    refl,
  )
  held (to_load r place through reading ∷ below) i k (is, p) =
      let e = p.goes.0.does.0 in ((end-call s.core s'.core low (owner_worker v) reading.load e.x _ _ k (λ n is. absurd (cc)) e.ended).pin, refl)
  held _ i k does = absurd does

-- each pin of an event that answers one
pub pins-hold : {N B W : Type 0} (m : Seen N B W) (u u' : World) (event : Event N B W) (reply : EventReply N B W) → HandlesAreWhole u.core
    → Happens m u event reply u' → PinHolds event reply u'.core
pins-hold m u u' (Event.Call (Call.Pin h)) (EventReply.CallReply (Reply.Pin (Ok (Pinning.Pinned k)))) whole happens =
    (pin-call u.core u'.core (low-whole whole) Owner.Caller h k happens.step.does).pin
pins-hold m u u' (Event.LoadStep l) (EventReply.LoadMoved (Ok reply)) whole happens = λ k is.
    let e = rw is at happens.moves.does.does in (end-call u.core u'.core (low-whole whole) Owner.Caller happens.moves.reading.load e.0.x _ _ k
    (λ n is. absurd (cc)) e.0.ended).pin
pins-hold m u u' (Event.Call (Call.LoadEnd l x)) (EventReply.CallReply (Reply.LoadEnded (Ok k))) whole happens =
    (end-call u.core u'.core (low-whole whole) Owner.Caller l x _ _ k (λ n is. absurd (cc)) happens.step.does).pin
pins-hold {W = W} m u u' (Event.WorkerStep n) (EventReply.WorkerMoved (Ok reply)) whole happens = λ i k is.
    let steps = happens.moves in grind (basics, find_row, held m n.0 _ steps.after (low-whole whole) steps.walking.todo i k (rw is at steps.does.does))
pins-hold m u u' event reply whole happens = tt
