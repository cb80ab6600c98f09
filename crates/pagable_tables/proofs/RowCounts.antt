-- Rows, one by one and counted, as they are added and changed, and what is left as handles are removed.
use Rattle.pagable_tables.proofs.{
  HandleTable.none-found,
  Words.{AllPairs, Among, AreNewEntries, Bool, Cell, Core, HandleNumber, HandleRow, HandlesAreWhole, IsEntryWhole, IsHandleBefore, IsRootWhole, IsWhole},
  Words.{IsWithin, List, LoadNumber, MayOwnHandle, MayOwnLoad, Mode, NodeNumber, None, OpenLoad, Option, OptionalDataKey, Owner, SameAt, Some, all_pairs_push},
  Words.{and-true, ap, append-nil, append_assoc, arith, basics, changed, false, filter, find_row, get_or, get_or-map, get_or_from_slice_get, greatest, has_key},
  Words.{held, if_there, if◌then◌else◌, inl, inr, is_at, is_handle, is_loose, is_owned_by, is_share, is_shared, is_some, length, length-map, map, nat_lt, not},
  Words.{of_cell, one, refl, sharing, slice_get-get_or, slice_get_within, subst, suc, sum_by, sum_by-cons, sum_by-le-sum_by, sym, times, true, zero, ℕ, []},
  Words.{◌&&◌, ◌++◌, ◌+◌, ◌<◌, ◌==◌, ◌∙◌, ◌∷◌, ◌≡◌, ◌≤◌, ◌⊎◌},
}
use Rattle.std.proofs.lemmas.List.{map-id}
pub use Rattle.pagable_pager_spec.proofs.Elements.{among-left, among-map, among-one, at-most-sum, counted, found-among, once, sum-none}

-- ---- one by one

pub among-both : {X : Type 0} (xs ys : List X) (z : X) → Among (xs ++ ys) z → Among xs z ⊎ Among ys z
among-both (x ∷ xs) ys z (suc i, is) = elim (among-both xs ys z (i, is)) [ inl a ↦ inl (suc a.0, a.1) | inr a ↦ inr a ]
among-both x0 ys z x3 = grind basics

pub among-last : {X : Type 0} (xs : List X) (x : X) → Among (xs ++ x ∷ []) x
among-last [] x = (zero, refl)
among-last (y ∷ ys) x = let a = among-last ys x in (suc a.0, a.1)

pub among-more : {X : Type 0} (xs ys : List X) (x : X) → Among xs x → Among (xs ++ ys) x
among-more (z ∷ zs) ys x (suc i, is) = let r = among-more zs ys x (i, is) in (suc r.0, r.1)
among-more x0 ys x x3 = grind basics

-- what both cases give of a row to which f may be done
pub each-changed : {X : Type 0} (test : X → Bool) (f : X → X) (P : X → Type 0) (x : X) → (test x ≡ true → P (f x)) → (test x ≡ false → P x)
    → P (if test x then f x else x)
each-changed test f P x does not-so = grind basics

-- a row of changed ones, of which the row before is known
pub among-changed : {X : Type 0} (test : X → Bool) (f : X → X) (P : X → Type 0) (xs : List X) (x : X) → Among (changed test f xs) x
    → ((y : X) → Among xs y → test y ≡ true → P (f y))
    → ((y : X) → Among xs y → test y ≡ false → P y) → P x
among-changed test f P xs x among does stays = grind (basics, among-map (λ z. if test z then f z else z) xs x among, each-changed)

-- ---- counted

pub sum-less : {X : Type 0} (f g : X → ℕ) (xs : List X) (x : X) → ((y : X) → f y ≤ g y) → Among xs x → f x < g x → sum_by f xs < sum_by g xs
sum-less f g (y ∷ ys) x le (suc i, is) lt = grind (basics, sum_by-le-sum_by, sum_by-cons, sum-less f g ys x le (i, is) lt)
sum-less f g x2 x le x5 lt = grind (basics, sum_by-le-sum_by, sum_by-cons)

pub sum-map : {X : Type 0} (f g : X → ℕ) (to : X → X) (xs : List X) → ((x : X) → Among xs x → f (to x) ≡ g x) → sum_by f (map to xs) ≡ sum_by g xs
sum-map f g to [] h = refl
sum-map f g to (x ∷ xs) h = grind (basics, sum_by-cons, sum-map f g to xs (λ y among. h y (suc among.0, among.1)))

pub same-sum : {X : Type 0} (f g : X → ℕ) (xs : List X) → ((x : X) → Among xs x → f x ≡ g x) → sum_by f xs ≡ sum_by g xs
same-sum f g xs h = ap (sum_by f) (sym (map-id xs)) ∙ sum-map f g (λ x. x) xs h

-- ---- numbers

-- the order stays where numbers do, and where a greater number comes
pub ordered-map : (to : HandleRow → HandleRow) (rows : List HandleRow) → ((h : HandleRow) → (to h).number.0 ≡ h.number.0) → AllPairs IsHandleBefore rows
    → AllPairs IsHandleBefore (map to rows)
ordered-map to rows same ordered j k d less lt = grind (
  basics,
  length-map rows to,
  get_or-map to rows j d d,
  get_or-map to rows k d d,
  ordered j k d less,
  same,
)

pub ordered-push : (rows : List HandleRow) (row : HandleRow) → ((h : HandleRow) → Among rows h → h.number.0 < row.number.0) → AllPairs IsHandleBefore rows
    → AllPairs IsHandleBefore (rows ++ row ∷ [])
ordered-push rows row above ordered = all_pairs_push IsHandleBefore rows row ordered (λ k d lt. above (get_or rows k d) (k, slice_get-get_or rows k d lt))

first-less : (x : HandleRow) (xs : List HandleRow) → AllPairs IsHandleBefore (x ∷ xs) → (y : HandleRow) → Among xs y → x.number.0 < y.number.0
first-less x xs ordered y (j, at) = grind (arith, slice_get_within xs j y at, get_or_from_slice_get xs j y x at, ordered 0 (suc j) x)

-- two sums that are the same but at one row
pub apart-sum : (f g : HandleRow → ℕ) (rows : List HandleRow) (row : HandleRow) → AllPairs IsHandleBefore rows → Among rows row
    → ((x : HandleRow) → (x.number.0 == row.number.0) ≡ false → f x ≡ g x)
    → sum_by f rows + g row ≡ sum_by g rows + f row
apart-sum f g [] row ordered among same = let a = among.1 in absurd (cc)
apart-sum f g (x ∷ xs) row ordered (zero, is) same =
    grind (
      basics,
      sum_by-cons f x xs,
      sum_by-cons g x xs,
      same-sum f g xs
          (λ y among. same y (grind (basics, first-less x xs ordered y among))),
    )
apart-sum f g (x ∷ xs) row ordered (suc i, is) same =
    let less = first-less x xs ordered row (i, is) in
    omega (
      arith,
      sum_by-cons f x xs,
      sum_by-cons g x xs,
      same x (grind basics),
      apart-sum f g xs row (λ j k d less lt. ordered (suc j) (suc k) d (omega arith) (omega arith)) (i, is) same,
    )

pub only-at : (f : HandleRow → ℕ) (rows : List HandleRow) (row : HandleRow) → AllPairs IsHandleBefore rows → Among rows row
    → ((x : HandleRow) → (x.number.0 == row.number.0) ≡ false → f x ≡ 0)
    → sum_by f rows ≡ f row
only-at f rows row ordered among none = omega (arith, sum-none (λ x. 0) rows (λ x there. refl), apart-sum f (λ x. 0) rows row ordered among none)

pub found-so : (q : ℕ) (rows : List HandleRow) (row : HandleRow) → AllPairs IsHandleBefore rows → Among rows row → row.number.0 ≡ q → find_row q rows ≡ Some row
found-so q rows row ordered among number = at (find_row q rows) refl
  where
    at : (found : Option HandleRow) → find_row q rows ≡ found → find_row q rows ≡ Some row
    at (Some y) e = let a = found-among q rows y e in e ∙ ap Some (once rows ordered y row a.0 among (a.1 ∙ sym number))
    at None e = absurd (grind (basics, none-found q rows e, at-most-sum (λ h. one (is_handle q h)) rows row among))

-- ---- what is left

-- What is counted of one number: all of it is left, or nothing.
module _ {X : Type 0} (number : X → ℕ) (f : X → Bool) (q : ℕ) (only : (x : X) → f x ≡ true → number x ≡ q) (gone : ℕ → Bool) where
  pub one-left : (b : Bool) → gone q ≡ b → (xs : List X) → times f (filter (λ x. not (gone (number x))) xs) ≡ (if b then 0 else times f xs)
  one-left b e [] = grind basics
  one-left b e (x ∷ xs) = grind (
    basics,
    one-left b e xs,
    sum_by-cons (λ y. one (f y)) x xs,
    sum_by-cons (λ y. one (f y)) x (filter (λ x. not (gone (number x))) xs),
    only x,
  )

pub within-goes : (rows : List HandleRow) (given gone : ℕ → Bool) (h : HandleRow) → IsWithin rows given gone → Among rows h → given h.number.0 ≡ true
    → gone h.number.0 ≡ true
within-goes rows given gone h within among is = grind (basics, at-most-sum (λ x. one (given x.number.0 && not (gone x.number.0))) rows h among)

-- ---- what comes

pub record IsEntry (last few : ℕ) (h : HandleRow) : Type 0 where
  pub above : last < h.number.0
  pub number : h.number.0 ≤ last + few
  pub mode : h.mode ≡ Mode.LooseUnpinned
  pub owner : h.owner ≡ Owner.List

pub entry-is : (last : ℕ) (entries : List HandleRow) (h : HandleRow) → AreNewEntries last entries → Among entries h → IsEntry last (length entries) h
entry-is last (x ∷ xs) h new (suc i, is) = grind (basics, entry-is (last + 1) xs h new.3 (i, is))
entry-is last x1 h new x4 = grind basics

pub entries-listed : (q last : ℕ) (entries : List HandleRow) → AreNewEntries last entries
    → times (λ (h : HandleNumber). h.0 == q) (map (λ (h : HandleRow). h.number) entries) ≡ times (λ h. is_handle q h && is_owned_by Owner.List h) entries
entries-listed q last [] new = refl
entries-listed q last (x ∷ xs) new =
    grind (
      basics,
      entries-listed q (last + 1) xs new.3,
      sum_by-cons (λ h. one (is_handle q h && is_owned_by Owner.List h)) x xs,
      and-true,
      sum_by-cons (λ h. one (h.0 == q)) x.number (map (λ h. h.number) xs),
    )

pub ordered-entries : (last : ℕ) (rows entries : List HandleRow) → ((h : HandleRow) → Among rows h → h.number.0 ≤ last) → AreNewEntries last entries
    → AllPairs IsHandleBefore rows
    → AllPairs IsHandleBefore (rows ++ entries)
ordered-entries last rows [] few new ordered = rw (append-nil rows) ordered
ordered-entries last rows (x ∷ xs) few new ordered = rw (append_assoc rows (x ∷ []) xs) at
    (ordered-entries (last + 1) (rows ++ x ∷ []) xs (λ h among. grind (basics, among-both rows (x ∷ []) h among, among-one x h, few h, new.0)) new.3
    (ordered-push _ x (λ h among. omega (arith, few h among)) ordered))

-- ---- a change of a whole world, as small as a row, an entry or a load: what has to be shown of it, and that the world is whole then

abbrev pub type_in : Option Cell → Option ℕ
type_in cell = if_there (λ (cell : Cell). Some cell.node_type) None cell

abbrev pub keyed_in : Option Cell → Bool
keyed_in cell = has_key (if_there (λ (cell : Cell). cell.key) OptionalDataKey.None cell)

-- ---- rows

-- a row of the node, Shared or not
pub record HasLike (rows : List HandleRow) (n : ℕ) (shared : Bool) : Type 0 where
  pub row : HandleRow
  pub there : Among rows row
  pub at : row.node.0 ≡ n
  pub same : is_shared row.mode ≡ shared

-- a row that was there, perhaps another's now, or in another mode that is Shared or not as before, and loose if it was
pub record IsOld (rows : List HandleRow) (h : HandleRow) : Type 0 where
  pub row : HandleRow
  pub there : Among rows row
  pub number : row.number.0 ≡ h.number.0
  pub node : row.node ≡ h.node
  pub shared : is_shared row.mode ≡ is_shared h.mode
  pub loose : is_loose row.mode ≡ true → is_loose h.mode ≡ true

pub stays-old : {rows : List HandleRow} {h : HandleRow} → Among rows h → IsOld rows h
stays-old {rows} {h} among = record { row = h; there = among; number = refl; node = refl; shared = refl; loose = λ is. is }

-- a row that comes beside others of its node, that are Shared or not as it is, or with its node
pub record IsNew (w u : Core) (fresh : Bool) (h : HandleRow) : Type 0 where
  pub above : w.last.handle < h.number.0
  pub few : h.number.0 ≤ u.last.handle
  pub like : HasLike w.rows h.node.0 (is_shared h.mode) ⊎ ((w.last.node < h.node.0) × (h.node.0 ≤ u.last.node) × (is_shared h.mode ≡ fresh)
      × (fresh ≡ true → keyed_in (u.cells h.node.0) ≡ false))

-- rows and nodes as they go on
pub record GoOn (w u : Core) : Type 0 where
  pub last : (w.last.handle ≤ u.last.handle) × (w.last.node ≤ u.last.node) × (w.last.load ≤ u.last.load)
  pub ordered : AllPairs IsHandleBefore u.rows
  pub fresh : Bool
  pub rows : (h : HandleRow) → Among u.rows h → IsOld w.rows h ⊎ IsNew w u fresh h
  pub live : (n : ℕ) → is_some (u.cells n) ≡ nat_lt 0 (held n u.rows)
  pub typed : (n t : ℕ) → n ≤ w.last.node → type_in (u.cells n) ≡ Some t → type_in (w.cells n) ≡ Some t
  pub keyed : (n : ℕ) → HasLike w.rows n true → n ≤ w.last.node → keyed_in (w.cells n) ≡ false → keyed_in (u.cells n) ≡ false

pub same-rows : {w u : Core} → IsWhole w → u.rows ≡ w.rows → SameAt w.cells u.cells → u.last.node ≡ w.last.node → u.last.handle ≡ w.last.handle
    → w.last.load ≤ u.last.load → GoOn w u
same-rows {w} {u} whole rows cells node handle load = grind (basics, stays-old)

-- ---- owners and loads

-- who owns a handle is there; the list's handles wait
abbrev pub IsIn : Core → Mode → Owner → Type 0
IsIn w mode Owner.List = mode ≡ Mode.LooseUnpinned
IsIn w mode (Owner.Load l) = is_some (w.loads l.0) ≡ true
IsIn w mode (Owner.Worker v) = w.workers v.0 ≡ true
IsIn w mode _ = Unit {0}

pub is-in : {w : Core} → IsWhole w → (h : HandleRow) → Among w.rows h → IsIn w h.mode h.owner
is-in {w} whole h among =
    let b = λ (l : LoadNumber). whole.owners_there.loads h l among in
    let c = λ (v : ℕ). whole.owners_there.workers h v among in
    grind (basics, whole.owners_there.waiting h among)

pub holder-in : (w : Core) (mode : Mode) (o : Owner) → MayOwnHandle w o → IsIn w mode o
holder-in w mode o may = grind basics

-- a load that opens, of a root that w tells
pub record IsNewLoad (w u : Core) (l : ℕ) (load : OpenLoad) : Type 0 where
  pub numbered : (0 < l) × (l ≤ u.last.load)
  pub root : (node : NodeNumber) (t : ℕ) (h : HandleNumber) → load.root ≡ of_cell node t h → IsRootWhole w node t h

-- who may own a load still may, while workers stay at work
pub may-own : (w w' : Core) → ((v : ℕ) → w.workers v ≡ true → w'.workers v ≡ true) → (o : Owner) → MayOwnLoad w o → MayOwnLoad w' o
may-own w w' stay h may = grind basics

-- a load that is open then, and was: who owns it still may
pub loads-stay : {w u : Core} → IsWhole w → ((v : ℕ) → w.workers v ≡ true → u.workers v ≡ true) → (l : ℕ) (load : OpenLoad) → w.loads l ≡ Some load
    → MayOwnLoad u load.owner × ((w.loads l ≡ Some load) ⊎ IsNewLoad w u l load)
loads-stay {w} {u} whole stay l load is = (may-own w u stay _ (whole.loads.owned l load is), inl is)

-- ---- the whole

pub record Keeps (w u : Core) : Type 0 where
  pub on : GoOn w u
  pub within : (u.last.handle ≤ greatest) × (u.last.node ≤ greatest) × (u.last.load ≤ greatest)
  pub places : (length u.rows ≤ u.places.handles) × (length u.list ≤ u.places.entries)
  pub listed : (q : ℕ) → times (λ (h : HandleNumber). h.0 == q) u.list ≡ times (λ h. is_handle q h && is_owned_by Owner.List h) u.rows
  pub owners : (h : HandleRow) → Among u.rows h → IsIn u h.mode h.owner
  pub loads : (l : ℕ) (load : OpenLoad) → u.loads l ≡ Some load → MayOwnLoad u load.owner × ((w.loads l ≡ Some load) ⊎ IsNewLoad w u l load)
  pub cache : (kind key n : ℕ) → u.cache kind key ≡ Some n → IsEntryWhole w kind n
  pub workers : (v : ℕ) → u.workers v ≡ true → v ≤ u.last.worker
  -- the storage is taken to be open
  pub stands_open : u.closed ≡ false

pub at-then : (n : ℕ) (h : HandleRow) → 0 < one (is_at n h) → h.node.0 ≡ n
at-then n h some = grind basics

share-then : (n : ℕ) (h : HandleRow) → 0 < one (is_share n h) → (h.node.0 ≡ n) × (is_shared h.mode ≡ true)
share-then n h some = grind basics

pub held-some : (n : ℕ) (rows : List HandleRow) (h : HandleRow) → Among rows h → h.node.0 ≡ n → 0 < held n rows
held-some n rows h among e = grind (basics, at-most-sum (λ x. one (is_at n x)) rows h among)

pub there-then : {w : Core} → IsWhole w → (h : HandleRow) → Among w.rows h → is_some (w.cells h.node.0) ≡ true
there-then {w} whole h among = let a = held-some _ _ h among refl in let b : nat_lt 0 (held h.node.0 w.rows) ≡ true =
    grind basics in whole.handles.live h.node.0 ∙ b

-- rows of one node are all Shared, or none is
abbrev pub AreAlike : List HandleRow → Type 0
AreAlike rows = (x y : HandleRow) → Among rows x → Among rows y → x.node.0 ≡ y.node.0 → is_shared x.mode ≡ is_shared y.mode

shared-by : {w : Core} → IsWhole w → (x : HandleRow) → Among w.rows x → is_shared x.mode ≡ nat_lt 0 (sharing x.node.0 w.rows)
shared-by {w} whole x among =
    grind (
      basics,
      whole.handles.uniform x.node.0,
      at-most-sum (λ h. one (is_share x.node.0 h)) w.rows x among,
      sum-less (λ h. one (is_share x.node.0 h)) (λ h. one (is_at x.node.0 h)) w.rows x (λ h. grind basics) among,
    )

pub alike-rows : {w : Core} → IsWhole w → AreAlike w.rows
alike-rows {w} whole x y there here same = shared-by whole x there ∙ ap (λ n. nat_lt 0 (sharing n w.rows)) same ∙ sym (shared-by whole y here)

uniform-rows : (n : ℕ) (rows : List HandleRow) → AreAlike rows → (k : ℕ) → sharing n rows ≡ k → (sharing n rows ≡ 0) ⊎ (sharing n rows ≡ held n rows)
uniform-rows n rows alike x4 is = grind (basics, counted, share-then, same-sum, alike)

module _ {w u : Core} (whole : IsWhole w) (k : Keeps w u) where
  given : (n : ℕ) (shared : Bool) → HasLike w.rows n shared → (0 < n) × (n ≤ w.last.node)
  given n shared like = rw like.at at (whole.handles.nodes_numbered like.row.node.0 (there-then whole _ like.there))

  like : (h : HandleRow) → Among u.rows h → HasLike w.rows h.node.0 (is_shared h.mode)
      ⊎ ((w.last.node < h.node.0) × (h.node.0 ≤ u.last.node) × (is_shared h.mode ≡ k.on.fresh) × (k.on.fresh ≡ true → keyed_in (u.cells h.node.0) ≡ false))
  like h among = grind (basics, k.on.rows h among)

  handles : HandlesAreWhole u
  handles =
      let h = whole.handles in
      record {
        ordered = k.on.ordered;
        numbered = λ x among. elim (k.on.rows x among) [
          | inl old ↦ let n = h.numbered old.row old.there in let b = old.number in let c = k.on.last in (omega arith, omega arith)
          | inr new ↦ let a = new.above in let b = new.few in (omega arith, omega arith)
        ];
        nodes_numbered = λ n some.
            let (x, among, counts) = counted (λ h. one (is_at n h)) u.rows (grind (basics, k.on.live n)) in
            grind (basics, given, at-then n x counts, like x among, k.on.last);
        within = k.within;
        live = k.on.live;
        uniform = λ n. uniform-rows n u.rows (λ x y there here same. grind (basics, given, alike-rows whole, like x there, like y here)) (sharing n u.rows)
            refl;
        unkeyed = λ n some. let (x, among, counts) = counted (λ h. one (is_share n h)) u.rows some in let (at, is) =
            share-then n x counts in subst (λ m. keyed_in (u.cells m) ≡ false) at (keyless x among is);
        places = k.places;
      }
    where
      keyless : (x : HandleRow) → Among u.rows x → is_shared x.mode ≡ true → keyed_in (u.cells x.node.0) ≡ false
      keyless x among is = grind (basics, shared-by whole, given, whole.handles.unkeyed x.node.0, k.on.keyed x.node.0, like x among)

  root : (node : NodeNumber) (t : ℕ) (h : HandleNumber) → IsRootWhole w node t h → IsRootWhole u node t h
  root node t h r =
      let so = λ (x : HandleRow) (there : Among w.rows x) (same : x.number.0 ≡ h.0). r.begun x (found-so h.0 _ x whole.handles.ordered there same) in
      record {
        typed = λ type is. r.typed type (k.on.typed node.0 type r.given.1 is);
        begun = λ row is. let found = found-among h.0 u.rows row is in grind (basics, so, k.on.rows row found.0);
        given = let a = r.given in let b = k.on.last in (omega arith, omega arith);
      }

  pub keeps-whole : IsWhole u
  keeps-whole = record {
    handles = handles;
    owners_there = record {
      listed = k.listed;
      waiting = λ h among is. rw is at (k.owners h among);
      loads = λ h l among is. rw is at (k.owners h among);
      workers = λ h v among is. rw is at (k.owners h among);
    };
    loads = record {
      numbered = λ l some. grind (basics, k.loads, whole.loads.numbered, k.on.last);
      owned = λ l load is. (k.loads l load is).0;
      roots = λ l load node t h is of. root node t h (elim (k.loads l load is).1
          [ inl was ↦ whole.loads.roots l load node t h was of | inr new ↦ new.root node t h of ]);
    };
    cache = λ kind key n is. grind (basics, like, k.on.typed, k.cache kind key n is);
    workers_numbered = k.workers;
    shut = λ so. absurd (let stands = k.stands_open in cc);
  }
