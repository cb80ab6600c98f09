-- Calls that list handles, take them from the list or release them keep the world whole.
use Rattle.pagable_pager_spec.specs.Workers.{WorkerEnds, is_load_of}
use Rattle.pagable_tables.proofs.{
  Counting.of_list,
  OwnedByLoad.no-load,
  RowCounts.{IsIn, alike-rows, among-both, among-last, among-map, among-one, apart-sum, counted, found-among, found-so, holder-in, is-in, keeps-whole},
  RowCounts.{loads-stay, may-own, once, same-rows, stays-old, sum-map, there-then},
  SameViews.{both-none, fault-by, found-map, one-fault, owner-self},
  Views.{Goes, GoesOn, beside, born-whole, falls-lost, lone-falling, loose-unshared, moved-free, moved-on, moved-so, moved-to-value, named-own, named-unlisted},
  Views.{newer-falls, newer-moved, newer-then, not-list, opened, own-of, pin-comes, roomy, roomy-whole, settled, settles, stays-on, then-on},
  Words.{Alike, AllPairs, Among, ArcRef, ArePlaced, BeginCall, Beginning, Bool, CloseCall, Core, Error, Falls, HandOverCall, HandleNumber, HandleRow, Installs},
  Words.{IsEntryWhole, IsHandleBefore, IsRootWhole, IsWhole, Kind, List, LoadNumber, MayEnd, MayOwnHandle, MayOwnLoad, Mode, NodeNumber, None, Ok},
  Words.{OptionalDataKey, Owner, Owns, Result, Root, ScheduleCall, Some, Suits, TakeCall, adopted, ap, arith, basics, cases_eq, cell_fault, false, fits_mode},
  Words.{get_or_from_slice_get, greatest, hand_over_fault, has_key, if_there, if◌then◌else◌, inl, inr, is_handle, is_in, is_loose, is_named_by, is_owned_by},
  Words.{is_owned_in, is_owner, is_shared, is_shared_kind, is_workers, load_fault, mode_of, moved, named_fault, next_node, not, numbers_of, of_cell, one},
  Words.{only_handle, owner_value, owner_worker, references_fault, refl, row_of, shut, slice_get_within, subst, sum_by-remove, sum_by_push, sym, times, true},
  Words.{type_at, type_of, usable, with_cached, with_handle, with_key, with_load, with_mode, with_node, with_pin, with_worker, without_load, without_worker, ℕ},
  Words.{[], ◌&&◌, ◌+◌, ◌<◌, ◌==◌, ◌||◌, ◌∙◌, ◌∷◌, ◌≡◌},
}
use Rattle.std.specs.List.{remove}

-- The handle h of this row alone moves: what the list's handles of a number are then.
lists-moved : {w : Core} → IsWhole w → (h : HandleNumber) (row : HandleRow) (owner : Owner) → Among w.rows row → row.number.0 ≡ h.0 → (q : ℕ)
    → times (of_list q) (moved (only_handle h) owner w.rows) + one (h.0 == q && is_owned_by Owner.List row)
    ≡ times (of_list q) w.rows + one (h.0 == q && is_owner Owner.List owner)
lists-moved {w} whole h row owner among number q =
    let to = λ (x : HandleRow). if only_handle h x.number.0 then record x { owner = owner } else x in
    grind (
      basics,
      sum-map (λ x. one (of_list q x)) (λ x. one (of_list q (to x))) to w.rows (λ x there. refl),
      apart-sum (λ x. one (of_list q (to x))) (λ x. one (of_list q x)) w.rows row whole.handles.ordered among (λ x other. grind basics),
    )

pub schedule-goes : {w w' : Core} (me : Owner) (h : HandleNumber) → IsWhole (opened w) → MayOwnHandle w me → ScheduleCall w me h (Ok tt) w' → Goes w w'
schedule-goes {w} me h whole holder call = let (row, owns, does) = call.moves in elim does [
  | inl (stands_open, alike) ↦
      let (among, number) = found-among h.0 w.rows row owns.live in
      let mine = ap (is_owner Owner.List) owns.own ∙ not-list w me holder in
      let mode : row.mode ≡ Mode.LooseUnpinned = grind (basics, owns.as_asked) in
      settled alike (moved-so {w = opened w} whole (only_handle h) _ _
      (λ q. grind (
        basics,
        sum_by_push (λ k. one (k.0 == q)) w.list h,
        lists-moved {w = opened w} whole h row Owner.List among number q,
        whole.owners_there.listed q,
      ))
      (λ x there e. ap (λ y. y.mode) (once w.rows whole.handles.ordered x row there among (grind basics)) ∙ mode))
      (newer-moved w (only_handle h) _ refl)
  | inr (closed, falls) ↦ lone-falling whole falls.falls
]

pub take-whole : {w : Core} (w' : Core) (me : Owner) (i : ℕ) (h : HandleNumber) → IsWhole w → MayOwnHandle w me → TakeCall w me i (Some h) w'
    → ArePlaced (opened w')
    → IsWhole (opened w')
take-whole {w} w' me i h whole holder call placed = settles (moved-so whole (only_handle h) me _ still
    (λ x there e. holder-in w _ me holder)) call.1 placed
  where
    less : (q : ℕ) → times (λ (k : HandleNumber). k.0 == q) (remove w.list i) + one (h.0 == q) ≡ times (λ (k : HandleNumber). k.0 == q) w.list
    less q = grind (
      basics,
      sum_by-remove (λ k. one (k.0 == q)) w.list i h (slice_get_within w.list i h call.0),
      slice_get_within,
      get_or_from_slice_get,
    )

    still : (q : ℕ) → times (λ (k : HandleNumber). k.0 == q) (remove w.list i) ≡ times (of_list q) (moved (only_handle h) me w.rows)
    still q =
        let entry : (x : HandleRow) × Among w.rows x × (0 < one (of_list h.0 x)) = grind (basics, less h.0, whole.owners_there.listed h.0, counted) in
        let (row, among, counts) = entry in
        let number : row.number.0 ≡ h.0 = grind basics in let owned : is_owned_by Owner.List row ≡ true = grind basics in
        grind (basics, less q, lists-moved whole h row me among number q, whole.owners_there.listed q)

-- ---- a key

-- a cell that isn't shared gets a key
pub keyed-whole : {w : Core} → IsWhole w → (row : HandleRow) → Among w.rows row → (key : ℕ) → is_shared row.mode ≡ false
    → IsWhole (roomy (with_key w row.node key))
keyed-whole {w} whole row there key unshared = keeps-whole whole (record {
  on = grind (basics, stays-old, alike-rows whole);
  within = whole.handles.within;
  places = (omega arith, omega arith);
  listed = whole.owners_there.listed;
  owners = is-in whole;
  loads = loads-stay whole (λ v at. at);
  cache = whole.cache;
  workers = whole.workers_numbered;
  stands_open = refl;
})

-- ---- what the cache gives

pub mode-shared : (kind : ℕ) → is_shared (mode_of kind) ≡ is_shared_kind kind
mode-shared kind = grind basics

-- so the mode of its kind suits the node
pub known-suits : {w : Core} → IsWhole w → (kind key n : ℕ) → usable w kind key ≡ Some n → Suits w (record { 0 = n }) (mode_of kind)
known-suits {w} whole kind key n is = grind (basics, counted, mode-shared)

-- ---- what the cache learns

pub cached-whole : {w : Core} (kind : Kind) (key : ℕ) (n : NodeNumber) → IsWhole w → IsEntryWhole w kind.0 n.0 → IsWhole (roomy (with_cached w kind key n))
cached-whole {w} kind key n whole entry =
    let known : (k q m : ℕ) → (with_cached w kind key n).cache k q ≡ Some m → IsEntryWhole w k m = λ k q m is. grind (basics, whole.cache k q m) in
    keeps-whole whole (grind (basics, same-rows, is-in whole, loads-stay))

-- the cache learns the node of an own handle
pub learns-whole : {w w' : Core} (me : Owner) (kind : Kind) (key : ℕ) (h : HandleNumber) (row : HandleRow) → IsWhole w → Owns w me h (fits_mode kind.0) row
    → type_at w row.node.0 ≡ Some (type_of kind.0) → Alike (with_cached w kind key row.node) w' → ArePlaced (opened w') → IsWhole (opened w')
learns-whole {w} me kind key h row whole owns typed leaves placed =
    let there = (found-among h.0 w.rows row owns.live).0 in
    let given = (whole.handles.nodes_numbered row.node.0 (there-then whole row there)).1 in
    let fits : is_shared row.mode ≡ is_shared_kind kind.0 = grind (basics, owns.as_asked) in
    let entry : IsEntryWhole w kind.0 row.node.0 = grind (basics, alike-rows) in
    settles (cached-whole _ key _ whole entry) leaves placed

-- ---- calls on loads keep the world whole: one load more

pub loaded-whole : {w : Core} (key : ℕ) (root : Root) (me : Owner) → IsWhole w → MayOwnLoad w me → w.last.load < greatest
    → ((node : NodeNumber) (t : ℕ) (h : HandleNumber) → root ≡ of_cell node t h → IsRootWhole w node t h) → IsWhole (roomy (with_load w key root me))
loaded-whole {w} key root me whole may left good =
    let after = roomy (with_load w key root me) in
    let owners : (h : HandleRow) → Among w.rows h → IsIn after h.mode h.owner = λ h among. grind (basics, is-in whole h among) in
    keeps-whole whole (grind (basics, same-rows, loads-stay, may-own))

pub may-hold : (w : Core) (o : Owner) → MayOwnLoad w o → MayOwnHandle w o
may-hold w x1 may = grind basics

pub begin-whole : {w w' : Core} {l : LoadNumber} {key : ℕ} (me : Owner) (h : HandleNumber) → IsWhole w → MayOwnLoad w me
    → BeginCall w me h (Ok (Beginning.Load l key)) w' → ArePlaced (opened w') → IsWhole (opened w')
begin-whole {w} {w'} {l} {key} me h whole may call placed =
    let (row, owns, begins) = call.begins in
    let (away, keyed, next, left, rest) = begins in
    let (t, typed, leaves) = rest in
    let found = found-among h.0 w.rows row owns.live in
    let root : IsRootWhole w row.node t h = grind (basics, there-then, owns.live, owns.as_asked, whole.handles.numbered row found.0) in
    let named : (node : NodeNumber) (t2 : ℕ) (k : HandleNumber) → of_cell row.node t h ≡ of_cell node t2 k → IsRootWhole w node t2 k =
    λ node t2 k is. grind basics in
    settles (beside (loaded-whole key _ me whole may next.is_left named) _ _ _
    (record { row = row; there = found.0; at = refl; same = loose-unshared _ owns.as_asked })
    (grind (basics, next.above)) left).0 leaves placed

-- ---- calls by which a load goes on or ends, and the close of the storage, keep the world whole: a load closes

-- a load closes and what it owns is given
pub closes : {before u w' : Core} {r : Result (Unit {0}) Error} (l : LoadNumber) (given : ℕ → Bool) → IsWhole (roomy u) → GoesOn before u
    → ((h : HandleRow) → Among u.rows h → h.owner ≡ Owner.Load l → given h.number.0 ≡ true) → Falls before (without_load u l) given r w' → ArePlaced (opened w')
    → IsWhole (opened w')
closes {before} {u} l given whole on gives falls placed = falls-lost u (without_load u l) whole on (record {
  listed = λ q. inl (whole.owners_there.listed q);
  owners = λ h among. grind (basics, gives, is-in whole h among);
  loads = λ k load is. let was : u.loads k ≡ Some load = grind basics in (was, whole.loads.owned k load was);
  cache = λ kind key n is. is;
  workers = λ v is. is;
}) falls placed

pub owned-in : {w : Core} → IsWhole w → (l : LoadNumber) (x : HandleRow) → Among w.rows x → x.owner ≡ Owner.Load l → is_owned_in w (Owner.Load l) x.number.0
    ≡ true
owned-in {w} whole l x among own =
    ap (if_there (is_owned_by (Owner.Load l)) false) (found-so _ _ x whole.handles.ordered among refl) ∙ ap (is_owner (Owner.Load l)) own
    ∙ owner-self (Owner.Load l)

-- ---- a load ends

-- A handle of m is pinned, a Pinned one is made and the load closes, where m is what w has become.
module _ (before m : Core) (whole : IsWhole (roomy m)) (on : GoesOn before m) (me : Owner) (may : MayOwnLoad m me) (l : LoadNumber) (h : HandleNumber)
    (row : HandleRow)
    (owns : Owns (roomy m) me h is_loose row) (left : m.last.handle < greatest) (given : ℕ → Bool)
    (gives : (x : HandleRow) → Among m.rows x → x.owner ≡ Owner.Load l → given x.number.0 ≡ true) where
  pinned-gives : (x : HandleRow) → Among (with_pin m h row.node me).rows x → x.owner ≡ Owner.Load l → given x.number.0 ≡ true
  pinned-gives x among own =
      grind (
        basics,
        among-both (with_mode m h Mode.LoosePinned).rows _ x among,
        among-one,
        gives,
        no-load m me l may,
        among-map (λ y. if is_handle h.0 y then record y { mode = Mode.LoosePinned } else y) m.rows x,
      )

  pub ends-goes : {w' : Core} {r : Result (Unit {0}) Error} (node : NodeNumber) → row.node ≡ node
      → Falls before (without_load (with_pin m h node me) l) given r w' → Goes m w'
  ends-goes {w'} {r} node at falls =
      let (pinned, more, newer) = pin-comes {w = roomy m} h row me whole (may-hold m me may) owns left in
      let fell = subst (λ n. Falls before (without_load (with_pin m h n me) l) given r w') (sym at) falls in
      record { whole = closes {u = with_pin m h row.node me} l given pinned (then-on on more) pinned-gives fell; newer = newer-then newer (newer-falls fell) }

-- what the load still owns once handles have moved to another is given
left-given : {w : Core} → IsWhole w → (l : LoadNumber) (s : ℕ → Bool) (o : Owner) → is_owner (Owner.Load l) o ≡ false → (y : HandleRow)
    → Among (moved s o w.rows) y → y.owner ≡ Owner.Load l
    → (is_owned_in w (Owner.Load l) y.number.0 && not (s y.number.0)) ≡ true
left-given {w} whole l s o other y among own =
    let (z, there, is) = among-map (λ z. if s z.number.0 then record z { owner = o } else z) w.rows y among in
    grind (basics, owned-in whole l z there, other)

pub installs-goes : {w w' : Core} {me : Owner} {l : LoadNumber} {node : NodeNumber} {h k : HandleNumber} {node_type : ℕ} {refs : List ArcRef}
    → IsWhole (opened w)
    → MayEnd w me l node h node_type refs → Installs w me l node h k refs w' → Goes w w'
installs-goes {w} {me = me} {l} {node} {h} {refs = refs} whole ends i =
    let may : MayOwnLoad w me = rw ends.owned.own at (whole.loads.owned l.0 ends.load ends.owned.stands_open) in
    elim i.falls [
      | inl (away, falls) ↦
          let s = is_named_by refs in
          let m : Core = record w { rows = moved s (owner_value node.0) w.rows } in
          let goes = ends-goes w m (moved-to-value whole s (named-unlisted whole _ _ refl
          (fault-by w (opened w) _ [] _ ∙ ends.good)) _)
          (moved-on whole s _) me (may-own w m (λ v at. at) me may) l h _ (kept-own may) i.next.is_left
          (λ q. is_owned_in w (Owner.Load l) q && not (is_named_by refs q)) (left-given whole l s _ refl) _ i.at falls.falls in
          record { whole = goes.whole; newer = newer-then (newer-moved w s _ refl) goes.newer }
      | inr (here, falls) ↦
          ends-goes w w (roomy-whole whole) (stays-on w) me may l h _ (record { live = i.owned.live; own = i.owned.own; as_asked = i.owned.as_asked })
          i.next.is_left
          (is_owned_in w (Owner.Load l)) (owned-in whole l) _ i.at falls.falls
    ]
  where
    -- the handle that began the load isn't one of the value's references
    kept-own : MayOwnLoad w me → Owns (roomy (record w { rows = moved (is_named_by refs) (owner_value node.0) w.rows })) me h is_loose i.row
    kept-own may =
        let row = i.row in
        let owns = i.owned in
        let mine = named-own w whole.handles.ordered _ _ ends.good row (found-among h.0 w.rows row owns.live).0 in
        let none = no-load w me l may in
        let spared : is_named_by refs row.number.0 ≡ false = grind basics in
        grind (
          basics,
          found-map (λ y. if is_named_by refs y.number.0 then record y { owner = owner_value node.0 } else y)
              (λ y. grind basics) h.0 w.rows,
          owns.live,
        )

-- ---- a load of a key hands over

pub handed-mine : (w : Core) (owner : Owner) (seen : List ℕ) (hs : List HandleNumber) → named_fault w owner seen hs ≡ None → (q : ℕ) → is_in (numbers_of hs) q
    ≡ true → is_owned_in w owner q ≡ true
unfolding named_fault is_in
handed-mine w owner seen [] good q named = absurd (cc)
handed-mine w owner seen (h ∷ hs) good q named =
    let parts = both-none (one-fault w owner seen h) (named_fault w owner (h.0 ∷ seen) hs) good in
    grind (basics, cases_eq h.0 q, handed-mine w owner (h.0 ∷ seen) hs parts.1 q, parts.0)

pub handed-own : (w : Core) → AllPairs IsHandleBefore w.rows → (l : LoadNumber) (hs : List HandleNumber) → named_fault w (Owner.Load l) [] hs ≡ None
    → (x : HandleRow) → Among w.rows x
    → is_in (numbers_of hs) x.number.0 ≡ true → x.owner ≡ Owner.Load l
handed-own w ordered l hs good x among named = own-of w ordered _ x among (handed-mine w _ [] hs good _ named)

-- what is true where a load may hand over
pub record MayHand (w : Core) (me : Owner) (l : LoadNumber) (hs : List HandleNumber) : Type 0 where
  pub own : load_fault w me l ≡ None
  pub may : MayOwnLoad w me
  pub named : named_fault w (Owner.Load l) [] hs ≡ None

pub may-hand : {w : Core} → IsWhole (opened w) → (me : Owner) (l : LoadNumber) (hs : List HandleNumber) → hand_over_fault w me l hs ≡ None → MayHand w me l hs
may-hand {w} whole me l hs good =
    let cell = if_there (λ load. cell_fault load.root) None (w.loads l.0) in
    let named = named_fault w (Owner.Load l) [] hs in
    let parts = both-none _ _ good in
    let owner : MayOwnLoad w me = grind (basics, whole.loads.owned, parts.0) in
    record { own = parts.0; may = owner; named = (both-none _ _ parts.1).1 }

pub handed-whole : {w : Core} → IsWhole (opened w) → (me : Owner) (l : LoadNumber) (hs : List HandleNumber) → MayHand w me l hs
    → IsWhole (roomy (record w { rows = moved (is_in (numbers_of hs)) me w.rows }))
handed-whole {w} whole me l hs can =
    let holder = may-hold w me can.may in
    moved-free whole (is_in (numbers_of hs)) (λ x among named. ap (is_owner Owner.List) (handed-own w whole.handles.ordered l hs can.named x among named))
    me (not-list w me holder) (λ mode. holder-in w _ me holder)

pub hand-over-whole : {w w' : Core} (me : Owner) (l : LoadNumber) (hs : List HandleNumber) → IsWhole (opened w) → HandOverCall w me l hs (Ok tt) w'
    → ArePlaced (opened w') → IsWhole (opened w')
hand-over-whole {w} me l hs whole call placed =
    let (good, falls) = call.hands in
    let can = may-hand whole me l hs good in
    let s = is_in (numbers_of hs) in
    let m : Core = record w { rows = moved s me w.rows } in
    closes {u = m} l (λ q. is_owned_in w (Owner.Load l) q && not (s q)) (handed-whole whole me l hs can) (moved-on whole s me)
    (left-given whole l s me (no-load w me l can.may)) falls.falls placed

-- ---- the close of the storage

pub close-whole : {w w' : Core} (r : Result (Unit {0}) Error) → IsWhole (opened w) → CloseCall w r w' → ArePlaced (opened w') → IsWhole (opened w')
close-whole {w} {w'} r whole call placed = falls-lost w (shut w w'.failures) (roomy-whole whole) (stays-on w) (record {
  listed = λ q. grind (basics, whole.owners_there.listed q);
  owners = λ h among. inl (is-in whole h among);
  loads = λ l load is. (is, whole.loads.owned l load is);
  cache = λ kind key n is. absurd (cc);
  workers = λ v is. is;
}) call.falls.falls placed

-- ---- a node that was read

module _ (w : Core) (whole : IsWhole (opened w)) (l : LoadNumber) (kind : Kind) (key : ℕ) (own : OptionalDataKey) (refs : List ArcRef)
    (holder : MayOwnHandle w (Owner.Load l))
    (good : references_fault (opened w) (Owner.Load l) [] refs ≡ None) (node_left : w.last.node < greatest) (left : w.last.handle < greatest)
    (unkeyed : is_shared (mode_of kind.0) ≡ true → has_key own ≡ false) where
  abbrev made : Core
  made = with_handle (with_node w (type_of kind.0) own refs) (next_node w) (mode_of kind.0) (Owner.Load l)

  now-whole : IsWhole (roomy made)
  now-whole = born-whole whole _ own _ _ _ _ refl good holder node_left left unkeyed

  pub adopted-whole : IsWhole (roomy (adopted w l kind key own refs))
  adopted-whole = at w.closed
    where
      at : (b : Bool) → IsWhole (roomy (if b then made else with_cached made kind key (next_node w)))
      at true = now-whole
      at false = cached-whole {w = roomy made} _ key _ now-whole (record {
        given = omega arith;
        typed = λ t is. grind basics;
        shares = λ h among at.
            alike-rows now-whole h (row_of (w.last.handle + 1) (next_node w) (mode_of kind.0) (Owner.Load l)) among
            (among-last (moved (is_named_by refs) (owner_value (w.last.node + 1)) w.rows) _) at
            ∙ mode-shared _;
      })

-- ---- a worker that begins or ends keeps the world whole: one worker more

pub worker-whole : {w : Core} → IsWhole w → IsWhole (roomy (with_worker w))
worker-whole {w} whole =
    let owners : (h : HandleRow) → Among w.rows h → IsIn (roomy (with_worker w)) h.mode h.owner = λ h among. grind (basics, is-in whole h among) in
    keeps-whole whole (grind (basics, same-rows, whole.workers_numbered, loads-stay))

-- ---- a worker ends

pub worker-end-whole : {w w' : Core} (v : ℕ) → IsWhole (opened w) → WorkerEnds w v w' → ArePlaced (opened w') → IsWhole (opened w')
worker-end-whole {w} {w'} v whole ends placed =
    let found : (h : HandleRow) → Among w.rows h → is_workers w v h.number.0 ≡ (is_owner (owner_worker v) h.owner || is_load_of w v h.owner) =
    λ h among. ap (if_there (λ (row : HandleRow). is_owner (owner_worker v) row.owner || is_load_of w v row.owner) false)
    (found-so h.number.0 w.rows h whole.handles.ordered among refl) in
    falls-lost w (without_worker w v) (roomy-whole whole) (stays-on w) (record {
      listed = λ q. inl (whole.owners_there.listed q);
      owners = λ h among. grind (basics, is-in whole h among, found h among);
      loads = λ l load is. grind (basics, whole.loads.owned l);
      cache = λ kind key n is. is;
      workers = λ v is. grind basics;
    }) ends.falls placed
