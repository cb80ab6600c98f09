-- The effect of each call on trees, by the call and its reply.
use Rattle.pagable_pager_spec.specs.{
  Calls.{Asked, InsertCall, RecallCall, ReleaseCall, ScheduleCall, StoreCall, with_known},
  Cascade.{FallsAnyhow, only_handle},
  Events.CallDoes,
  LoadCalls.{BeginCall, BeginKeyCall, EndCall, Given, HandOverCall, LoadCloses, LoadFetchCall, is_owned_in, numbers_of, without_load},
  Pager.{CallBrings, IsNewNode},
  WorkerClaims.LeavesCache,
  World.usable,
  declared.{calls.FetchTarget.FetchTarget, pinning.Pinning.Pinning},
}
use Rattle.pagable_theorems.proofs.{
  Effects.{Effect, IsMine, beside, both-none, but, cached, cached-if, entry, fell, forgets, handed, handle, like, load-named, load-owns, moves, no-one, node},
  Effects.{none, none-named, opens, own-handle, own-mode, own-named, owned-mine, shuts, stays, turned, with-key},
  HandlesKept.{Goes, KnowsNext, NotLoads, a-handle, alike-away, begun, fell-away, found-changed, goes-then, good, quiet-goes},
  Trees.{same-number, same_some},
  Words.{Alike, ArcRef, Beginning, Blob, Bool, Call, Change, CloneCall, Core, Err, Error, Event, GetsKnown, HandleNumber, HandleRow, KeepsOpen, Kind, List},
  Words.{LoadNumber, Mode, NodeNumber, None, Ok, Option, OptionalDataKey, Owner, PinCall, Reply, Result, Seen, Some, Values, adopted, ap, arith, basics},
  Words.{bears_known, false, find_row, first_key, inl, inr, is_in, is_named_by, moved, next_node, nothing_felt, of_cell, owner_value, refl, rules, subst, sym},
  Words.{true, with_handle, ℕ, [], ◌∙◌, ◌≡◌, ◌⊎◌},
}
use Rattle.pagable_theorems.specs.{
  TreeSteps.{AreGood, CallFeels, StaysAway, bears_node, feels-adopted, feels-away, feels-birth, feels-end, feels-key, feels-known, feels-lazy, feels-nothing},
  TreeSteps.{knows_node, sets_key},
}

-- ---- each call, and what loads do, by whoever asks

module _ {me : Owner} {lists : Bool} {Asks Leaves : Type 0} {c : Change} where
  unmoved : {w w' : Core} → Alike w w' → Effect me lists Asks Leaves false c w w'
  unmoved a = stays a

  made-handle : {w w' : Core} (node : NodeNumber) (mode : Mode) (owner : Owner) → Alike (with_handle w node mode owner) w'
      → Effect me lists Asks Leaves false c w w'
  made-handle {w = w} node mode owner a = like (handle (none w) node mode owner) a

  -- at most a failure of the storage was noted
  pub noted : {w w' : Core} (failures : ℕ) → Alike (record w { failures = failures }) w' → Effect me lists Asks Leaves false c w w'
  noted {w = w} failures a = like (beside w w.stored failures (λ q b is. is) (λ is. is.1)) a

  pub was-asked : {w w' : Core} → Asked w w' → Effect me lists Asks Leaves false c w w'
  was-asked a = noted _ a.leaves

  pub stores : {digest : Blob → ℕ} {w w' : Core} {blob : Blob} → (r : Result ℕ Error) → StoreCall digest w blob r w' → Effect me lists Asks Leaves false c w w'
  stores {w = w} {w'} (Ok key) x =
      let s = x.stores.1 in like (beside w w'.stored w'.failures (λ q b is. let adds = s.adds in grind (arith, same-number))
      (λ is. absurd (cc))) s.leaves
  stores (Err e) x = was-asked x.refused.0

  pub clones : {w w' : Core} {h : HandleNumber} (r : Result HandleNumber Error) → CloneCall w me h r w' → Effect me lists Asks Leaves false c w w'
  clones x0 x = grind (basics, made-handle, unmoved)

  pub recalls : {w w' : Core} {kind : Kind} {key : ℕ} (r : Result (Option HandleNumber) Error) → RecallCall w me kind key r w'
      → Effect me lists Asks Leaves false c w w'
  recalls x0 x = grind (basics, made-handle, unmoved)

  pub gets-known : {w w' : Core} {l : LoadNumber} {kind : Kind} {key : ℕ} {k : HandleNumber} → GetsKnown w l kind key k w'
      → Effect me lists Asks Leaves false c w w'
  gets-known g = made-handle _ _ _ g.leaves

  pub asks : {w w' : Core} {l : LoadNumber} {want : FetchTarget} (r : Result Given Error) → LoadFetchCall w me l want r w'
      → Effect me lists Asks Leaves false c w w'
  asks x0 x = grind (basics, was-asked, gets-known, same_some, unmoved)

  pub closes : {w w' : Core} (l : LoadNumber) {r : Result (Unit {0}) Error} → (Asks → IsMine w me l) → LoadCloses w l r w'
      → Effect me lists Asks Leaves false c w w'
  closes {w = w} l mine f = fell (shuts (none w) l mine) f (load-owns w l)

  -- one that is known is left, and what the other one refers to is given up
  pub adopts-known : {w w' : Core} (l : LoadNumber) (kind : Kind) (n : ℕ) (references : List ArcRef) → AreGood w (Owner.Load l) references
      → FallsAnyhow w (with_known w kind n (Owner.Load l)) (is_named_by references) w' → Effect me lists Asks Leaves false c w w'
  adopts-known {w = w} l kind n references right f = fell (handle (none w) _ _ (Owner.Load l)) f.falls (load-named w l references right)

  module _ (free : NotLoads me) where
    pub pins : {w w' : Core} {h : HandleNumber} (r : Result Pinning Error) → PinCall w me h r w' → Effect me lists Asks Leaves false c w w'
    pins {w = w} {h = h} (Ok (Pinning.Pinned k)) x = like (handle (own-mode free w h x.pins.0 x.pins.1 Mode.LoosePinned refl) _ Mode.Pinned me) x.pins.2.2
    pins x0 x = grind (basics, unmoved)

    pub schedules : {w w' : Core} (h : HandleNumber) (r : Result (Unit {0}) Error) → ScheduleCall w me h r w' → Effect me lists Asks Leaves false c w w'
    schedules {w = w} h (Ok u) x = elim x.moves.2 [
      | inl (open_still, a) ↦ like (moves (none w) (only_handle h) Owner.List _ (λ l is. absurd (cc)) (own-handle h x.moves.0 x.moves.1)) a
      | inr (closed, f) ↦ fell (none w) f.falls (own-handle h x.moves.0 x.moves.1)
    ]
    schedules h (Err e) x = stays x.refused.stays

    pub hands-over : {w w' : Core} (l : LoadNumber) (hs : List HandleNumber) (r : Result (Unit {0}) Error) → HandOverCall w me l hs r w'
        → Effect me lists Asks Leaves false c w w'
    hands-over {w = w} l hs (Ok u) x =
        let named = both-none _ _ x.hands.0 in
        let mine : IsMine w me l = λ load is. let may = named.0 in grind basics in
        fell (moves (shuts (none w) l (λ own. mine)) (is_in (numbers_of hs)) me w.list free (handed w l hs (both-none _ _ named.1).1)) x.hands.1.falls
        (but (is_owned_in w (Owner.Load l)) (is_in (numbers_of hs)) (load-owns w l))
    hands-over l hs (Err e) x = stays x.refused.1

    -- the caller's handle was not a load's, and isn't one's after references have moved to the value
    pub ends-load : {N : Type 0} {w w' : Core} {x : N} {t : ℕ} {references : List ArcRef} (l : LoadNumber) (r : Result HandleNumber (Error × Option N))
        → EndCall w me l x t references r w'
        → Effect me lists Asks Leaves false c w w'
    ends-load {w = w} {w'} {references = references} l (Ok k) e =
        let (p, h, may, i) = e.installs in
        let closed : Effect me lists Asks Leaves true c w (without_load w l) = shuts (none w) l (λ own. owned-mine may.owned) in
        let own-free : (r : HandleRow) → find_row h.0 w.rows ≡ Some r → NotLoads r.owner =
        λ r found. subst NotLoads (sym (ap (λ (x : HandleRow). x.owner) (same_some _ _ (sym found ∙ i.owned.live)) ∙ i.owned.own)) free in
        let pinned-free : (r : HandleRow) → find_row h.0 (moved (is_named_by references) (owner_value p.0) w.rows) ≡ Some r → NotLoads r.owner = λ r found l is.
        grind (basics, found-changed, same_some, own-free) in
        elim i.falls [
          | inl (away, f) ↦ fell
              (handle (turned (moves closed (is_named_by references) (owner_value p.0) w.list (λ l is. absurd (cc))
              (load-named w l references (good w (Owner.Load l) [] references may.good)))
              h Mode.LoosePinned refl (own-handle h i.row i.owned) pinned-free) p Mode.Pinned me) f.falls
              (but (is_owned_in w (Owner.Load l)) (is_named_by references) (load-owns w l))
          | inr (there, f) ↦ fell (handle (turned closed h Mode.LoosePinned refl (own-handle h i.row i.owned) own-free) p Mode.Pinned me) f.falls
              (load-owns w l)
        ]
    ends-load l (Err (e, Some y)) x = stays x.refused.1.stays
    ends-load l (Err (e, None)) x = closes l (λ own. owned-mine x.refused.may.owned) x.refused.closes

  pub releases : {w w' : Core} (h : HandleNumber) (r : Result (Unit {0}) Error) → ReleaseCall w me h r w' → Effect me lists Asks Leaves false c w w'
  releases {w = w} h r x = elim x.does [ inl refused ↦ stays refused.stays | inr (row, owns, f) ↦ fell (none w) f (own-handle h row owns) ]

module _ {me : Owner} {lists : Bool} {Asks Leaves : Type 0} where
  pub begins : {w w' : Core} {h : HandleNumber} (r : Result Beginning Error) → BeginCall w me h r w' → Effect me lists Asks Leaves false nothing_felt w w'
  begins {w} {w'} {h} (Ok (Beginning.Load l key)) x =
      let row = x.begins.0 in
      let a = x.begins.2 in
      let made = with_handle w row.node Mode.LooseUnpinned (Owner.Load l) in
      like (opens (handle (none w) row.node Mode.LooseUnpinned (Owner.Load l)) key (of_cell row.node a.4.0 h)
      (goes-then (quiet-goes nothing_felt (a-handle w row.node Mode.LooseUnpinned (Owner.Load l)))
      (begun nothing_felt made key (of_cell row.node a.4.0 h) me (λ node t k root. grind (basics, a.4.1, a.1))))) a.4.2
  begins x0 x = grind (basics, stays {me = me} {lists = lists} {Asks = Asks} {Leaves = Leaves} {c = nothing_felt})

  pub begins-key : {w w' : Core} {key : ℕ} (r : Result Beginning Error) → BeginKeyCall w me key r w' → Effect me lists Asks Leaves false nothing_felt w w'
  begins-key x0 x = grind (basics, stays {me = me} {lists = lists} {Asks = Asks} {Leaves = Leaves} {c = nothing_felt})

  -- a node that a load adopts, which the cache gets to know while the storage is open
  pub adopts : {w w' : Core} (l : LoadNumber) (kind : Kind) (key : ℕ) (own : OptionalDataKey) (references : List ArcRef) → usable w kind.0 key ≡ None
      → AreGood w (Owner.Load l) references
      → Alike (adopted w l kind key own references) w' → Effect me lists Asks Leaves false (bears_known kind.0 key own) w w'
  adopts {w} l kind key own references unknown right a = search (rules, like, cached-if, handle, node, load-named)

-- of a load that begins, what trees feel alone
pub begin-goes : {w w' : Core} {me : Owner} {h : HandleNumber} (r : Result Beginning Error) → BeginCall w me h r w' → Goes nothing_felt w w'
begin-goes r x = (begins {lists = false} {Asks = Unit {0}} {Leaves = Unit {0}} r x).goes

-- ---- what trees feel of each call that doesn't close the storage, by the call and its reply

module _ {N B W : Type 0} (m : Seen N B W) (w : Core) (me : Owner) (free : NotLoads me) (w' : Core) where
  -- a change, with what is done and how it is felt
  pub record CallGoes (call : Call N B) (reply : Reply N B) : Type 0 where
    pub change : Change
    pub does : Effect me true (Unit {0}) (LeavesCache {N = N} {B = B} {W = W} (Event.Call call)) false change w w'
    pub feels : CallFeels m.values w me call reply w' change

  so : {call : Call N B} {reply : Reply N B} (c : Change) → Effect me true (Unit {0}) (LeavesCache {N = N} {B = B} {W = W} (Event.Call call)) false c w w'
      → CallFeels m.values w me call reply w' c → CallGoes call reply
  so c does feels = record { change = c; does = does; feels = feels }

  -- nothing is felt, and the call brings no value
  quiet : {call : Call N B} {reply : Reply N B} → ((n : ℕ) (x : N) → CallBrings w call n x → IsNewNode w n ⊎ StaysAway w w' n)
      → Effect me true (Unit {0}) (LeavesCache {N = N} {B = B} {W = W} (Event.Call call)) false nothing_felt w w' → CallGoes call reply
  quiet brings s = so nothing_felt s (feels-nothing brings)

  births : (call : Call N B) (x : N) (mode : Mode) → ((n : ℕ) (y : N) → CallBrings w call n y → (y ≡ x) × IsNewNode w n) → (r : Result HandleNumber (Error × N))
      → InsertCall w me x (m.values.node_type x) (m.values.references x) mode r w' → CallGoes call (Reply.Made r)
  births call x mode brings (Ok k) c =
      let references = m.values.references x in
      let t = m.values.node_type x in
      let right = good w me [] references c.made.0 in
      so (bears_node t OptionalDataKey.None) (like (handle (node w t OptionalDataKey.None references (refl, refl) (own-named w references right))
      (next_node w) mode me) c.made.3)
      (feels-birth x brings right)
  births call x mode brings (Err e) c = quiet (λ n y b. inl (brings n y b).1) (stays c.refused.1.stays)

  pub calls-go : (call : Call N B) (reply : Reply N B) → KeepsOpen {N = N} {B = B} {W = W} (Event.Call call) → CallDoes m w me call reply w'
      → CallGoes call reply
  calls-go (Call.NewPagedOut t key) (Reply.Handle (Ok k)) still c = so (bears_node t (OptionalDataKey.Some key))
      (like (handle (node w t (OptionalDataKey.Some key) [] (refl, refl) (own-named w [] (none-named w me))) (next_node w) Mode.LooseUnpinned me) c.made.2)
      (feels-away t key k)
  calls-go (Call.Clone h) (Reply.Handle r) still c = quiet (λ n x b. absurd b) (clones r c)
  calls-go (Call.Pin h) (Reply.Pin r) still c = quiet (λ n x b. absurd b) (pins free r c)
  calls-go (Call.Unpin h) (Reply.Done r) still c = quiet (λ n x b. absurd b) (elim c.does [
    | inl refused ↦ stays refused.stays
    | inr (row, owns, inl (mode, told, a)) ↦ stays a
    | inr (row, owns, inr (mode, f)) ↦ fell (own-mode free w h row owns Mode.LooseUnpinned refl) f no-one
  ])
  calls-go (Call.Release h) (Reply.Done r) still c = quiet (λ n x b. absurd b) (releases h r c)
  calls-go (Call.IntoPagable h) (Reply.Handle (Ok k)) still c = quiet (λ n x b. absurd b)
      (like (own-mode free w h c.turned.0 c.turned.1 Mode.LoosePinned refl) c.turned.3)
  calls-go (Call.ScheduleForPaging h) (Reply.Done r) still c = quiet (λ n x b. absurd b) (schedules free h r c)
  calls-go (Call.TakePending i) (Reply.TakenPending (Some h)) still c = quiet (λ n x b. absurd b)
      (like (moves (none w) (only_handle h) me _ free (entry refl i h c.0)) c.1)
  calls-go (Call.CacheGet kind key) (Reply.FromCache r) still c = quiet (λ n x b. absurd b) (recalls r c)
  calls-go Call.CacheClear (Reply.Done r) still c = quiet (λ n x b. absurd b) (like (forgets w (λ leaves. leaves)) c.leaves)
  calls-go (Call.Store b) (Reply.Stored r) still c = quiet (λ n x b. absurd b) (stores r c)
  calls-go (Call.LoadBegin h) (Reply.Begun r) still c = quiet (λ n x b. absurd b) (begins r c)
  calls-go (Call.LoadKey key) (Reply.Begun r) still c = quiet (λ n x b. absurd b) (begins-key r c)
  calls-go (Call.LoadFetch l want) (Reply.LoadFound r) still c = quiet (λ n x b. absurd b) (asks _ c)
  calls-go (Call.LoadTake l hs) (Reply.Done r) still c = quiet (λ n x b. absurd b) (hands-over free l hs.items r c)
  calls-go (Call.LoadDrop l) (Reply.Done r) still c = quiet (λ n x b. absurd b)
      (elim c.does [ inl refused ↦ stays refused.stays | inr (load, owned, closing) ↦ closes l (λ own. owned-mine owned) closing ])
  calls-go (Call.SetDataKey h key) (Reply.Done r) still c = elim c.does [
    | inl refused ↦ quiet (λ n x b. absurd b) (stays refused.stays)
    | inr (row, owns, inl (mode, told, a)) ↦ quiet (λ n x b. absurd b) (stays a)
    | inr (row, owns, inr (loose, f)) ↦ so (sets_key row.node.0 key) (fell (with-key w row.node key) f no-one)
        (feels-key h key row (record { live = owns.live; own = owns.own; as_asked = loose }))
  ]
  calls-go (Call.OnArcDeserialized kind key h) (Reply.FromCache (Ok None)) still c =
      let row = c.answers.0 in
      let owns = c.answers.1 in
      so (knows_node kind.0 key row.node.0) (like (cached (none w) kind key row.node (refl, refl, refl) c.answers.3.1) c.answers.3.2)
      (feels-known kind key h row (record { live = owns.live; own = owns.own; as_asked = refl }) c.answers.2)
  calls-go (Call.OnArcDeserialized kind key h) (Reply.FromCache (Ok (Some k))) still c = elim c.answers.3 [
    | inl (closed, same, a) ↦ quiet (λ n x b. absurd b) (stays a)
    | inr (open_still, (n, usable, next, f)) ↦ quiet (λ n x b. absurd b) (fell (handle (none w) _ _ me) f.falls (own-handle h c.answers.0 c.answers.1))
  ]
  calls-go (Call.LoadAdopt l kind key x) (Reply.Made (Ok k)) still c =
      let right = good w (Owner.Load l) [] (m.values.references x) c.adopts.good in
      elim c.adopts.makes [
        | inl (n, usable, f) ↦ quiet (λ n y b. inl b.1) (adopts-known l kind n (m.values.references x) right f)
        | inr (unknown, few, a) ↦ so (bears_known kind.0 key (first_key kind.0 key))
            (adopts l kind key (first_key kind.0 key) (m.values.references x) unknown right a)
            (feels-adopted l kind key x k c.adopts.typed right)
      ]
  calls-go (Call.LoadLazy l kind key) (Reply.Handle (Ok k)) still c = elim c.makes.3 [
    | inl known ↦ quiet (λ n x b. absurd b) (gets-known known)
    | inr (unknown, few, next, a) ↦ so (bears_known kind.0 key (OptionalDataKey.Some key))
        (adopts l kind key (OptionalDataKey.Some key) [] unknown (none-named w (Owner.Load l)) a)
        (feels-lazy l kind key k)
  ]
  calls-go (Call.LoadEnd l x) (Reply.LoadEnded (Ok k)) still c = so nothing_felt (ends-load free l (Ok k) c)
      (feels-end l x k (good w (Owner.Load l) [] (m.values.references x) c.installs.2.good))
  calls-go (Call.LoadEnd l x) (Reply.LoadEnded (Err (e, Some y))) still c =
      quiet (λ n z b. inr (alike-away c.refused.1.stays n)) (ends-load free l (Err (e, Some y)) c)
  calls-go (Call.LoadEnd l x) (Reply.LoadEnded (Err (e, None))) still c =
      quiet (λ n z b. inr (fell-away c.refused.closes n)) (ends-load free l (Err (e, None)) c)
  calls-go _ reply still c =
      let unmoved : Alike w w' → Effect me true (Unit {0}) (Unit {0}) false nothing_felt w w' = stays in
      let asked : Asked w w' → Effect me true (Unit {0}) (Unit {0}) false nothing_felt w w' = was-asked in
      grind (basics, quiet, unmoved, asked, births)

-- the cache gets to know an old node only where the caller puts it there
pub call-knows : (W : Type 0) {N B : Type 0} {v : Values N} {w w' : Core} {me : Owner} {call : Call N B} {reply : Reply N B} {c : Change}
    → CallFeels v w me call reply w' c
    → LeavesCache {N = N} {B = B} {W = W} (Event.Call call) → KnowsNext c w
call-knows x0 x1 leaves = grind basics
