-- Each operation of a caller keeps trees: a call or a page-out since it is a chain of moments of a machine, a pin or a read since its load is.
use Rattle.pagable_pager_spec.specs.{
  Access.{IsValueOf, LoadAsksWell, LoadRun, PinRun, ReadRun, load-ends, load-fails, load-goes-on, load-is-refused, load-pins, load-reads, pin-is-refused},
  Access.{pins-at-once, reading-fails, reading-is-refused},
  LoadCalls.BeginCall,
  Loads.LoadDoes,
  Rightness.GivesTree,
  declared.pinning.Pinning.Pinning,
}
use Rattle.pagable_theorems.proofs.{
  FormsOfTrees.cell-of,
  HandlesKept.{PinOf, among-found, end-call, found-number, low-whole, pin-call, updated-at},
  LoadProgress.{pin_stands, row-held, settled-on, was-open},
  LoadResults.{After, after-then, caller-feels, pin-after, read-after},
  Operations.{Stands, Stays, call-nobody, call-stays, item-stays, list-stays, plain-stays, plainly, stays-same, stays-then},
  Trees.same_some,
  Words.{Beginning, Call, Core, Err, Error, HandleNumber, HandleRow, HoldsSettled, IsLawful, IsPagerWhole, Last, LoadAnswer, LoadNumber, NodeNumber, Ok},
  Words.{OpenLoad, Owner, PagerState, Reading, Reply, Result, Seen, Some, Tree, ValueStands, Values, ap, arith, of_cell, refl, row_at, subst, sym, updated, ℕ},
  Words.{[], ◌+◌, ◌∙◌, ◌≡◌, ◌≤◌},
}
use Rattle.pagable_theorems.specs.{
  CallerLaws.{AreRight, AskWell, CallerLaw, Operation, OperationAsksWell, OperationIsRight, Operations, PinAsksWell, PinIsRight, PinnedAgainLaw, ReadAsksWell},
  CallerLaws.{ReadingIsRight, calls, goes-on, is-done, keeps-nodes, pages-item, pages-list, pins, reads-key},
  PageOutLaws.NobodyWorks,
}

-- ---- what a load by one call leaves

pub record LoadLeft {N E : Type 0} (v : Values N) (s : PagerState N E) : Type 0 where
  pub well : IsPagerWhole v s
  pub settled : HoldsSettled v s
  pub nobody : NobodyWorks s.core

load-left : {N E : Type 0} {v : Values N} {reading : Reading} {s s' : PagerState N E} {answer : LoadAnswer N} (run : LoadRun v Owner.Caller reading s answer s')
    → LoadAsksWell run → NobodyWorks s.core → LoadLeft v s'
unfolding LoadAsksWell
load-left (load-ends reading answer s s' step) asks nobody = record {
  well = step.whole;
  settled = asks.0;
  nobody = λ q. (caller-feels step).does.workers q ∙ nobody q;
}
load-left (load-goes-on reading frames answer s mid s' step more) asks nobody =
    load-left more asks.2 (λ q. (caller-feels step).does.workers q ∙ nobody q)

-- the load is of a node's cell, and the handle that it answers pins this
record LoadPins (w : Core) (l : LoadNumber) (k : HandleNumber) (w' : Core) : Type 0 where
  load : OpenLoad
  node : NodeNumber
  t : ℕ
  h : HandleNumber
  open_load : w.loads l.0 ≡ Some load
  root : load.root ≡ of_cell node t h
  pin : PinOf w' Owner.Caller node k

pinned-at : {N E : Type 0} {v : Values N} {reading : Reading} {s s' : PagerState N E} {answer : LoadAnswer N} → LoadRun v Owner.Caller reading s answer s'
    → IsPagerWhole v s → reading.load.0 ≤ s.core.last.load → (k : HandleNumber)
    → answer ≡ LoadAnswer.Pinned k → LoadPins s.core reading.load k s'.core
pinned-at {N} {v = v} (load-ends reading answer s s' step) well few k is =
    let e = (subst (λ (o : LoadAnswer N). LoadDoes v s.core Owner.Caller reading (Some o) [] s'.core) is step.does.does).0 in
    let (node, h, may, i) = e.ended.installs in
    let pin = end-call s.core s'.core (low-whole well.whole.handles) Owner.Caller reading.load e.x _ _ k (λ n is. absurd (cc)) e.ended in
    record { load = may.load; node = node; t = v.node_type e.x; h = h; open_load = may.owned.stands_open; root = may.of_node; pin = pin }
pinned-at (load-goes-on reading frames answer s mid s' step more) well few k is =
    let goes = (caller-feels step).does.goes in
    let p = pinned-at more step.whole (omega arith) k is in
    record { load = p.load; node = p.node; t = p.t; h = p.h; open_load = was-open goes reading.load.0 p.load few p.open_load; root = p.root; pin = p.pin }

-- a load that has begun is of its handle's node
record LoadBegun (w : Core) (h : HandleNumber) (l : LoadNumber) (w' : Core) : Type 0 where
  row : HandleRow
  live : row_at w h ≡ Some row
  load : OpenLoad
  t : ℕ
  open_load : w'.loads l.0 ≡ Some load
  root : load.root ≡ of_cell row.node t h
  few : l.0 ≤ w'.last.load

load-begun : (w w' : Core) (h : HandleNumber) (l : LoadNumber) (key : ℕ) → BeginCall w Owner.Caller h (Ok (Beginning.Load l key)) w' → LoadBegun w h l w'
load-begun w w' h l key c =
    let b = c.begins.2 in let row = c.begins.0 in let next = b.2 in let t = b.4.0 in let a = b.4.2 in
    let last = ap (λ (x : Last). x.load) a.last in
    let load : OpenLoad = record { owner = Owner.Caller; key = key; root = of_cell row.node t h } in
    record {
      row = row;
      live = c.begins.1.live;
      load = load;
      t = t;
      open_load = a.loads l.0 ∙ ap (updated (w.last.load + 1) (Some load) w.loads) next.above ∙ updated-at (w.last.load + 1) (Some load) w.loads;
      root = refl;
      few = omega (arith, last, next.above);
    }

-- the handle that a pin answers is of its handle's node
pin-of : {N E : Type 0} {v : Values N} {s s' : PagerState N E} {h k : HandleNumber} → PinRun v s h (Ok k) s' → IsPagerWhole v s
    → (row : HandleRow) × (row_at s.core h ≡ Some row) × PinOf s'.core Owner.Caller row.node k
pin-of {s = s} {s'} {h} {k} (pins-at-once k2 s2 c) well =
    (c.step.pins.0, c.step.pins.1.live, pin-call s.core s'.core (low-whole well.whole.handles) Owner.Caller h k c.step)
pin-of {s = s} {s'} {h} {k} (load-pins k2 reading mid s2 starts run) well =
    let b = load-begun s.core mid.core h reading.load starts.key starts.begins.step in
    let p = pinned-at run starts.begins.whole b.few k refl in
    let loads : p.load ≡ b.load = same_some _ _ (sym p.open_load ∙ b.open_load) in
    let nodes : p.node ≡ b.row.node = cc in
    (b.row, b.live, subst (λ n. PinOf s'.core Owner.Caller n k) nodes p.pin)

-- ---- each operation

module _ {N E B W : Type 0} (m : Seen N B W) (lawful : IsLawful m.values) where
  abbrev stays-so : {s s' : PagerState N E} {trees trees' : ℕ → Tree} → After m.values s trees s' trees' → LoadLeft m.values s' → Stays m.values s trees s'
  stays-so {trees' = trees'} after left = record {
    trees' = trees';
    after = after;
    now = record { well = left.well; nobody = left.nobody; settled = left.settled; stands = after.stands };
  }

  pub pin-stays : {s s' : PagerState N E} {trees : ℕ → Tree} {h : HandleNumber} {r : Result HandleNumber Error} (run : PinRun m.values s h r s')
      → Stands m.values s trees → PinAsksWell run
      → (a : Stays m.values s trees s') × PinIsRight m.values s' a.trees' r
  pin-stays {h = h} (pins-at-once k s' c) at asks =
      let p = plain-stays m lawful (Call.Pin h) (Reply.Pin (Ok (Pinning.Pinned k))) at c c.step tt tt in (p.0, p.1)
  pin-stays {h = h} (pin-is-refused e s' c) at asks = ((plain-stays m lawful (Call.Pin h) (Reply.Pin (Err e)) at c c.step tt tt).0, tt)
  pin-stays {h = h} (load-is-refused e s' c) at asks = ((plain-stays m lawful (Call.LoadBegin h) (Reply.Begun (Err e)) at c c.step tt tt).0, tt)
  pin-stays {s} {trees = trees} {h} (load-pins k reading mid s' starts run) at asks =
      let begun = plainly m lawful (Call.LoadBegin h) (Reply.Begun (Ok (Beginning.Load reading.load starts.key))) starts.begins starts.begins.step in
      let r = pin-after m.values s mid s' h reading (LoadAnswer.Pinned k) run at.well starts asks lawful at.settled trees at.stands in
      let left = load-left run asks (call-nobody m begun tt at.nobody) in
      let p = (pin-of (load-pins k reading mid s' starts run) at.well).2.pin in
      (stays-so r.1 left, pin_stands s' r.0 k p.row left.well r.1.stands p.live p.is)
  pin-stays {s} {trees = trees} {h} (load-fails e reading mid s' starts run) at asks =
      let begun = plainly m lawful (Call.LoadBegin h) (Reply.Begun (Ok (Beginning.Load reading.load starts.key))) starts.begins starts.begins.step in
      let r = pin-after m.values s mid s' h reading (LoadAnswer.Refused e) run at.well starts asks lawful at.settled trees at.stands in
      (stays-so r.1 (load-left run asks (call-nobody m begun tt at.nobody)), tt)

  pub read-stays : {s s' : PagerState N E} {trees : ℕ → Tree} {key t : ℕ} {r : Result N Error} (run : ReadRun m.values s key t r s') → Stands m.values s trees
      → ReadAsksWell run
      → Stays m.values s trees s' × ReadingIsRight m.values s' key r
  read-stays {key = key} (reading-is-refused e s' c) at asks = ((plain-stays m lawful (Call.LoadKey key) (Reply.Begun (Err e)) at c c.step tt tt).0, tt)
  read-stays {s} {trees = trees} {key} {t} (load-reads x l mid s' starts run) at asks =
      let begun = plainly m lawful (Call.LoadKey key) (Reply.Begun (Ok (Beginning.Load l key))) starts starts.step in
      let r = read-after m.values s mid s' key t l (LoadAnswer.Read x) run at.well starts asks lawful at.settled trees at.stands in
      (stays-so r.1 (load-left run asks (call-nobody m begun tt at.nobody)), r.2 x refl)
  read-stays {s} {trees = trees} {key} {t} (reading-fails e l mid s' starts run) at asks =
      let begun = plainly m lawful (Call.LoadKey key) (Reply.Begun (Ok (Beginning.Load l key))) starts starts.step in
      let r = read-after m.values s mid s' key t l (LoadAnswer.Refused e) run at.well starts asks lawful at.settled trees at.stands in
      (stays-so r.1 (load-left run asks (call-nobody m begun tt at.nobody)), tt)

  pub operation-stays : {s s' : PagerState N E} {trees : ℕ → Tree} (one : Operation m s s') → Stands m.values s trees → OperationAsksWell trees one
      → (a : Stays m.values s trees s') × OperationIsRight trees a.trees' one
  operation-stays (calls call reply s s' c) at asks = call-stays m lawful call reply at c asks.0 asks.1 asks.2
  operation-stays (pins h r s s' run) at asks = pin-stays run at asks
  operation-stays (reads-key key t r s s' run) at asks = read-stays run at asks
  operation-stays (pages-item item answer s s' new run) at asks = item-stays m lawful item at new run asks
  operation-stays (pages-list i answer s s' run) at asks = list-stays m lawful run at asks
  operation-stays {trees = trees} (keeps-nodes s s' keeps) at asks =
      let n = keeps.stay at.nobody at.settled trees at.stands in (
        record {
          trees' = n.trees';
          after = record { same = n.same; nodes = n.nodes; stands = n.stands; handles = n.handles; rows = n.rows };
          now = record { well = keeps.whole; nobody = n.nobody; settled = settled-on m.values at.settled keeps.moves; stands = n.stands };
        },
        tt,
      )

  all-right : {s s' : PagerState N E} (trees : ℕ → Tree) (operations : Operations m s s') → Stands m.values s trees → AreRight trees operations
  unfolding AreRight
  all-right trees (is-done s) at = tt
  all-right trees (goes-on s mid s' one more) at = λ asks. let (a, right) =
      operation-stays one at asks in (a.trees', a.after.same, a.after.stands, right, all-right a.trees' more a.now)

module _ {N E B W : Type 0} (m : Seen N B W) (lawful : IsLawful m.values) where
  all-stays : {s s' : PagerState N E} {trees : ℕ → Tree} (operations : Operations m s s') → Stands m.values s trees → AskWell operations
      → Stays m.values s trees s'
  unfolding AskWell
  all-stays (is-done s) at asks = stays-same m lawful at
  all-stays {trees = trees} (goes-on s mid s' one more) at asks =
      let a = (operation-stays m lawful one at (asks.0 trees at.stands)).0 in
      stays-then a.after (all-stays more a.now asks.1)

-- each of two pins gives its node's tree, and the handle's node is one all along
pub pinned_again_law : {N B W : Type 0} (E : Type 0) (m : Seen N B W) → PinnedAgainLaw E m
pinned_again_law E m s mid later s' trees h k l x y first between again well nobody lawful settled stands asks others last a b =
    let (p, gives) = pin-stays m lawful first (record { well = well; nobody = nobody; settled = settled; stands = stands }) asks in
    let o = all-stays m lawful between p.now others in
    let (q, gives_again) = pin-stays m lawful again o.now last in
    let (row, live, pin) = pin-of first well in
    let (row2, live2, pin2) = pin-of again o.now.well in
    let both = after-then p.after o.after in
    let number = found-number h.0 s.core.rows row live in
    let small : h.0 ≤ s.core.last.handle = subst (λ n. n ≤ s.core.last.handle) number (well.whole.handles.numbered row
    (among-found h.0 s.core.rows row live)).1 in
    let was = both.rows h.0 row2 live2 small in
    let nodes : row2.node ≡ row.node = sym was.at ∙ ap (λ (r : HandleRow). r.node) (same_some _ _ (sym was.live ∙ live)) in
    let at : gives.row.node ≡ row.node = ap (λ (r : HandleRow). r.node) (same_some _ _ (sym gives.live ∙ pin.pin.live)) ∙ pin.at in
    let at2 : gives_again.row.node ≡ row.node = ap (λ (r : HandleRow). r.node) (same_some _ _ (sym gives_again.live ∙ pin2.pin.live)) ∙ pin2.at ∙ nodes in
    let given : gives.row.node.0 ≤ mid.core.last.node = (p.now.well.whole.handles.nodes_numbered gives.row.node.0
    (cell-of p.now.well.whole.handles gives.row.node.0 (row-held mid.core k gives.row gives.live))).1 in
    let tree : q.trees' gives_again.row.node.0 ≡ p.trees' gives.row.node.0 =
    ap (λ (n : NodeNumber). q.trees' n.0) (at2 ∙ sym at) ∙ q.after.same gives.row.node.0 (omega arith)
    ∙ o.after.same gives.row.node.0 given in
    let x_is : gives.x ≡ x = value-of mid k gives a in
    let y_is : gives_again.x ≡ y = value-of s' l gives_again b in (
      p.trees' gives.row.node.0,
      subst (λ z. ValueStands m.values mid z (p.trees' gives.row.node.0)) x_is gives.stands,
      subst (λ z. ValueStands m.values s' z (p.trees' gives.row.node.0)) y_is (subst (λ t. ValueStands m.values s' gives_again.x t) tree gives_again.stands),
    )
  where
    value-of : {N E : Type 0} {v : Values N} {trees : ℕ → Tree} (s : PagerState N E) (k : HandleNumber) (g : GivesTree v s trees k) {x : N}
        → IsValueOf s k x → g.x ≡ x
    value-of s k g i = let rows : g.row ≡ i.row = same_some _ _ (sym g.live ∙ i.live) in same_some _ _ (sym g.held ∙ ap (λ
        (r : HandleRow). s.values r.node.0) rows ∙ i.held)

pub caller_law : {N B W : Type 0} (E : Type 0) (m : Seen N B W) → CallerLaw E m
caller_law E m s s' trees operations well nobody lawful settled stands = all-right m lawful trees operations
    (record { well = well; nobody = nobody; settled = settled; stands = stands })
