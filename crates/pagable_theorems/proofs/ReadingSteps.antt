-- The row of a handle that a load has just got is new, of its node, and its mode fits the kind; and a load's step is one change, as trees feel it.
use Rattle.pagable_pager_spec.specs.{
  Calls.{row_of, with_cached_if_open, with_known},
  Cascade.FallsAnyhow,
  Events.{ReadingsAre, reading_at},
  Loads.{MakesNode, ReadingDoes, gone_on, with_got},
  Pager.{IsReadingOf, IsWhole, of_caller, of_worker},
  World.usable,
}
use Rattle.pagable_theorems.proofs.{
  CallEffects.{adopts, adopts-known, asks, closes, ends-load, gets-known as was-known, hands-over, noted},
  Effects.{Effect, IsHeldFor, IsMine, none-named, one-then},
  HandlesKept.{AreUpTo, KnowsNext, NotLoads, find-both, find-left, good, low-changed, low-whole, next-above, none-in-new, stands-new},
  Trees.same_some,
  Words.{Alike, ArcRef, Bool, Change, Core, Err, Event, EventReply, Frame, GetsKnown, HandleNumber, HandleRow, HandlesAreWhole, IsMachineWhole, Kind, List},
  Words.{LoadAnswer, LoadNumber, MachineState, NodeNumber, None, Ok, OpenLoad, Option, OptionalDataKey, Owner, Reading, ReadingFeels, Seen, Some, Todo, Values},
  Words.{Walking, WorkerState, World, adopted, ap, basics, bears_known, false, find_row, first_key, inl, inr, is_named_by, mode_of, moved, next_node},
  Words.{nothing_felt, owner_value, refl, row_at, rules, subst, sym, to_load, world_of, ℕ, [], ◌++◌, ◌+◌, ◌∙◌, ◌∷◌, ◌≡◌, ◌≤◌, ◌⊎◌},
}
use Rattle.pagable_theorems.specs.{
  TreeSteps.{EventFeels, GetsRow, IsFresh, IsSteppedReading, Needs, by-call, by-key, by-nothing, by-reading, gets-known, gets-lazy, makes-known, makes-node},
  TreeSteps.{reading-ends, reads-blob, reads-root},
}

pub cached-rows : (w : Core) (kind : Kind) (key : ℕ) (n : NodeNumber) → ((with_cached_if_open w kind key n).rows ≡ w.rows)
    × ((with_cached_if_open w kind key n).last ≡ w.last)
cached-rows w kind key n = grind basics

module _ {w w' : Core} (whole : HandlesAreWhole w) (kind : Kind) (k : HandleNumber) (row : HandleRow) (made : row_at w' k ≡ Some row)
    (next : k.0 ≡ w.last.handle + 1) where
  gets : (rows : List HandleRow) (node : NodeNumber) (owner : Owner) → AreUpTo w.last.handle rows → w.last.handle + 1 ≤ w'.last.handle
      → find_row k.0 (rows ++ row_of (w.last.handle + 1) node (mode_of kind.0) owner ∷ []) ≡ Some row → GetsRow w w' kind node.0 row
  gets rows node owner low few found =
      let new = row_of (w.last.handle + 1) node (mode_of kind.0) owner in
      let s = stands-new w.last.handle rows new low refl in
      grind basics

  pub got-known : (n : ℕ) (owner : Owner) → Alike (with_known w kind n owner) w' → GetsRow w w' kind n row
  got-known n owner a = grind (basics, gets w.rows (record { 0 = n }) owner (low-whole whole))

  pub got-fallen : (n : ℕ) (owner : Owner) {before : Core} {given : ℕ → Bool} → FallsAnyhow before (with_known w kind n owner) given w'
      → GetsRow w w' kind n row
  got-fallen n owner f = grind (basics, find-both, gets w.rows (record { 0 = n }) owner (low-whole whole), next-above, find-left, none-in-new)

  pub got-born : (l : LoadNumber) (key : ℕ) (own : OptionalDataKey) (references : List ArcRef) → Alike (adopted w l kind key own references) w'
      → GetsRow w w' kind (w.last.node + 1) row
  got-born l key own references a =
      let low = low-changed w.last.handle w.rows (λ h. is_named_by references h.number.0) (λ h. record h { owner = owner_value (w.last.node + 1) }) (λ h. refl)
      (low-whole whole) in
      grind (basics, gets (moved (is_named_by references) (owner_value (w.last.node + 1)) w.rows) (next_node w) (Owner.Load l) low)

-- what can be used is in the cache
pub is-cached : (w : Core) (kind key n : ℕ) → usable w kind key ≡ Some n → w.cache kind key ≡ Some n
is-cached w kind key n is = grind basics

-- A load's step in the machine: which reading makes it, and that no other goes on by it.

-- a reading that makes a step is the machine's, or has just begun at an open load
pub reading-stands : (u : World) → IsWhole u.core → (l : LoadNumber) (reading : Reading) → reading_at u l ≡ Some reading → IsReadingOf u.work reading
    ⊎ IsFresh u.core reading
reading-stands u whole l reading at =
    let cases : (u.work.readings l.0 ≡ Some reading) ⊎ IsFresh u.core reading =
    grind basics in elim cases [ inl there ↦ inl (of_caller l.0 there) | inr new ↦ inr new ]

-- it is of the load with this number
pub reading-number : {N E : Type 0} {v : Values N} (s : MachineState N E) → IsMachineWhole v s → (l : LoadNumber) (reading : Reading)
    → reading_at (world_of s) l ≡ Some reading → reading.load ≡ l
reading-number s whole l reading at = grind (basics, whole.readings l.0 reading)

pub reading-open : {N E : Type 0} {v : Values N} (s : MachineState N E) → IsMachineWhole v s → (l : LoadNumber) (reading : Reading) {load : OpenLoad}
    → reading_at (world_of s) l ≡ Some reading
    → s.pager.core.loads l.0 ≡ Some load → s.pager.core.loads reading.load.0 ≡ Some load
reading-open s whole l reading at open_load = ap (λ (k : LoadNumber). s.pager.core.loads k.0) (reading-number s whole l reading at) ∙ open_load

-- the reading of a load at the front
abbrev pub front_reading : List Todo → Option Reading
front_reading (to_load r place through reading ∷ below) = Some reading
front_reading todo = None

-- what is read afterwards was read before, or is new: of the caller, or at the front of a worker's list
pub read-after : {readings : ℕ → Option Reading} {walkings : ℕ → Option Walking} (u u' : World) (New : Reading → Type 0) → ReadingsAre readings u'
    → ((n : ℕ) → u'.work.walkings n ≡ walkings n) → ((q : ℕ) (after : Reading) → readings q ≡ Some after → (u.work.readings q ≡ Some after) ⊎ New after)
    → ((n : ℕ) (walking : Walking) (after : Reading) → walkings n ≡ Some walking → (u.work.walkings n ≡ Some walking)
    ⊎ (front_reading walking.todo ≡ Some after → New after))
    → (after : Reading) → IsReadingOf u'.work after → IsReadingOf u.work after ⊎ New after
read-after {readings} u u' New are same callers workers after (of_caller q is) =
    elim (callers q after (grind basics)) [ inl old ↦ inl (of_caller q old) | inr new ↦ inr new ]
read-after u u' New are same callers workers after (of_worker n place walking r through below there todo) =
    elim (workers n walking after (sym (same n) ∙ there)) [
      | inl old ↦ inl (of_worker n place walking r through below old todo)
      | inr new ↦ inr (new (ap front_reading todo))
    ]

-- what it answers and reads, and that it stands in the worker's list afterwards only where it goes on
pub record LoadsTodo {N : Type 0} (v : Values N) (me : Owner) (s s' : WorkerState) (reading : Reading) : Type 0 where
  pub answer : Option (LoadAnswer N)
  pub frames : List Frame
  pub does : ReadingDoes v s.core me reading answer frames s'.core
  pub next : (after : Reading) → front_reading s'.todo ≡ Some after → (answer ≡ None) × (after ≡ gone_on reading frames)

-- the reading that makes the step is the machine's, or has just begun
pub is-reading-of : {N B W : Type 0} (u : World) (event : Event N B W) (reading : Reading) → IsSteppedReading u event reading → IsReadingOf u.work reading
    ⊎ IsFresh u.core reading
is-reading-of u (Event.LoadStep l) reading stepped = stepped.1
is-reading-of u (Event.WorkerStep k) reading (walking, r, place, through, below, there, todo) = inl (of_worker k.0 place walking r through below there todo)
is-reading-of u event reading stepped = absurd stepped

-- what holds of each reading afterwards: of those that were there, of one that begins, and of one that goes on
pub readings-on : {N B W : Type 0} {v : Values N} {u u' : World} {event : Event N B W} {reply : EventReply N B W} {c : Change} (P : Reading → Type 0)
    → ((reading : Reading) → IsReadingOf u.work reading → P reading) → ((reading : Reading) → IsFresh u'.core reading → P reading)
    → ((reading : Reading) (frames : List Frame) (load : OpenLoad) → IsReadingOf u.work reading ⊎ IsFresh u.core reading → u.core.loads reading.load.0
    ≡ Some load
    → ReadingFeels v u.core reading None frames u'.core c → P (gone_on reading frames)) → EventFeels v u event reply u' c → (reading : Reading)
    → IsReadingOf u'.work reading → P reading
readings-on P old fresh gone (by-call c call answer called replied feels keeps) reading is =
    elim (keeps reading is) [ inl was ↦ old reading was | inr new ↦ fresh reading new ]
readings-on P old fresh gone (by-key k key row happened sets keeps) reading is =
    elim (keeps reading is) [ inl was ↦ old reading was | inr new ↦ fresh reading new ]
readings-on P old fresh gone (by-nothing stays keeps) reading is = elim (keeps reading is) [ inl was ↦ old reading was | inr new ↦ fresh reading new ]
readings-on {v = v} {u} {u'} {event} P old fresh gone (by-reading c before answer frames stepped opens feels steps) reading is = elim (steps reading is) [
  | inl was ↦ old reading was
  | inr (none, same) ↦
      let load = opens none in
      subst P (sym same) (gone before frames load.0 (is-reading-of u event before stepped) load.1
      (subst (λ a. ReadingFeels v u.core before a frames u'.core c) none feels))
]

-- A load's step, as trees feel it: one change, what it does to the core with it, and how the load's own blobs grow.

-- some change, what the step does to the world with it, and how it is felt; a load that goes on is open
pub record ReadingFelt {N : Type 0} (v : Values N) (w : Core) (me : Owner) (reading : Reading) (answer : Option (LoadAnswer N)) (frames : List Frame)
    (w' : Core) : Type 0 where
  pub change : Change
  pub does : Effect me false (IsMine w me reading.load) (Unit {0}) false change w w'
  pub opens : answer ≡ None → (load : OpenLoad) × (w.loads reading.load.0 ≡ Some load)
  pub feels : HandlesAreWhole w → ReadingFeels v w reading answer frames w' change

pub caller-free : NotLoads Owner.Caller
caller-free l is = absurd (cc)

module _ {N B W : Type 0} (m : Seen N B W) (w : Core) (me : Owner) (free : NotLoads me) (w' : Core) (reading : Reading) where
  -- a load that is open goes on
  on : {frames : List Frame} (c : Change) (load : OpenLoad) → w.loads reading.load.0 ≡ Some load
      → Effect me false (IsMine w me reading.load) (Unit {0}) false c w w'
      → (HandlesAreWhole w → ReadingFeels m.values w reading None frames w' c) → ReadingFelt m.values w me reading None frames w'
  on c load opened does feels = record { change = c; does = does; opens = λ none. (load, opened); feels = feels }

  -- the handle of a node that the cache knew
  knew : {frames : List Frame} (kind : Kind) (key : ℕ) (k : HandleNumber) (row : HandleRow) (load : OpenLoad) → w.loads reading.load.0 ≡ Some load
      → Needs m.values.types reading.frames kind key
      → GetsKnown w reading.load kind key k w' → row_at w' k ≡ Some row → frames ≡ with_got kind row reading.frames
      → ReadingFelt m.values w me reading None frames w'
  knew kind key k row load opened needs c made goes = on nothing_felt load opened (was-known c)
      (λ whole. gets-known kind key c.n row needs (is-cached w kind.0 key c.n c.known)
      (got-known whole kind k row made c.next.above c.n (Owner.Load reading.load) c.leaves) refl goes)

  makes : (frames : List Frame) → MakesNode m.values w me reading frames w' → ReadingFelt m.values w me reading None frames w'
  makes frames g =
      let r = g.reads_node in let c = g.adopted.adopts in
      let right = good w (Owner.Load reading.load) [] (m.values.references g.x) c.good in elim c.makes [
        | inl (n, usable, f) ↦ on nothing_felt c.load c.owned.stands_open (adopts-known reading.load r.top.kind n (m.values.references g.x) right f)
            (λ whole. makes-known g.x r n g.row (is-cached w r.top.kind.0 r.top.key n usable)
            (got-fallen whole r.top.kind g.k g.row g.made c.next.above n (Owner.Load reading.load) f) refl g.goes)
        | inr (unknown, few, a) ↦ on (bears_known r.top.kind.0 r.top.key (first_key r.top.kind.0 r.top.key)) c.load c.owned.stands_open
            (adopts reading.load r.top.kind r.top.key (first_key r.top.kind.0 r.top.key) (m.values.references g.x) unknown right a)
            (λ whole. makes-node g.x r g.row (got-born whole r.top.kind g.k g.row g.made c.next.above reading.load r.top.key (first_key r.top.kind.0 r.top.key)
            (m.values.references g.x) a) refl g.goes)
      ]

  ended : (end : LoadAnswer N) (frames : List Frame) → frames ≡ [] → Effect me false (IsMine w me reading.load) (Unit {0}) false nothing_felt w w'
      → ReadingFelt m.values w me reading (Some end) frames w'
  ended end frames none e = record { change = nothing_felt; does = e; opens = λ is. absurd (cc); feels = λ whole. reading-ends end refl none }

  pub reading-feels : (answer : Option (LoadAnswer N)) (frames : List Frame) → ReadingDoes m.values w me reading answer frames w'
      → ReadingFelt m.values w me reading answer frames w'
  reading-feels None frames d = elim d.does [
    | inl g ↦
        let same : g.asked.gives.0 ≡ g.load = same_some _ _ (sym g.asked.gives.1.stands_open ∙ g.open_load) in
        on nothing_felt g.load g.open_load (asks _ g.asked)
        (λ whole. reads-root g.load g.blob g.first g.open_load (subst (λ (x : OpenLoad). w.stored x.key ≡ Some g.blob) same g.asked.gives.2.found) refl g.goes)
    | inr (inl g) ↦ knew g.kind g.key g.k g.row g.asked.gives.0 g.asked.gives.1.stands_open (inl g.needs) g.asked.gives.2 g.made g.goes
    | inr (inr (inl g)) ↦ on nothing_felt g.asked.gives.0 g.asked.gives.1.stands_open (asks _ g.asked)
        (λ whole. reads-blob g.kind g.key g.blob g.needs g.asked.gives.2.1.found refl g.goes)
    | inr (inr (inr (inl g))) ↦ elim g.asked.makes.3 [
      | inl k ↦ knew g.kind g.key g.k g.row g.asked.makes.0 g.asked.makes.1.stands_open (inr g.needs) k g.made g.goes
      | inr (unknown, few, next, a) ↦ on (bears_known g.kind.0 g.key (OptionalDataKey.Some g.key)) g.asked.makes.0 g.asked.makes.1.stands_open
          (adopts reading.load g.kind g.key (OptionalDataKey.Some g.key) [] unknown (none-named w (Owner.Load reading.load)) a)
          (λ whole. gets-lazy g.kind g.key g.row g.needs (got-born whole g.kind g.k g.row g.made next.above reading.load g.key (OptionalDataKey.Some g.key)
          [] a) refl g.goes)
    ]
    | inr (inr (inr (inr made))) ↦ makes frames made
  ]
  reading-feels (Some (LoadAnswer.Pinned k)) frames d = ended (LoadAnswer.Pinned k) frames d.does.1 (ends-load free reading.load (Ok k) d.does.0.ended)
  reading-feels (Some (LoadAnswer.Read x)) frames d = ended (LoadAnswer.Read x) frames d.does.1 (hands-over free reading.load _ (Ok tt) d.does.0.handed)
  reading-feels (Some (LoadAnswer.Refused e)) frames d = ended (LoadAnswer.Refused e) frames d.does.1 (elim d.does.0 [
    | inl gives ↦
        -- a refusal that it meets changes nothing, but that a failure of the storage may be noted
        let a : (f : ℕ) × Alike (record w { failures = f }) gives.mid = elim gives.meets [
          | inl b ↦ (w.failures, b.1)
          | inr (inl r) ↦ let does = r.1 in search (rules)
          | inr (inr (inl n)) ↦ elim n.3 [ inl does ↦ search (rules) | inr deep ↦ let does = deep.3 in search (rules) ]
          | inr (inr (inr (inl z))) ↦ let does = z.3 in search (rules)
          | inr (inr (inr (inr (inl n)))) ↦ let does = n.adopted in search (rules)
          | inr (inr (inr (inr (inr r)))) ↦ elim r.refuses [ inl h ↦ let does = h.1 in search (rules) | inr h ↦ let does = h.1 in search (rules) ]
        ] in
        one-then (λ kind key n h. subst (IsHeldFor kind key n) (sym a.1.rows) h) (λ mine load is. mine load (sym (a.1.loads reading.load.0) ∙ is))
        (noted a.0 a.1)
        (closes reading.load (λ mine. mine) gives.closes)
    | inr ended ↦ ends-load free reading.load (Err (e, None)) ended.ended
  ])

-- it is felt so in a world that is alike
pub feels-alike : {N : Type 0} {v : Values N} {w u w' : Core} {reading : Reading} {answer : Option (LoadAnswer N)} {frames : List Frame} {c : Change}
    → ReadingFeels v w reading answer frames u c → Alike u w' → ReadingFeels v w reading answer frames w' c
feels-alike (reads-root load blob none_read at stored answer is) a = reads-root load blob none_read at stored answer is
feels-alike (reads-blob kind key blob needs stored answer is) a = reads-blob kind key blob needs stored answer is
feels-alike (gets-known kind key n row needs known got answer is) a = gets-known kind key n row needs known (grind basics) answer is
feels-alike (gets-lazy kind key row needs got answer is) a = gets-lazy kind key row needs (grind basics) answer is
feels-alike (makes-known x reads n row known got answer is) a = makes-known x reads n row known (grind basics) answer is
feels-alike (makes-node x reads row got answer is) a = makes-node x reads row (grind basics) answer is
feels-alike (reading-ends end answer is) a = reading-ends end answer is

pub reading-knows : {N : Type 0} {v : Values N} {w w' : Core} {reading : Reading} {answer : Option (LoadAnswer N)} {frames : List Frame} {c : Change}
    → ReadingFeels v w reading answer frames w' c → KnowsNext c w
reading-knows x0 = grind basics
