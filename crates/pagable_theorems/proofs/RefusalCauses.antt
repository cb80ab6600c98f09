-- Why pins and loads fail: the errors of each step. A load fails as too deep only if reading its key reaches a blob that is too deep, or one that enters a
-- level too many.
use Rattle.pagable_pager_spec.specs.{
  Basics.longest_path,
  Kinds.{is_loose, is_owner},
  LoadCalls.{AdoptCall, AsksInVain, EndCall, HandOverCall, LazyCall, LoadCloses, LoadFetchCall, cell_fault, root_fault},
  Loads.{Fails, Meets, RefusesBlob, RefusesNested, RefusesNode, RefusesRoot, answer_of, answers_from, asks, handles_of, is_faulty, need_of, needs_nested},
  Loads.{next_by, next_of, read_with},
  Order.{LeadsDown, ReadsTooDeep, after_kinds, goes-down, is-there},
  Pager.{IsReadingOf, of_worker},
  Refusals.{handle_fault, load_fault, named_fault, refused_if, spent},
  World.{Root, of_cell, of_key, row_at},
  declared.calls.FetchTarget.FetchTarget,
}
use Rattle.pagable_theorems.proofs.{
  Chains.IsGoingOn,
  Decoding.{FramesAsked, asks-by-kinds, faulty-by-kinds, kinds_of},
  LoadFaults.{Only, by-all, by-all-names, by-handle-row, only-earlier, only-if, only-node, only-refused, only-where},
  LoadProgress.{asked as was-asked, eager-nested, going-of},
  Naturality.{Out, OutLook, Sober, both-faulty, both-given, both-looked-up, both-not, both-refused, each, first-refused, typed_par},
  ReadingSteps.{reading-open, reading-stands},
  Trees.{AllTwo, Along, more-two, no-two, same_some},
  Words.{ArcRef, Blob, Bool, Core, Err, Error, Event, EventReply, Frame, FramesFit, HandleNumber, HandleRow, Happens, IsLawful, Kind, List, LoadNumber},
  Words.{MachineState, Meaning, Mode, None, Ok, OpenLoad, Option, Owner, Reading, Result, Seen, Some, Tree, Types, Values, any_mode, arith, basics, false},
  Words.{if_there, if◌then◌else◌, inl, inr, is_eager, length, next_in, not, owner_worker, references_fault, refl, rest, slice_get, subst, sym, true, type_of},
  Words.{world_of, ℕ, [], ◌+◌, ◌<◌, ◌==◌, ◌∙◌, ◌∷◌, ◌≡◌, ◌⊎◌},
}
use Rattle.pagable_theorems.specs.{
  DepthLaws.{IsOfHandles, LoadIsDeep},
  RefusalLaws.{BeginsRefusedLaw, IsOfLoad, IsOfPin, LoadsRefusedLaw, PinsRefusedLaw, TellsOfStorage},
  TreeSteps.IsFresh,
}
use Rattle.pagable_value_spec.specs.{Cursor.{Answer, answer_at}, Reading.Rest, Refusals.is_own_reading, Stored.{HasFailed, RefusesFetch}}
use Rattle.std.specs.Prelude.{IfErr}

-- ---- a blob is refused by its reading alone

-- what is told of a reference: that it is asked for, or a fault
abbrev Told : Error → Type 0
Told (Error.NoData key) = ⊥
Told Error.Unregistered = ⊥
Told Error.KeyTaken = ⊥
Told Error.Closed = ⊥
Told e = Unit {0}

abbrev told_cause : Error → Error → Type 0
told_cause e f = Told e

abbrev AnswersWell : Answer → Answer → Type 0
AnswersWell a b = (b ≡ a) × ((kind : ℕ) → IfErr (a kind) Told)

by-kind : (b : Bool) (r : ArcRef) → IfErr (if b then Ok r else Err Error.WrongKind) Told
by-kind true r = tt
by-kind false r = tt

well-answered : (found : Option ArcRef) (kind : ℕ) → IfErr (answer_of found kind) Told
well-answered None kind = tt
well-answered (Some r) kind = by-kind (r.kind.0 == kind) r

all-well : (got : List ArcRef) (place : ℕ) (keys : List ℕ) → AllTwo AnswersWell (answers_from got place keys) (answers_from got place keys)
unfolding answers_from
all-well got place [] = no-two
all-well got place (key ∷ keys) = more-two _ _ _ _ (refl, λ kind. well-answered (slice_get got place) kind) (all-well got (place + 1) keys)

looked : (r : Result ArcRef Error) → IfErr r Told → OutLook told_cause (λ (c d : ArcRef). Unit {0}) r r
looked (Ok c) told = both-looked-up c c tt
looked (Err e) told = both-not e e told

alike : (kind : ℕ) (a b : Answer) → AnswersWell a b → OutLook told_cause (λ (c d : ArcRef). Unit {0}) (answer_at kind a) (answer_at kind b)
alike kind a b h = subst (λ (x : Answer). OutLook told_cause (λ (c d : ArcRef). Unit {0}) (a kind) (x kind)) (sym h.0) (looked (a kind) (h.1 kind))

sober-told : (e : Error) → Sober e → Told e
sober-told e sober = grind basics

by-out : {first second : Result (Meaning ArcRef × Rest Answer) Error}
    → Out told_cause (AllTwo AnswersWell) (Along (Unit {0}) (λ (c d : ArcRef). Unit {0})) first second → IfErr first Told
by-out (both-given p q v s) = tt
by-out (both-faulty e sober) = sober-told e sober
by-out (both-refused e f told) = told
by-out (first-refused e r told) = told e

read-told : (types : Types) (t : ℕ) (blob : Blob) (got : List ArcRef) → IfErr (read_with types t blob got) Told
read-told types t blob got =
    let input = rest blob.bytes (answers_from got 0 blob.keys) in
    by-out (typed_par {E = told_cause} {F = Unit {0}} {T = AllTwo AnswersWell} {R = (λ c d. Unit {0})} {parts = types.parts}
    answer_at answer_at (each _ _ alike) 0 (types.nodes t) (λ s is. inl tt)
    input input (record { bytes = refl; refs = all-well got 0 blob.keys }))

by-next : (key : Option ℕ) (r : Result (Meaning ArcRef × Rest Answer) Error) (e : Error) → IfErr r Told → next_by key r ≡ is_faulty e → Sober e
by-next key r e told is = grind basics

broken : (types : Types) (t : ℕ) (blob : Blob) (got : List ArcRef) (e : Error) → next_of types t blob got ≡ is_faulty e → Sober e
broken types t blob got e is = by-next _ _ e (read-told types t blob got) is

-- ---- what a refusal says

abbrev pub Quiet : Error → Type 0
Quiet Error.WrongKind = Unit {0}
Quiet Error.NoSuchHandle = Unit {0}
Quiet Error.WrongMode = Unit {0}
Quiet Error.NotYours = Unit {0}
Quiet Error.NumbersSpent = Unit {0}
Quiet Error.OutOfMemory = Unit {0}
Quiet e = ⊥

quiet-sober : (e : Error) → Quiet e → Sober e
quiet-sober e quiet = grind basics

pub handles-quiet : (e : Error) → IsOfHandles e → Quiet e
handles-quiet e is = grind basics

own-sober : (e : Error) → is_own_reading e ≡ true → Sober e
own-sober e own = grind basics

-- what a load in the world w was refused by, which left the world w'
pub record LoadRefused (w w' : Core) (e : Error) : Type 0 where
  pub named : IsOfLoad e
  pub tells : TellsOfStorage w w' e

sober-refused : (w w' : Core) (e : Error) → Sober e → LoadRefused w w' e
sober-refused w w' e sober =
    record {
      named = grind basics;
      tells = record { failed = λ code is. absurd (subst Sober is sober); absent = λ key is. absurd (subst Sober is sober) };
    }

pub fetched : (w w' : Core) (key : ℕ) (e : Error) → RefusesFetch key (w.stored key) w.failures w'.failures e → LoadRefused w w' e
fetched w w' key (Error.NoData k) (same, none) =
    record { named = grind basics; tells = record { failed = λ code is. absurd (cc); absent = λ q is. cc } }
fetched w w' key (Error.Storage code) failed =
    record { named = grind basics; tells = record { failed = λ c is. failed; absent = λ q is. absurd (cc) } }
fetched w w' key Error.OutOfMemory h = sober-refused w w' Error.OutOfMemory tt
fetched w w' key e h = absurd h

pub only-load : (w : Core) (me : Owner) (l : LoadNumber) → Only Quiet (load_fault w me l)
only-load w me l e is = grind basics

only-named : (w : Core) (owner : Owner) (seen : List ℕ) (hs : List HandleNumber) → Only Quiet (named_fault w owner seen hs)
only-named w owner seen hs e is = handles-quiet e (by-all-names w owner seen hs e is)

pub only-all : (w : Core) (owner : Owner) (rs : List ArcRef) → Only Quiet (references_fault w owner [] rs)
only-all w owner rs e is = handles-quiet e (by-all w owner [] rs e is)

there-quiet : (found : Option OpenLoad) (f : OpenLoad → Option Error) → ((load : OpenLoad) → Only Quiet (f load)) → Only Quiet (if_there f None found)
there-quiet None f all e is = absurd (cc)
there-quiet (Some load) f all e is = all load e is

pub only-spent : (last : ℕ) → Only Quiet (spent last)
only-spent last = only-if Quiet _ Error.NumbersSpent tt

pub only-handle : (w : Core) (me : Owner) (h : HandleNumber) (fits : Mode → Bool) → Only Quiet (handle_fault w me h fits)
only-handle w me h fits e is = handles-quiet e (by-handle-row w me h fits e is)

root-quiet : (w : Core) (me : Owner) (t : ℕ) (root : Root) → Only Quiet (root_fault w me t root)
root-quiet w me t (of_cell node u h) e is = only-earlier {P = Quiet} _ _ (only-if Quiet _ Error.WrongKind tt) (only-where _ _ (only-spent w.last.handle)) e is
root-quiet w me t of_key e is = subst Quiet (same_some _ _ is) tt

cell-quiet : (root : Root) → Only Quiet (cell_fault root)
cell-quiet (of_cell node u h) e is = subst Quiet (same_some _ _ is) tt
cell-quiet of_key e is = absurd (cc)

-- ---- the calls of a load

module _ (w : Core) (me : Owner) (w' : Core) where
  pub of-adopt : {N : Type 0} (l : LoadNumber) (kind : Kind) (key : ℕ) (x y : N) (t : ℕ) (references : List ArcRef) (e : Error)
      → AdoptCall w me l kind key x t references (Err (e, y)) w' → Quiet e
  of-adopt l kind key x y t references e c =
      only-refused {P = Quiet} e c.refused.1 (only-earlier _ _ (only-load w me l) (only-earlier _ _ (only-if Quiet _ Error.WrongMode tt)
      (only-earlier _ _ (only-if Quiet _ Error.WrongKind tt) (only-earlier _ _ (only-all w (Owner.Load l) references) (only-node Quiet w kind key tt))))) tt

  pub of-lazy : (l : LoadNumber) (kind : Kind) (key : ℕ) (e : Error) → LazyCall w me l kind key (Err e) w' → Quiet e
  of-lazy l kind key e c =
      only-refused {P = Quiet} e c.refused
      (only-earlier _ _ (only-load w me l) (only-earlier _ _ (only-if Quiet _ Error.WrongKind tt) (only-node Quiet w kind key tt))) tt

  pub of-end : {N : Type 0} (l : LoadNumber) (x : N) (t : ℕ) (references : List ArcRef) (e : Error) (given : Option N)
      → EndCall w me l x t references (Err (e, given)) w' → Quiet e
  of-end l x t references e (Some y) c = only-refused {P = Quiet} e c.refused.1 (only-earlier _ _ (only-load w me l)
      (only-earlier _ _ (there-quiet (w.loads l.0) (λ (load : OpenLoad). root_fault w me t load.root) (λ load. root-quiet w me t load.root))
      (only-all w (Owner.Load l) references))) tt
  of-end l x t references e None c = only-handle w me c.refused.h any_mode e c.refused.why

  pub of-hand-over : (l : LoadNumber) (hs : List HandleNumber) (e : Error) → HandOverCall w me l hs (Err e) w' → Quiet e
  of-hand-over l hs e c = only-earlier {P = Quiet} _ _ (only-load w me l)
      (only-earlier _ _ (there-quiet (w.loads l.0) (λ (load : OpenLoad). cell_fault load.root) (λ load. cell-quiet load.root))
      (only-named w (Owner.Load l) [] hs)) e c.refused.0

module _ {N : Type 0} (v : Values N) (w : Core) (me : Owner) (reading : Reading) where
  of-node : (e : Error) (mid : Core) → RefusesNode v w me reading e mid → Quiet e
  of-node e mid r = of-adopt w me mid reading.load r.reads_node.top.kind r.reads_node.top.key r.x r.x (v.node_type r.x) (v.references r.x) e r.adopted

  of-root : (e : Error) (mid : Core) → RefusesRoot v w me reading e mid → Quiet e
  of-root e mid r = elim r.refuses [
    | inl (is, ended) ↦ of-end w me mid reading.load r.x (v.node_type r.x) (v.references r.x) e (Some r.x) ended
    | inr (is, handed) ↦ of-hand-over w me mid reading.load (handles_of (v.references r.x)) e handed
  ]

module _ {N : Type 0} (v : Values N) (lawful : IsLawful v) (w : Core) (me : Owner) (reading : Reading) where
  in-vain : (want : FetchTarget) (load : OpenLoad) (e : Error) (mid : Core) → AsksInVain w load want e mid → LoadRefused w mid e
  in-vain FetchTarget.Root load e mid vain = fetched w mid load.key e vain.refused
  in-vain (FetchTarget.Nested kind key) load e mid vain = fetched w mid key e vain.1.refused

  pub asked : (want : FetchTarget) (e : Error) (mid : Core) → LoadFetchCall w me reading.load want (Err e) mid → LoadRefused w mid e
  asked want e mid c = elim c.refused [
    | inl r ↦ sober-refused w mid e
        (quiet-sober e (only-refused {P = Quiet} e r (only-earlier _ _ (only-load w me reading.load) (only-where _ _ (only-spent w.last.handle))) tt))
    | inr (load, owned, vain) ↦ in-vain want load e mid vain
  ]

  of-blob : (e : Error) (frames : List Frame) → reading.frames ≡ frames → RefusesBlob v reading e → Sober e
  of-blob e [] is refuses = grind (basics, own-sober, lawful)
  of-blob e (top ∷ below) is refuses = grind (basics, own-sober, lawful, broken v.types top.node_type top.blob top.got e)

  of-nested : (e : Error) (mid : Core) → RefusesNested v.types w me reading e mid → LoadRefused w mid e
  of-nested e mid (kind, key, needs, inl c) = asked (FetchTarget.Nested kind key) e mid c
  of-nested e mid (kind, key, needs, inr (blob, is, deep, c)) = sober-refused w mid e (subst Sober (sym is) tt)

  -- what is given up then changes nothing of what the storage said
  closed-over : (e : Error) (mid w' : Core) (told : Result (Unit {0}) Error) → LoadCloses mid reading.load told w' → LoadRefused w mid e → LoadRefused w w' e
  closed-over e mid w' told closes r = record {
    named = r.named;
    tells = record { failed = λ code is. subst (HasFailed w.failures) (sym closes.leaves.failures) (r.tells.failed code is); absent = r.tells.absent };
  }

  met : (e : Error) (mid : Core) → Meets v w me reading e mid → LoadRefused w mid e
  met e mid (inl (refuses, a)) = sober-refused w mid e (of-blob e reading.frames refl refuses)
  met e mid (inr (inl (first, c))) = asked FetchTarget.Root e mid c
  met e mid (inr (inr (inl nested))) = of-nested e mid nested
  met e mid (inr (inr (inr (inl (kind, key, needs, c))))) = sober-refused w mid e (quiet-sober e (of-lazy w me mid reading.load kind key e c))
  met e mid (inr (inr (inr (inr (inl node))))) = sober-refused w mid e (quiet-sober e (of-node v w me reading e mid node))
  met e mid (inr (inr (inr (inr (inr root))))) = sober-refused w mid e (quiet-sober e (of-root v w me reading e mid root))

  pub fails : (e : Error) (w' : Core) → Fails v w me reading e w' → LoadRefused w w' e
  fails e w' (inl gives) = closed-over e gives.mid w' gives.told gives.closes (met e gives.mid gives.meets)
  fails e w' (inr ended) = sober-refused w w' e (quiet-sober e (handles-quiet e (by-handle-row w me ended.ended.refused.h any_mode e ended.ended.refused.why)))

pub loads-refused : {N : Type 0} (v : Values N) → LoadsRefusedLaw v
loads-refused v lawful w me reading e w' does = (fails v lawful w me reading e w' does.does.0).named

-- ---- what is asked of a handle

by-owner : (b c : Bool) → Only IsOfPin (if b then Some Error.NotYours else refused_if c Error.WrongMode)
by-owner true c e is = let of_another : IsOfPin Error.NotYours = omega arith in subst IsOfPin (same_some _ _ is) of_another
by-owner false c e is = only-if IsOfPin c Error.WrongMode (omega arith) e is

of-row : (me : Owner) (found : Option HandleRow) → Only IsOfPin (if_there
    (λ (row : HandleRow). if not (is_owner me row.owner) then Some Error.NotYours else refused_if (not (is_loose row.mode)) Error.WrongMode)
    (Some Error.NoSuchHandle) found)
of-row me None e is = let not_there : IsOfPin Error.NoSuchHandle = omega arith in subst IsOfPin (same_some _ _ is) not_there
of-row me (Some row) e is = by-owner (not (is_owner me row.owner)) (not (is_loose row.mode)) e is

of-spent : (last : ℕ) → Only IsOfPin (spent last)
of-spent last = only-if IsOfPin _ Error.NumbersSpent (omega arith)

pub pins-refused : PinsRefusedLaw
pins-refused w me h e w' c =
    only-refused {P = IsOfPin} e c.refused (only-earlier _ _ (of-row me (row_at w h)) (only-where _ _ (of-spent w.last.handle))) (omega arith)

pub begins-refused : BeginsRefusedLaw
begins-refused w me h e w' c = only-refused {P = IsOfPin} e c.refused
    (only-earlier _ _ (of-row me (row_at w h)) (only-where _ _ (only-earlier _ _ (of-spent w.last.load) (of-spent w.last.handle)))) (omega arith)

-- ---- a load is refused as too deep by what its key reads as

module _ (types : Types) (stored : ℕ → Option Blob) where
  -- a path goes on by one more reference
  goes-further : {t key n u last : ℕ} (blob : Blob) (kinds : List ℕ) (kind : Kind) (child : ℕ) → LeadsDown types stored t key n u last → stored last ≡ Some blob
      → after_kinds types u blob kinds ≡ asks kind child → is_eager kind.0 ≡ true → LeadsDown types stored t key (n + 1) (type_of kind.0) child
  goes-further blob kinds kind child (is-there t key) is next eager = goes-down t key child 0 (0 + 1) (type_of kind.0) child blob kinds kind refl is next eager
      (is-there (type_of kind.0) child)
  goes-further blob kinds kind child (goes-down t key c n longer u last b ks k e at step own more) is next eager =
      goes-down t key c (n + 1) (longer + 1) (type_of kind.0) child b ks k (omega arith) at step own
      (goes-further blob kinds kind child more is next eager)

  module _ (trees : ℕ → Tree) (root_key root_type : ℕ) where
    -- the path comes down to each frame's blob, which is stored
    down-to : (frame : Frame) (below : List Frame) → FramesFit types stored trees root_key root_type (frame ∷ below) → FramesAsked types (frame ∷ below)
        → LeadsDown types stored root_type root_key (length below) frame.node_type frame.key × (stored frame.key ≡ Some frame.blob)
    unfolding FramesFit FramesAsked
    down-to frame [] (fits, key, of_type) got = grind (basics, is-there)
    down-to frame (under ∷ rest) (fits, of_type, next, more) (got, eager, next2, more_asked) =
        let u = down-to under rest more more_asked in
        let step = asks-by-kinds types under.node_type under.blob under.got frame.kind frame.key next in
        let d = goes-further under.blob (kinds_of under.got) frame.kind frame.key u.0 u.1 step eager in
        grind basics

    of-path : (frames : List Frame) → FramesFit types stored trees root_key root_type frames → FramesAsked types frames → (kind : Kind) (key : ℕ) (blob : Blob)
        → need_of types frames ≡ needs_nested kind key → stored key ≡ Some blob → longest_path < length frames → ReadsTooDeep types stored root_type root_key
    of-path [] fits got kind key blob needs is long = absurd (cc)
    of-path (top ∷ below) fits got kind key blob needs is long =
        let d = down-to top below fits got in
        let step = asks-by-kinds types top.node_type top.blob top.got kind key (was-asked below (next_in types top) kind key (inl needs)) in
        let further = goes-further top.blob (kinds_of top.got) kind key d.0 d.1 step (eager-nested below (next_in types top) kind key needs) in
        record { n = length below + 1; last_type = type_of kind.0; last = key; blob = blob; down = further; is = is; deep = inl (omega arith) }

module _ {N B W : Type 0} (m : Seen N B W) (lawful : IsLawful m.values) (w : Core) (me : Owner) (reading : Reading) (trees : ℕ → Tree) (root_key root_type : ℕ)
    (fits : FramesFit m.values.types w.stored trees root_key root_type reading.frames)
    (got : FramesAsked m.values.types reading.frames) where
  abbrev Deep : Type 0
  Deep = ReadsTooDeep m.values.types w.stored root_type root_key

  not-asked : (want : FetchTarget) (u : Core) → LoadFetchCall w me reading.load want (Err Error.TooDeep) u → ⊥
  not-asked want u c = grind (arith, only-refused {P = Quiet}, only-earlier {P = Quiet}, only-where {P = Quiet}, only-load, only-spent)

  nested-deep : (u : Core) → RefusesNested m.values.types w me reading Error.TooDeep u → Deep
  nested-deep u x1 = grind (basics, not-asked, of-path)

  pub fails-deep : (w' : Core) → Fails m.values w me reading Error.TooDeep w' → Deep
  fails-deep w' (inr ended) = absurd (by-handle-row w me ended.ended.refused.h any_mode Error.TooDeep ended.ended.refused.why)
  fails-deep w' (inl gives) = elim gives.meets [
    | inl (refuses, a) ↦ (grind (basics, down-to, kinds_of, faulty-by-kinds, next_in))
    | inr (inl (first, c)) ↦ absurd (not-asked FetchTarget.Root gives.mid c)
    | inr (inr (inl nested)) ↦ nested-deep gives.mid nested
    | inr (inr (inr (inl (kind, key, needs, c)))) ↦ absurd (of-lazy w me gives.mid reading.load kind key Error.TooDeep c)
    | inr (inr (inr (inr (inl node)))) ↦ absurd (of-node m.values w me reading Error.TooDeep gives.mid node)
    | inr (inr (inr (inr (inr root)))) ↦ absurd (of-root m.values w me reading Error.TooDeep gives.mid root)
  ]

module _ {N B W E : Type 0} (m : Seen N B W) (lawful : IsLawful m.values) (s s' : MachineState N E) (trees trees' : ℕ → Tree)
    (on : IsGoingOn m.values s trees) where
  by-reading : (me : Owner) (reading : Reading) (load : OpenLoad) → IsReadingOf s.work reading ⊎ IsFresh s.pager.core reading
      → s.pager.core.loads reading.load.0 ≡ Some load → (w' : Core)
      → Fails m.values s.pager.core me reading Error.TooDeep w' → ReadsTooDeep m.values.types s.pager.core.stored reading.node_type load.key
  by-reading me reading load stands open_load w' fails =
      let g = going-of s trees on.readings reading stands in fails-deep m lawful s.pager.core me reading trees load.key reading.node_type
      (g.fits load open_load) g.asked w' fails

  pub load-deep : (event : Event N B W) (reply : EventReply N B W) → Happens m (world_of s) event reply (world_of s')
      → LoadIsDeep m.values s trees event reply s' trees'
  load-deep (Event.LoadStep l) (EventReply.LoadMoved (Ok reply)) is = λ reading load at open_load ended.
      let x = is.moves in let same : x.reading ≡ reading = same_some _ _ (sym x.at ∙ at) in let fails = rw (same, ended) at x.does.does in
      by-reading Owner.Caller reading load (reading-stands (world_of s) on.whole.pager.whole l reading at) (reading-open s on.whole l reading at open_load)
      s'.pager.core fails.0
  load-deep (Event.WorkerStep n) (EventReply.WorkerMoved (Ok reply)) is = λ walking r place through reading below load i there todo open_load taken.
      let x = is.moves in let same : x.walking ≡ walking = same_some _ _ (sym x.at ∙ there) in let step = rw (same, todo, taken) at x.does.does in
      by-reading (owner_worker n.0) reading load (inl (of_worker n.0 place walking r through below there todo)) open_load x.after.core step.1.refused.0.does.0
  load-deep event reply is = tt
