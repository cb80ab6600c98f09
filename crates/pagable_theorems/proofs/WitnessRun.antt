-- The chain of two levels is a chain of the machine, and satisfies the headline with all that it asks.
use Rattle.pagable_pager_spec.specs.{
  Basics.{is_eager, is_loose_kind},
  Calls.{CountCall, IsNext, UnpinCall, row_of, with_key, with_mode},
  Cascade.{IsLeast, is_keyed, nobody, owned_outside},
  Events.{Ends, ReadingsAre, WorkStays, no_shelf, reading_at, steps_after},
  LoadCalls.{BeginCall, EndCall, Installs, LazyCall},
  Loads.{ReadingDoes, answers_from, need_of, needs_lazy},
  Pager.{EventBrings, EventHolds, HoldsItsNodes, HoldsItsValues, IsCellOf, IsReadingWhole, Moves, ReadingBrings, ReplyWrites, TookWrites},
  Refusals.named_fault,
  Runs.{EventDoes, IsPremised, MomentsBringHeld, ReadsAsType, TakesWell, TodoAsksWell},
  Workers.{claim_fault, fresh, is_counted, is_workers, is_workers_at, without_worker},
  World.{HasForm, SameShelf, digest, is_here, to_publish},
}
use Rattle.pagable_theorems.proofs.{
  CascadeWitness.and-false,
  Chains.headline_law,
  NewPager.new_whole,
  SmallPagers.{AreAlone, Few, Passes, alike-self, falls-alone, falls-so, loose-at, loose-holds, none-cached, updated-past, whole-so},
  Trees.same_some,
  Words.{Among, AreMoments, ArcRef, Beginning, Blob, CloneCall, Core, Event, EventReply, HandleRow, Happens, IsLawful, IsMachineWhole, IsReadable, IsReadableType},
  Words.{IsWellAsked, KeepsOpen, Kind, LiesIn, List, LoadAnswer, MachineState, Mode, None, Ok, OpenLoad, Option, Owner, PagerState, Reading, ReadsRoot, Shelf},
  Words.{Some, Todo, Tree, WalkDoes, Walking, WorkerAnswer, Written, arith, basics, blob_of, false, find_row, identity_of, if_there, inl, inr, is_in},
  Words.{is_named_by, is_some, length, owner_worker, reference-form, references_fault, references_in, refl, row_at, state_after, subst, suc, sym, to_finish},
  Words.{to_item, to_pin, to_release, to_set, to_start, to_write, tree, true, type_of, updated, world_of, zero, ℕ, [], ◌++◌, ◌+◌, ◌==◌, ◌∙◌, ◌∷◌, ◌≡◌, ◌≤◌},
  Words.◌⊎◌,
}
use Rattle.pagable_theorems.specs.{SmallWorlds.{outer}, Witness.{ArePremised, TwoLevelsMeetTheHeadline, value_at}}
use Rattle.pagable_value_spec.specs.{Blob.preimage, Form.nothing-form, Keyed.throughout-alone, Trees.{none-followed, rest_of}}
use Rattle.std.specs.Prelude.{IfSome, is_none, nat_le}
use Rattle.pagable_theorems.specs.Witness as two
use Rattle.pagable_value_spec.specs.Meaning as meanings
use Rattle.pagable_value_spec.specs.Reading as grammar
use Rattle.pagable_value_spec.specs.Shape as shapes

-- the worker is at work exactly until it has answered
abbrev pub FitsWalking : Core → Option Walking → Type 0
FitsWalking w None = w.workers 1 ≡ false
FitsWalking w (Some x) = (x.table ≡ 1) × (w.workers 1 ≡ is_none x.answer)

-- all that is asked of a pager with these values
abbrev pub Good : Core → List (Option two.Sample) → Type 0
Good w vs = Few w × Passes w vs

pub same-shelf : (s : Shelf) → SameShelf s s
same-shelf s = record { slots = λ i. refl; waits = λ v. refl }

-- what a store asks; and what a step does
abbrev CanStore : Core → Written → List ℕ → Type 0
CanStore w written keys = (length keys ≡ length written.references) × (w.closed ≡ false) × (w.stored (digest two.sample (blob_of written.bytes keys)) ≡ None)

abbrev HasKind : two.Sample → Type 0
HasKind None = Unit {0}
HasKind (Some r) = r.kind.0 ≡ 4

abbrev Asks : Core → Shelf → List Todo → Type 0
Asks w s (to_start r place ∷ below) = (nat_le place 0 ≡ true) × (claim_fault w r ≡ None) × (s.slots (identity_of r) ≡ None)
Asks w s (to_pin r place ∷ below) = (row_at w r.handle ≡ Some (row_of r.handle.0 r.node Mode.LoosePinned
    (if_there (λ (row : HandleRow). row.owner) Owner.Caller (row_at w r.handle))))
    × (row_at (two.cloned w r.node) (two.handle (w.last.handle + 1)) ≡ Some (row_of (w.last.handle + 1) r.node Mode.LoosePinned (owner_worker 1)))
    × (is_here (two.cloned w r.node) r.node.0 ≡ true)
    × (nat_le w.last.handle 6 ≡ true)
Asks w s (to_write r place through ∷ below) = (value_at two.two_values r.node.0 ≡ Some (two.value_of r.node)) × HasKind (two.value_of r.node)
Asks w s (to_finish o ∷ below) = CanStore w o.written o.keys
Asks w s (to_set r through key height ∷ below) = (is_loose_kind r.kind.0 ≡ true)
    × (row_at w through ≡ Some (row_of through.0 r.node Mode.LoosePinned (owner_worker 1))) × AreAlone w (with_key w r.node key) nobody
Asks w s (to_publish r key height ∷ below) = Unit {0}
Asks w s (to_release r key height ∷ below) = AreAlone w w (is_workers_at w 1 r.node.0)
Asks w s (to_item written keys ∷ below) = CanStore w written keys
Asks w s todo = ⊥

does-so : (w : Core) (s : Shelf) (todo : List Todo) → Asks w s todo → let a = two.next_step w s todo in
    WalkDoes two.sample_seen 1 (record { core = w; shelf = s; todo = todo }) a.0 (record { core = a.1; shelf = a.2; todo = a.3 })
does-so w s (to_pin r place ∷ below) (live, clone_live, here, few) =
    let left : w.last.handle ≤ 6 = grind basics in
    let next : IsNext (two.handle (w.last.handle + 1)) w = record { above = refl; is_left = omega arith } in
    let cloned : CloneCall w (owner_worker 1) r.handle (Ok (two.handle (w.last.handle + 1))) (two.cloned w r.node) = search (live, next, alike-self) in
    grind (basics, cloned, alike-self, same-shelf)
does-so w s (to_set r through key height ∷ below) (loose, live, alone) = let f =
    falls-alone w (with_key w r.node key) nobody alone in grind (basics, f, same-shelf)
does-so w s (to_release r key height ∷ below) alone = search (same-shelf, falls-alone w w (is_workers_at w 1 r.node.0) alone)
does-so w s todo ok = grind (basics, alike-self, same-shelf)

-- the pager has few of each after the step, and after its answer
few-next : (w : Core) (s : Shelf) (todo : List Todo) (answer : Option WorkerAnswer) → Few w → let a = two.next_step w s todo in Few (two.ended answer a.1)
few-next w s x2 x3 few = grind (basics, updated-past)

writes-so : (w : Core) (s : Shelf) (work : _) (todo : List Todo) → Asks w s todo → let a =
    two.next_step w s todo in TookWrites two.sample (λ w. w) (two.machine w two.two_values work).pager a.0
writes-so w s work (to_write r place through ∷ below) (held, kind) = record {
  x = two.value_of r.node;
  held = held;
  form = form-of (two.value_of r.node) kind;
  listed = refl;
}
  where
    form-of : (x : two.Sample) → HasKind x → HasForm two.sample x (two.sample_written x)
    form-of None ok = record { shape = _; own = _; is = refl; means = refl; form = nothing-form _ }
    form-of (Some r) four = record { shape = _; own = _; is = refl; means = refl; form = reference-form _ 4 r four }
writes-so w s work todo ok = tt

abbrev EndsSo : Option WorkerAnswer → Core → Type 0
EndsSo None w = Unit {0}
EndsSo (Some answer) w = AreAlone w (without_worker w 1) (is_workers w 1)

ends-so : (answer : Option WorkerAnswer) (w : Core) → EndsSo answer w → Ends answer 1 w (two.ended answer w)
ends-so None w ok = alike-self w
ends-so (Some answer) w alone = record { told = Ok tt; falls = falls-alone w (without_worker w 1) (is_workers w 1) alone }

unfoldable pub AllAsk : ℕ → two.Working → Type 0
AllAsk zero x = Unit {0}
AllAsk (suc n) x =
    let a = two.next_step x.core x.shelf x.todo in let y = two.next x in
    (x.answer ≡ None) × Asks x.core x.shelf x.todo × (y.steps ≡ steps_after x.steps (is_counted x.todo a.0)) × EndsSo y.answer a.1
    × Passes y.core two.two_values
    × (y.core.workers 1 ≡ is_none y.answer) × AllAsk n y

none-there : {X Y : Type 0} (found : Option Y) (x : Option X) → x ≡ None → x ≡ if_there (λ (y : Y). x) None found
none-there x0 x is = grind basics

pub again : {X : Type 0} (n : ℕ) (x y : X) (f : ℕ → X) (q : ℕ) → updated n y f q ≡ updated n y (updated n x f) q
again n x y f q = grind basics

-- what happens, what values come, and that the machine is good afterwards
does : (s : MachineState two.Sample (Unit {0})) (event : Event two.Sample Blob Written) (reply : EventReply two.Sample Blob Written) (w : Core)
    (vs : List (Option two.Sample)) (shelf : Shelf)
    (walking : Option Walking) (reading : Option Reading) → let s' = two.machine w vs (two.work_of shelf walking reading) in
    Happens two.sample_seen (world_of s) event reply (world_of s')
    → ((n : ℕ) (x : two.Sample) → value_at vs n ≡ Some x → (s.pager.values n ≡ Some x)
    ⊎ ((s.pager.values n ≡ None) × EventBrings two.sample (world_of s) event n x))
    → ReplyWrites two.sample_seen s.pager reply → Good w vs → FitsWalking w walking → IfSome reading (λ r. IsReadingWhole w r.load.0 r)
    → EventDoes two.sample_seen s event reply s'
does s event reply w vs shelf walking reading happens come writes (few, p) walks reads =
    let whole : IsMachineWhole two.sample (two.machine w vs (two.work_of shelf walking reading)) =
    record { pager = whole-so w vs few p; readings = grind basics; walkings = grind basics; each_walks = grind basics } in
    let holds : Moves (λ n x. EventHolds two.sample s.pager event x) s.pager (two.machine w vs (two.work_of shelf walking reading)).pager =
    record {
      each = λ n x is. elim (come n x is) [
        | inl was ↦ inl was
        | inr (none, came) ↦
            inr (none, loose-holds s.pager event x (loose-at vs n x p.stands.loose is))
      ];
      environment = refl;
    } in
    search (whole, holds)

asked : (s : MachineState two.Sample (Unit {0})) (x : two.Happening) → KeepsOpen x.event → ((trees : ℕ → Tree) → IsWellAsked two.sample s trees x.event x.reply)
    → (trees : ℕ → Tree)
    → IsPremised two.sample s trees x.event x.reply x.after
asked s x open_still well trees = record {
  settled = λ n x is a b own other. other ∙ sym own;
  reads_settled = λ x is a b own other. other ∙ sym own;
  stays_open = open_still;
  well = well trees;
}

-- each type of the sample is read back
reads-types : (n : ℕ) → IsReadableType two.sample_types n
unfolding IsReadable LiesIn
reads-types n s is = grind (basics, throughout-alone)

infixr 3 ◌⨾◌
◌⨾◌ : {A B : Type 0} → A → B → A × B
a ⨾ b = (a, b)

pages : (n : ℕ) (x : two.Working) (xs : List two.Happening) → Few x.core → AllAsk n x → AreMoments two.sample_seen (two.at_work (two.walked n x)) xs
    × ArePremised (two.at_work (two.walked n x)) xs
    → AreMoments two.sample_seen (two.at_work x) (two.page_out n x ++ xs) × ArePremised (two.at_work x) (two.page_out n x ++ xs)
unfolding two.page_out two.walked AllAsk
pages zero x xs few ok rest = rest
pages (suc n) x xs few (works, asks, counts, ends, passes, at_work, ok) rest =
    let y = two.next x in let few_then = few-next x.core x.shelf x.todo y.answer few in
    let (moments, premised) = pages n y xs few_then ok rest in (
      does _ _ _ y.core two.two_values y.shelf (Some (two.walking y)) None
          (let d = does-so x.core x.shelf x.todo asks in let e = ends-so _ _ ends in search (arith, d, e, works, counts, none-there, again, same-shelf))
          (λ n x is. inl is)
          (writes-so x.core x.shelf (two.work_of x.shelf (Some (two.walking x)) None) x.todo asks) (few_then, passes) (refl, at_work) tt ⨾ moments,
      asked _ _ tt (λ trees w is. subst (λ (w : Walking). TodoAsksWell two.sample (two.at_work x).pager w.todo) (same_some _ _ is)
          (grind (basics, reads-types))) ⨾ premised,
    )

begun-asks : AllAsk 15 two.begun
unfolding AllAsk is_named_by find_row preimage references_fault is_in
begun-asks = search arith

births-good : Good two.new_core [] × Good two.child_born (None ∷ Some None ∷ []) × Good two.both_born two.two_values × Good two.begun.core two.two_values
unfolding is_named_by find_row references_fault is_in
births-good = (search (arith, none-cached), search (arith, none-cached), search (arith, none-cached), search (arith, none-cached))

loads-good : Good two.evicted [] × Good two.loading [] × Good two.child_got [] × Good two.loaded two.last_values × Good two.key_loading two.last_values
    × Good two.read_back two.last_values
unfolding two.walked is_named_by find_row preimage references_fault is_in
loads-good = (
  (search (arith, none-cached), search arith),
  (search (arith, none-cached), search arith),
  (search (arith, none-cached), search arith),
  (search (arith, none-cached), record { handles = search arith; stands = search arith; numbers = search arith }),
  (search (arith, none-cached), record { handles = search arith; stands = search arith; numbers = search arith }),
  (search (arith, none-cached), record { handles = search arith; stands = search arith; numbers = search arith }),
)

same-work : (shelf : Shelf) (walking : Option Walking) (reading reading' : Option Reading)
    → WorkStays (two.work_of shelf walking reading) (two.work_of shelf walking reading')
same-work shelf walking reading reading' = record { shelves = λ t. same-shelf _; last_table = refl; walkings = λ v. refl }

-- the one reading goes on, or is over
reads-on : (w : Core) (r : Reading) (before : ℕ → Option Reading) → is_some (w.loads r.load.0) ≡ true → ((l : ℕ) → (l == r.load.0) ≡ false → before l ≡ None)
    → (l : ℕ)
    → two.reads (Some r) l ≡ if_there (λ (load : OpenLoad). updated r.load.0 (Some r) before l) None (w.loads l)
reads-on w r before there other l = grind (basics, none-there)

births-do : (xs : List two.Happening) → AreMoments two.sample_seen (two.at_work two.begun) xs → AreMoments two.sample_seen two.new_one (two.births ++ xs)
unfolding find_row is_named_by is_in references_fault
births-do xs rest = does _ _ _ two.new_core [] no_shelf None None (grind (basics, alike-self, same-shelf)) (λ n x is. inl is) tt births-good.0 refl tt
    ⨾ does _ _ _ two.child_born _ no_shelf None None (grind (basics, alike-self, same-work, none-there)) (grind basics) tt births-good.1
    refl tt
    ⨾ does _ _ _ two.both_born _ no_shelf None None (grind (basics, alike-self, same-work, none-there))
    (λ n x is. grind basics) tt births-good.2 refl tt
    ⨾ does _ _ _ two.begun.core _ no_shelf (Some (two.walking two.begun)) None (grind (basics, alike-self, same-shelf, none-there, again))
    (λ n x is. inl is) tt births-good.3 (refl, refl) tt
    ⨾ rest

-- with the parent's last pin its value goes, and with this the child
evicts : UnpinCall two.answered.core Owner.Caller (two.handle 2) (Ok tt) two.evicted
unfolding two.walked is_named_by find_row preimage
evicts =
    let w = with_mode two.answered.core (two.handle 2) Mode.LooseUnpinned in
    let set : IsLeast w.rows (is_keyed w) [] nobody outer = record {
      holds = refl;
      closed = λ n goes. omega (arith, and-false (2 == n));
      least = λ t holds closed. let fallen : owned_outside w.rows t 2 ≡ 0 = closed 2 refl in omega arith;
    } in
    record {
      does = inr (
        row_of 2 (two.node 2) Mode.LoosePinned Owner.Caller,
        search arith,
        inr (refl, falls-so two.answered.core w nobody outer (search arith) refl refl set),
      );
    }

-- the child's cell is made with its key, and nothing is read of it
gets-child : ReadingDoes two.sample two.loading Owner.Caller two.parent_fetched None two.parent_read.frames two.child_got
unfolding two.walked is_named_by find_row preimage grammar.read grammar.read_with answers_from
gets-child =
    let asked : LazyCall two.loading Owner.Caller (two.load_number 1) (record { 0 = 4 }) 8 (Ok (two.handle 8)) two.child_got =
    grind (basics, alike-self) in
    let row = row_of 8 (two.node 3) Mode.LooseUnpinned (Owner.Load (two.load_number 1)) in
    record {
      does = inr (inr (inr (inl (record {
        kind = record { 0 = 4 };
        key = 8;
        k = two.handle 8;
        row = row;
        needs = refl;
        asked = asked;
        made = refl;
        goes = refl;
      }))));
    }

ends-pinned : ReadingDoes two.sample two.child_got Owner.Caller two.parent_read (Some (LoadAnswer.Pinned (two.handle 9))) [] two.loaded
unfolding two.walked is_named_by find_row preimage references_fault is_in grammar.read grammar.read_with answers_from
ends-pinned =
    let i : Installs two.child_got Owner.Caller (two.load_number 1) (two.node 2) (two.handle 2) (two.handle 9) (two.to_leaf 3 8 ∷ []) two.loaded =
    let row = row_of 2 (two.node 2) Mode.LooseUnpinned Owner.Caller in
    record {
      row = row;
      owned = search arith;
      at = refl;
      next = search arith;
      falls = inl (refl, record { told = Ok tt; falls = falls-alone _ _ _ (search arith) });
    } in
    let ended : EndCall two.child_got Owner.Caller (two.load_number 1) (Some (two.to_leaf 3 8)) 0 (two.to_leaf 3 8 ∷ []) (Ok (two.handle 9)) two.loaded =
    record { installs = (two.node 2, two.handle 2, search arith, i); refused = tt } in
    search (arith, ended)

reads-out : ReadingDoes two.sample two.key_loading Owner.Caller two.child_fetched (Some (LoadAnswer.Read None)) [] two.read_back
unfolding two.walked is_named_by find_row preimage is_in named_fault grammar.read grammar.read_with answers_from
reads-out = let falls = falls-alone two.key_loading (two.handed two.key_loading) (two.left_over two.key_loading 2 (is_in [])) (search arith) in
    search (arith, falls)

loads-do : AreMoments two.sample_seen (two.at_work two.answered) (two.loads ++ two.counts 2)
unfolding two.walked is_named_by find_row preimage is_in references_fault grammar.read grammar.read_with answers_from
loads-do =
    let done = Some (two.walking two.answered) in
    does _ _ _ two.evicted [] _ done None (search (arith, evicts, same-work, none-there)) (λ n x is. absurd (cc)) tt loads-good.0 (refl, refl) tt
    ⨾ does _ _ _ two.loading [] _ done None
    (let b : BeginCall two.evicted Owner.Caller (two.handle 2) (Ok (Beginning.Load (two.load_number 1) 24)) two.loading =
    record { begins = (row_of 2 (two.node 2) Mode.LooseUnpinned Owner.Caller, search arith, search (arith, alike-self)); refused = tt } in
    search (arith, b, same-work, none-there)) (λ n x is. inl is) tt loads-good.1 (refl, refl) tt
    ⨾ does _ _ _ two.loading [] _ done (Some two.parent_fetched)
    (let d : ReadingDoes two.sample two.loading Owner.Caller (fresh (two.load_number 1) 0) None two.parent_fetched.frames two.loading =
    grind (basics, alike-self) in
    let r = reads-on two.loading two.parent_fetched (λ l. None) refl (λ l e. refl) in search (arith, d, r, same-work)) (λ n x is. inl is) tt loads-good.1
    (refl, refl) (search arith)
    ⨾ does _ _ _ two.child_got [] _ done (Some two.parent_read)
    (let r = reads-on two.child_got two.parent_read (two.reads (Some two.parent_fetched)) refl (λ l e. rw e refl) in search (arith, gets-child, r, same-work))
    (λ n x is. inl is) tt loads-good.2 (refl, refl) (search arith)
    ⨾ does _ _ _ two.loaded two.last_values _ done None
    (let r : ReadingsAre (updated 1 None (two.reads (Some two.parent_read))) (world_of (two.afterwards two.loaded two.last_values None)) =
    grind (basics, none-there) in
    search (arith, ends-pinned, r, same-work)) parent-comes tt loads-good.3 (refl, refl) tt
    ⨾ does _ _ _ two.key_loading _ _ done (Some (fresh (two.load_number 2) 1)) (grind (basics, alike-self, same-work, reads-on))
    (λ n x is. inl is) tt loads-good.4 (refl, refl)
    (search arith)
    ⨾ does _ _ _ two.key_loading two.last_values _ done (Some two.child_fetched)
    (let d : ReadingDoes two.sample two.key_loading Owner.Caller (fresh (two.load_number 2) 1) None two.child_fetched.frames two.key_loading =
    grind (basics, alike-self) in
    let r = reads-on two.key_loading two.child_fetched (two.reads (Some (fresh (two.load_number 2) 1))) refl (λ l e. rw e refl) in
    search (arith, d, r, same-work)) (λ n x is. inl is) tt loads-good.4 (refl, refl) (search arith)
    ⨾ does _ _ _ two.read_back two.last_values _ done None
    (let r : ReadingsAre (updated 2 None (two.reads (Some two.child_fetched))) (world_of (two.afterwards two.read_back two.last_values None)) =
    grind (basics, none-there) in
    search (arith, reads-out, r, same-work)) (λ n x is. inl is) tt loads-good.5 (refl, refl) tt
    ⨾ does _ _ _ two.read_back _ _ done None
    (let c : CountCall two.read_back (two.handle 2) (Ok 2) = record {
      found = (row_of 2 (two.node 2) Mode.LoosePinned Owner.Caller, refl, refl);
      refused = tt;
    } in
    search (arith, c, alike-self, same-work, none-there)) (λ n x is. inl is) tt loads-good.5 (refl, refl) tt
    ⨾ tt
  where
    parent-comes : (n : ℕ) (x : two.Sample) → value_at two.last_values n ≡ Some x → (value_at [] n ≡ Some x) ⊎ ((value_at [] n ≡ None)
        × ((r : Reading) × (reading_at (world_of (two.afterwards two.child_got [] (Some two.parent_read))) (two.load_number 1) ≡ Some r)
        × ReadingBrings two.sample two.child_got r n x))
    parent-comes n x is =
        let b : (n ≡ 2) × (x ≡ Some (two.to_leaf 3 8)) = grind basics in
        let cell : IsCellOf two.child_got (two.load_number 1) n = record { load = _; node = _; t = _; h = _; open_load = refl; root = refl; is = sym b.0 } in
        inr (refl, (two.parent_read, refl, inr (subst (λ y. ReadsRoot two.sample two.parent_read y) (sym b.1) (grind basics), cell)))

shaped : (x : two.Sample) → (shape : shapes.Shape) × (two.sample_types.nodes (two.sample.node_type x) ≡ Some shape)
shaped None = (shapes.nothing, refl)
shaped (Some r) = (shapes.reference 4, refl)

pub lawful : IsLawful two.sample
unfolding references_in
lawful = grind (basics, shaped)

child-reads : (s : PagerState two.Sample (Unit {0})) → s.core.stored 8 ≡ Some (blob_of [] []) → ReadsAsType two.sample s 1 8
unfolding grammar.read grammar.read_with
child-reads s stored = record {
  read = tree 1 meanings.none;
  typed = refl;
  reads = record {
    own = meanings.none;
    reads = record { blob = (blob_of [] []); stored = stored; rest = rest_of (blob_of [] []); reads = refl };
    follows = none-followed;
  };
}

takes-well : (s : PagerState two.Sample (Unit {0})) (reading : Reading)
    → ((kind : Kind) (key : ℕ) → need_of two.sample_types reading.frames ≡ needs_lazy kind key → ReadsAsType two.sample s (type_of kind.0) key)
    → TakesWell two.sample s reading
takes-well s reading keys = record { types = λ frame among. reads-types frame.node_type; keys = keys }

loads-asked : ArePremised (two.at_work two.answered) (two.loads ++ two.counts 2)
unfolding two.walked preimage find_row is_named_by grammar.read grammar.read_with answers_from
loads-asked =
    asked _ _ tt (λ trees. tt) ⨾ asked _ _ tt (λ trees. tt)
    ⨾ asked _ _ tt (λ trees reading is. takes-well _ reading (grind (basics, child-reads)))
    ⨾ asked _ _ tt (λ trees reading is. takes-well _ reading (grind (basics, child-reads)))
    ⨾ asked _ _ tt (λ trees reading is. takes-well _ reading (grind (basics, child-reads)))
    ⨾ asked _ _ tt (λ trees. tt)
    ⨾ asked _ _ tt (λ trees reading is. takes-well _ reading (grind (basics, child-reads)))
    ⨾ asked _ _ tt (λ trees reading is. takes-well _ reading (grind (basics, child-reads)))
    ⨾ asked _ _ tt (λ trees. tt) ⨾ tt

later : (s : MachineState two.Sample (Unit {0})) (xs ys : List two.Happening) → AreMoments two.sample_seen s (xs ++ ys)
    → AreMoments two.sample_seen (state_after s xs) ys
unfolding state_after
later s [] ys all = all
later s (x ∷ xs) ys (does, rest) = later x.after xs ys rest

no-other : (n : ℕ) → AreMoments two.sample_seen two.new_one (two.moments n) → n ≡ 2
unfolding two.walked two.page_out preimage find_row is_named_by is_in state_after
no-other n all =
    let worked = later (two.at_work two.begun) (two.page_out 15 two.begun) (two.loads ++ two.counts n)
    (later two.new_one two.births (two.page_out 15 two.begun ++ (two.loads ++ two.counts n)) all) in
    let counted = later (two.at_work two.answered) two.loads (two.counts n) worked in
    let (row, is, told) = counted.0.step.happens.step.does.0.found in (grind basics)

-- a value of these types holds its nodes' values, since its references are loose
holds-nodes : (s : PagerState two.Sample (Unit {0})) (x : two.Sample) → HasKind x → HoldsItsNodes two.sample s x
holds-nodes s None kind = λ r (i, is) eager. absurd cc
holds-nodes s (Some q) kind = λ r among eager. absurd (by r among eager)
  where
    by : (r : ArcRef) → Among (q ∷ []) r → is_eager r.kind.0 ≡ true → ⊥
    by r (zero, is) eager =
        let same : q ≡ r = same_some _ _ is in
        let e : is_eager 4 ≡ true = subst (λ k. is_eager k ≡ true) kind (subst (λ (x : ArcRef). is_eager x.kind.0 ≡ true) (sym same) eager) in cc
    by r (suc i, is) eager = cc

pages-bring : (n : ℕ) (x : two.Working) (more : List two.Happening) → ((y : two.Working) → MomentsBringHeld two.sample (two.at_work y) more)
    → MomentsBringHeld two.sample (two.at_work x) (two.page_out n x ++ more)
unfolding two.page_out
pages-bring zero x more rest = rest x
pages-bring (suc n) x more rest = (tt, pages-bring n (two.next x) more rest)

loads-bring : (s : MachineState two.Sample (Unit {0})) → MomentsBringHeld two.sample s (two.loads ++ two.counts 2)
loads-bring s =
    (λ n x came is. absurd came, (tt, (tt, (tt, (tt, (tt, (tt, (tt, (λ n x came is. absurd came, tt)))))))))

all-bring : MomentsBringHeld two.sample two.new_one (two.moments 2)
all-bring = (
  tt,
  (
    λ n x came is. holds-nodes _ x (subst HasKind (sym came.0) tt),
    (
      λ n x came is. holds-nodes _ x (subst HasKind (sym came.0) refl),
      (tt, pages-bring 15 two.begun (two.loads ++ two.counts 2) (λ y. loads-bring (two.at_work y))),
    ),
  ),
)

pub headline_met : TwoLevelsMeetTheHeadline
headline_met =
    let new = new_whole (Unit {0}) two.sample in let worked = pages 15 two.begun (two.loads ++ two.counts 2) births-good.3.0 begun-asks
    (loads-do, loads-asked) in
    let start = new.starts two.new_one (new.new _ _ tt) (new.idle _ _ tt) lawful in
    let no-values : HoldsItsValues two.sample two.new_one.pager = record { each = λ n x is. absurd cc } in
    let premised : ArePremised two.new_one (two.moments 2) =
    asked _ _ tt (λ trees. tt) ⨾ asked _ _ tt (λ trees. tt) ⨾ asked _ _ tt (λ trees. tt) ⨾ asked _ _ tt (λ trees. tt) ⨾ worked.1 in
    assumption (
      lawful,
      start.whole,
      start.idle,
      start.stands,
      start.settled,
      premised,
      all-bring,
      no-values,
      headline_law (Unit {0}) two.sample_seen two.new_one (two.moments 2) start.whole start.idle (births-do _ worked.0),
      no-other,
    )
