-- After each step the path still waits for what is done next, and less is left to do.
use Rattle.pagable_pageout.proofs.Words.{
  ArcRef,
  Bool,
  ClaimedNode,
  EachIsAwaited,
  EntryGetsResult,
  Environments,
  Equalities,
  HandleNumber,
  Hashes,
  List,
  Nodes,
  None,
  Option,
  Orders,
  PartialOrders,
  Some,
  Task,
  Todo,
  Turn,
  WaitingValue,
  Written,
  advance,
  ap,
  arith,
  back_of,
  basics,
  identity_of,
  if_there,
  if◌then◌else◌,
  length,
  length-map,
  longest_path,
  none-some,
  refl,
  same_some,
  slice_get,
  subst,
  sym,
  tests,
  to_finish,
  to_item,
  to_start,
  todo_of,
  waiting_todo,
  waits_as,
  work_left,
  ℕ,
  [],
  ◌*◌,
  ◌+◌,
  ◌<◌,
  ◌∙◌,
  ◌∷◌,
  ◌≡◌,
  ◌≤◌,
}
use Rattle.pagable_pageout.specs.{
  Slots.ids_of,
  Tasks.{Awaits, AwaitsWithHeight, IfGoes, LowersWorkLeft, TakesNext, claim_weight, raise_height, todos},
  declared.results.SlotResult.SlotResult,
}
use Rattle.pagable_pager_spec.specs.{Basics.{above, is_eager}, Workers.{give, give_known, next_start, place_below}, World.Open}
use Rattle.std.proofs.{
  Common.{drop, get_or, map, reverse, suc, take, zero, ◌++◌, ◌^◌},
  Math.Nat.mul-le-mul_right,
  lemmas.List.{at_drop_all, at_drop_more, length-append, length-reverse, map-append, nil_from_length, reverse-append, take_more},
  lemmas.Option.{get_or_from_slice_get, slice_get_within},
}
use Rattle.std.specs.Prelude.{max}

-- what is left of references after so many, in both cases
left-by : (Q : List ArcRef → Type 0) (n : ℕ) (refs : List ArcRef) → n ≤ length refs → (n ≡ length refs → Q [])
    → ((r : ArcRef) (rest : List ArcRef) → slice_get refs n ≡ Some r → Q (r ∷ rest))
    → Q (drop n refs)
left-by Q zero [] few none more = none refl
left-by Q zero (r ∷ rs) few none more = more r rs refl
left-by Q (suc n) [] few none more = absurd (omega arith)
left-by Q (suc n) (r ∷ rs) few none more = left-by Q n rs (omega arith) (λ e. none (ap suc e)) more

pub advance-way : (o : Open) (below : List Todo) → length o.keys ≤ length o.written.references → Awaits below o.reference o.place
    → o.place + o.height ≤ longest_path
    → EachIsAwaited (advance (to_finish o ∷ below))
unfolding Awaits
advance-way o below few up near =
    left-by (λ rest. EachIsAwaited (next_start o.place rest ++ to_finish o ∷ below)) (length o.keys) o.written.references few (λ all. (all, up, near))
    (λ r rest at. (at, refl, near, up))

pub item-way : (written : Written) (keys : List ℕ) → length keys ≤ length written.references → EachIsAwaited (advance (to_item written keys ∷ []))
unfolding Awaits
item-way written keys few = left-by (λ rest. EachIsAwaited (next_start 0 rest ++ to_item written keys ∷ [])) (length keys) written.references few
    (λ all. (all, refl))
    (λ r rest at. (at, refl, refl))

-- the height by the reference too fits
near-by : (place height p h kind : ℕ) (b : Bool) → is_eager kind ≡ b → p ≡ (if b then place + 1 else 0) → place + height ≤ longest_path → p + h ≤ longest_path
    → place + max height (above kind h) ≤ longest_path
near-by place height p h kind b is at near low = grind tests

node-awaits : (o : Open) (below : List Todo) (r : ArcRef) (h : ℕ) → AwaitsWithHeight (to_finish o ∷ below) r h
    → (slice_get o.written.references (length o.keys) ≡ Some r) × (o.place + max o.height (above r.kind.0 h) ≤ longest_path) × Awaits below o.reference o.place
unfolding Awaits
node-awaits o below r h (p, (at, is, near, up), low) = (at, near-by o.place o.height p h r.kind.0 (is_eager r.kind.0) refl is near low, up)

one-more : {A : Type 0} (refs : List ArcRef) (xs : List A) (x : A) (r : ArcRef) → slice_get refs (length xs) ≡ Some r → length (xs ++ x ∷ []) ≤ length refs
one-more refs xs x r at = let a = length-append xs (x ∷ []) in let b = slice_get_within refs (length xs) r at in omega (arith, a, b)

-- what waits for a reference takes its result
pub takes-next : (node : Option ClaimedNode) (written : Written) (keys : List ℕ) (below : List Todo) (r : ArcRef) (h : ℕ)
    → AwaitsWithHeight (waits_as node written keys ∷ below) r h → TakesNext node written keys r h
unfolding Awaits
takes-next given written keys below r h up = grind (tests, node-awaits, none-some, same_some)

-- a reference is done
pub give-way : (below : List Todo) (r : ArcRef) (key h : ℕ) → AwaitsWithHeight below r h → EachIsAwaited (give r key h below)
unfolding Awaits
give-way [] r key h up = tt
give-way (to_finish o ∷ below) r key h up =
    let a = node-awaits o below r h up in
    advance-way (record o { keys = o.keys ++ key ∷ []; height = max o.height (above r.kind.0 h) }) below (one-more o.written.references o.keys key r a.0) a.2
    a.1
give-way (to_item written keys ∷ below) r key h up =
    subst (λ bs. EachIsAwaited (advance (to_item written (keys ++ key ∷ []) ∷ bs))) (sym up.1.2)
    (item-way written (keys ++ key ∷ []) (one-more written.references keys key r up.1.0))
give-way (x ∷ below) r key h up = absurd up.1

pub known-way : (below : List Todo) (r : ArcRef) (key h : ℕ) → AwaitsWithHeight below r h → EachIsAwaited (give_known r key h below)
known-way [] r key h up = up
known-way (x ∷ below) r key h up = give-way (x ∷ below) r key h up

-- a result that goes to what waits
pub gives-way : (below todo : List Todo) (r : ArcRef) (key h : ℕ) → EntryGetsResult r key h below todo → AwaitsWithHeight below r h → EachIsAwaited todo
gives-way below todo r key h gives up = subst EachIsAwaited (ap (give r key h) gives.was ∙ sym gives.is) (give-way below r key h up)

pub ruleset ways = (known-way, gives-way)

-- ---- what a worker has to do, after a reference was done

module _ {E EN EH EK EV : Type 0} {g : Environments E EN EH EK EV} {gh : Hashes EH} {go : Orders EK} {gq : Equalities EK} {gp : PartialOrders EK}
    {gn : Nodes EN E EN EH EK EV} where
  pub todos-more : (ws : List (WaitingValue E EN EH EK EV g gh go gq gp gn)) (w : WaitingValue E EN EH EK EV g gh go gq gp gn)
      → todos (ws ++ w ∷ []) ≡ waiting_todo w
      ∷ todos ws
  unfolding todos
  todos-more ws w = ap (map waiting_todo) (reverse-append ws (w ∷ []))

  pub todos-length : (ws : List (WaitingValue E EN EH EK EV g gh go gq gp gn)) → length (todos ws) ≡ length ws
  unfolding todos
  todos-length ws = length-map (reverse ws) waiting_todo ∙ length-reverse ws

  pub todos-none : (ws : List (WaitingValue E EN EH EK EV g gh go gq gp gn)) → length ws ≡ 0 → todos ws ≡ []
  todos-none ws none = nil_from_length (todos ws) (todos-length ws ∙ none)

  -- where something waits no entry goes back
  pub back-none : (ws : List (WaitingValue E EN EH EK EV g gh go gq gp gn)) (entry : Option HandleNumber) → 0 < length ws → back_of entry (todos ws) ≡ None
  back-none ws entry some = by (todos ws) (omega (arith, todos-length ws))
    where
      by : (xs : List Todo) → 0 < length xs → back_of entry xs ≡ None
      by [] more = absurd (omega arith)
      by (x ∷ xs) more = refl

  -- the identities of one result more
  pub ids-more : (refs : List ArcRef) (xs ys : List (SlotResult E EN EH EK EV g gh go gq gp gn)) (r : ArcRef) (x : SlotResult E EN EH EK EV g gh go gq gp gn)
      → ids_of xs ≡ map identity_of (take (length xs) refs) → slice_get refs (length xs) ≡ Some r
      → x.identity ≡ identity_of r → ys ≡ xs ++ x ∷ []
      → ids_of ys ≡ map identity_of (take (length ys) refs)
  ids-more refs xs ys r x each at own is =
      let lt = slice_get_within refs (length xs) r at in
      let next : get_or refs (length xs) r ≡ r = get_or_from_slice_get refs (length xs) r r at in
      let more : length ys ≡ length xs + 1 = ap length is ∙ length-append xs (x ∷ []) in
      ap ids_of is ∙ map-append (λ (r : SlotResult E EN EH EK EV g gh go gq gp gn). r.identity) xs (x ∷ []) ∙ ap (λ is. is ++ x.identity ∷ []) each
      ∙ ap (λ i. map identity_of (take (length xs) refs) ++ i ∷ []) own
      ∙ sym (map-append identity_of (take (length xs) refs) (r ∷ []))
      ∙ sym (ap (λ n. map identity_of (take n refs)) more ∙ ap (map identity_of)
      (take_more refs (length xs) r lt ∙ ap (λ z. take (length xs) refs ++ z ∷ []) next))

-- ---- what waits, a node or the item

pub give-is : (node : Option ClaimedNode) (written : Written) (keys : List ℕ) (below : List Todo) (r : ArcRef) (key height : ℕ)
    → give r key height (waits_as node written keys ∷ below) ≡ advance (waits_as (raise_height r.kind.0 height node) written (keys ++ key ∷ []) ∷ below)
give-is given written keys below r key height = grind tests

-- what holds of a node with the height by a reference too
pub raise_height-has : (Q : ClaimedNode → Type 0) (kind height : ℕ) (node : Option ClaimedNode)
    → ((m : ClaimedNode) → node ≡ Some m → Q (record m { height = max m.height (above kind height) }))
    → (n : ClaimedNode) → raise_height kind height node ≡ Some n → Q n
raise_height-has Q kind height given f n is = grind (tests, same_some)

-- of so many references that are done, the next is started, or none is left
module _ (node : Option ClaimedNode) (written : Written) (keys : List ℕ) (below : List Todo) (n : ℕ) (many : length keys ≡ n) where
  pub settled-all : length written.references ≤ n → waits_as node written keys ∷ below ≡ advance (waits_as node written keys ∷ below)
  settled-all all = grind (basics, at_drop_all)

  pub settled-next : (r : ArcRef) (p : ℕ) → n < length written.references → r ≡ get_or written.references n r → p
      ≡ place_below (if_there (λ (n : ClaimedNode). n.place) 0 node) r.kind.0
      → to_start r p ∷ waits_as node written keys ∷ below ≡ advance (waits_as node written keys ∷ below)
  settled-next r p more is at = grind (basics, at_drop_more)

-- what a path with nothing on it, and one with one more, is as plain data
pub ruleset paths = (tests, todos-none, todos-more, back-none, item-way)

pub ruleset settling = (basics, todos-more, settled-all, settled-next, length-map)

pub ruleset giving = (basics, todos-more, todos-none, raise_height-has, length-map, map-append, slice_get_within)

-- ---- the number that falls with each step of a walk

falls-by : (l l' d d' b : ℕ) → l' + 1 ≤ l → d' < b → l' * b + d' < l * b + d
falls-by l l' d d' b less low = let a : (l' + 1) * b ≤ l * b = mul-le-mul_right b less in omega (arith, a)

module _ {X XN XH XK XV : Type 0} {g : Environments X XN XH XK XV} {gh : Hashes XH} {go : Orders XK} {gq : Equalities XK} {gp : PartialOrders XK}
    {gn : Nodes XN X XN XH XK XV} where
  pub start-falls : (turn : Turn X XN XH XK XV g gh go gq gp gn) (l l' : ℕ) (r : ArcRef) (place : ℕ) (below after : List Todo) → l' + 1 ≤ l
      → length below < 2 ^ 64 → LowersWorkLeft (to_start r place ∷ below) turn after
      → IfGoes turn (l' * claim_weight + work_left after < l * claim_weight + work_left (to_start r place ∷ below))
  start-falls turn l l' r place below after less few leads = grind (tests, falls-by)

  pub other-falls : (task : Task X XN XH XK XV g gh go gq gp gn) → ((r : ArcRef) (place : ℕ) → task ≡ Task.Start r place → ⊥)
      → (turn : Turn X XN XH XK XV g gh go gq gp gn) (l : ℕ) (below after : List Todo) → LowersWorkLeft (todo_of task ∷ below) turn after
      → IfGoes turn (l * claim_weight + work_left after < l * claim_weight + work_left (todo_of task ∷ below))
  other-falls task other turn l below after leads = grind tests

pub ruleset dues = (tests, start-falls, other-falls, todos-length)
