-- What tables and lists of things to do know of trees stays right as long as stored blobs and nodes' trees stay; and the effect of a change of a table.
use Rattle.pagable_pager_spec.specs.{
  Basics.longest_path,
  Calls.Stores,
  Events.Ends,
  Pager.{ReplyWrites, TookWrites},
  Rightness.AreKeysOf,
  Runs.TodoAsksWell,
  Workers.{claim_fault, first_todo, give_known, next_start, open_node, with_failed, with_outcome, with_wait},
  World.{Fault, Open, digest, failed, published, to_load, to_pin, to_publish},
}
use Rattle.pagable_theorems.proofs.{
  EventEffects.site_of,
  FormsOfTrees.{IdentityStands, key-stands, leads-on, wrote},
  NewClaims.{EventTurns, StandsIn, same-grow, turns-grow, turns-keep},
  SlotsGrow.{AllStand, HasClaim, KeepsKeys, PutsSlot, ShelfGrows, among-drop, changes-slot, keys-grow, put-cases, puts-slot, some-same},
  Trees.{followed-all, same-number},
  Words.{Action, Among, ArcRef, Blob, Bool, Claim, Event, EventReply, FollowsTo, HandleNumber, HoldsSettled, Identity, IsLawful, IsMachineWhole, IsPublished},
  Words.{IsReadableType, IsWellAsked, List, MachineState, None, Ok, Option, PagerStandsFor, Seen, Shelf, Slot, Some, Task, Todo, Tree, Types, Values, Walking},
  Words.{WorkDoes, WorkFits, WorkerReply, WorkerState, Written, above, answer_after, ap, arith, basics, blob_of, cases_Bool, drop, give, identity_of},
  Words.{if◌then◌else◌, inl, inr, is_eager, length, max, nat_eq, no_result, of_entry, of_item, refl, rules, step_of, subst, suc, sym, to_fail, to_finish},
  Words.{to_item, to_release, to_set, to_start, to_write, true, type_of, world_of, zero, ℕ, [], ◌++◌, ◌+◌, ◌==◌, ◌∙◌, ◌∷◌, ◌≡◌, ◌≤◌},
}
use Rattle.pagable_theorems.specs.{
  TreeSteps.{Above, AllLow, AllWrote, BlobStands, Expects, Ground, HasBlob, HasRoom, IsAttained, IsDone, IsLow, KeyStands, KeysSoFar, Placed, SlotFits},
  TreeSteps.{SlotsFit, Waits, Walks, Wrote, WroteOver, WroteTree, ground_of},
}

-- ---- what is stored stays, and each node keeps its tree

pub record GroundGoes (g g' : Ground) : Type 0 where
  pub kept : (key : ℕ) (b : Blob) → g.stored key ≡ Some b → g'.stored key ≡ Some b
  pub last : g.last ≤ g'.last
  pub trees : (n : ℕ) → n ≤ g.last → g'.trees n ≡ g.trees n

module _ {shelf shelf' : Shelf} (keys : KeepsKeys shelf shelf') where
  pub keys-on : (rs : List ArcRef) (ks : List ℕ) → AreKeysOf shelf rs ks → AreKeysOf shelf' rs ks
  keys-on (r ∷ rs) (k ∷ ks) ((h, p), known) = ((h, keys (identity_of r) k h p), keys-on rs ks known)
  keys-on x0 x1 x2 = grind basics

  so-far-on : (height : ℕ) (rs : List ArcRef) (ks : List ℕ) → KeysSoFar shelf height rs ks → KeysSoFar shelf' height rs ks
  so-far-on height rs [] known = tt
  so-far-on height [] (k ∷ ks) known = absurd known
  so-far-on height (r ∷ rs) (k ∷ ks) ((h, p, le), known) = ((h, keys (identity_of r) k h p, le), so-far-on height rs ks known)

  low-on : {height : ℕ} {r : ArcRef} → IsLow shelf height r → IsLow shelf' height r
  low-on {height} {r} low = record { key = low.key; below = low.below; known = keys (identity_of r) low.key low.below low.known; within = low.within }

  attained-on : (height : ℕ) (rs : List ArcRef) → IsAttained shelf height rs → IsAttained shelf' height rs
  attained-on x0 rs x2 = grind basics

  pub done-on : {N : Type 0} (v : Values N) (task : Task) (key : ℕ) → IsDone v shelf task key → IsDone v shelf' task key
  done-on v (of_item written) key (ks, known, is, low) = (ks, keys-on written.references ks known, is, λ r among. low-on (low r among))
  done-on v (of_entry h i) key (height, p) = (height, keys i key height p)

module _ {N : Type 0} (v : Values N) {g g' : Ground} (goes : GroundGoes g g') where
  stands-on : {t : Tree} {key : ℕ} → KeyStands v g.stored t key → KeyStands v g'.stored t key
  stands-on {t} {key} h = search (rules, followed-all)

  pub wrote-on : {n : ℕ} {written : Written} → n ≤ g.last → WroteTree v.types g n written → WroteTree v.types g' n written
  wrote-on {n} {written} given w =
      let same = goes.trees n given in
      let inside : (r : ArcRef) → Among written.references r → r.node.0 ≤ g'.last = λ r among. omega (arith, w.given r among, goes.last) in
      let follows : FollowsTo g'.trees written.references w.own (g'.trees n).meaning =
      leads-on (subst (λ (t : Tree). FollowsTo g.trees written.references w.own t.meaning) (sym same) w.follows)
      (λ r own among. (among, goes.trees r.node.0 (w.given r among))) in
      let can = subst (λ (t : Tree). IsReadableType v.types t.type) (sym same) w.can in
      search (ap (λ (t : Tree). v.types.nodes t.type) same ∙ w.is, can, w.form, inside, follows, w.once)

  module _ {shelf shelf' : Shelf} (keys : KeepsKeys shelf shelf') where
    blob-on : {n key height : ℕ} {written : Written} → n ≤ g.last → BlobStands v g shelf n written key height → BlobStands v g' shelf' n written key height
    blob-on {n} {key} {height} {written} given b =
        let right : KeyStands v g'.stored (g'.trees n) key = subst (λ t. KeyStands v g'.stored t key) (sym (goes.trees n given)) (stands-on b.right) in
        search (
          wrote-on given b.wrote,
          keys-on keys written.references b.keys b.known,
          goes.kept key _ b.is_stored,
          right,
          b.within,
          low-on keys,
          b.low,
          attained-on keys height written.references b.attained,
        )

    pub slot-on : {i : Identity} {slot : Slot} → SlotFits v g shelf i slot → SlotFits v g' shelf' i slot
    slot-on {i} {slot} fits = record {
      given = omega arith;
      typed = ap (λ (t : Tree). t.type) (goes.trees i.node.0 fits.given) ∙ fits.typed;
      writes = λ references is. let (bytes, w) = fits.writes references is in (bytes, wrote-on fits.given w);
      publishes = λ key height is. let (written, so, b) = fits.publishes key height is in (written, so, blob-on fits.given b);
    }

module _ {N : Type 0} (v : Values N) {g g' : Ground} (goes : GroundGoes g g') where
  first-wrote-on : (x : Todo) → Wrote v.types g x → Wrote v.types g' x
  first-wrote-on (to_finish o) (given, w) = (omega arith, wrote-on v goes given w)
  first-wrote-on x0 w = grind basics

  all-wrote-on : (todo : List Todo) → AllWrote v.types g todo → AllWrote v.types g' todo
  all-wrote-on [] all = tt
  all-wrote-on (x ∷ below) (w, all) = (first-wrote-on x w, all-wrote-on below all)

module _ (types : Types) (g : Ground) where
  wrote-start : (place : ℕ) (rs : List ArcRef) (todo : List Todo) → AllWrote types g todo → AllWrote types g (next_start place rs ++ todo)
  wrote-start place [] todo all = all
  wrote-start place (r ∷ rs) todo all = (tt, all)

pub keys-same : {shelf shelf' : Shelf} → ((i : Identity) → shelf'.slots i ≡ shelf.slots i) → KeepsKeys shelf shelf'
keys-same same i key height p = record { slot = p.slot; claimed = same i ∙ p.claimed; known = p.known }

-- ---- to-do lists, where a table grows

module _ (shelf shelf' : Shelf) (more : ShelfGrows shelf shelf') where
  wait-on : (task : Task) (todo : List Todo) → Waits shelf task todo → Waits shelf' task todo
  unfolding Waits
  wait-on task (to_finish o ∷ below) (known, attained, place, reach, expects, waits) =
      grind (basics, so-far-on, keys-grow, attained-on, wait-on task below waits)
  wait-on task x1 x2 = grind (basics, so-far-on, keys-grow, longest_path)

  above-on : (task : Task) (r : ArcRef) (below : List Todo) → Above shelf task r below → Above shelf' task r below
  above-on task r below (expects, waits) = (expects, wait-on task below waits)

module _ {N : Type 0} {v : Values N} {g g' : Ground} {shelf shelf' : Shelf} (goes : GroundGoes g g') (more : ShelfGrows shelf shelf')
    (fits : SlotsFit v g shelf) where
  has-blob-on : {r : ArcRef} {key height : ℕ} → HasBlob v g shelf r key height → HasBlob v g' shelf' r key height
  has-blob-on {r} b =
      let a = more (identity_of r) b.slot b.claimed in
      let given = (fits (identity_of r) b.slot b.claimed).given in
      record {
        slot = a.0;
        written = b.written;
        claimed = a.1;
        wrote = a.2.references b.written.references b.wrote;
        stands = blob-on v goes (keys-grow more) given b.stands;
      }

  -- ---- slots: all stay, one is put in, or the worker's claims without a result have failed

  slots-on : ((i : Identity) → shelf'.slots i ≡ shelf.slots i) → SlotsFit v g' shelf'
  slots-on same i slot is = slot-on v goes (keys-grow more) (fits i slot (sym (same i) ∙ is))

  slots-but : {i : Identity} {new : Slot} → PutsSlot shelf.slots shelf'.slots i new → SlotFits v g' shelf' i new → SlotsFit v g' shelf'
  slots-but {i} {new} puts fits_new j slot now =
      elim (put-cases shelf.slots shelf'.slots i new puts j slot now) [
        | inl e ↦ rw (e.1, e.0) fits_new
        | inr e ↦ slot-on v goes (keys-grow more) (fits j slot e.1)
      ]

  slots-failed : (n : ℕ) → ((i : Identity) → shelf'.slots i ≡ (with_failed shelf n).slots i) → SlotsFit v g' shelf'
  slots-failed n same i slot' now =
      let is = sym (same i) ∙ now in
      let c : (old : Slot) × (shelf.slots i ≡ Some old) × ((if nat_eq old.worker n then with_outcome failed old else old) ≡ slot') = grind basics in
      let fit : SlotFits v g' shelf' i c.0 = slot-on v goes (keys-grow more) (fits i c.0 c.1) in
      subst (λ (z : Slot). SlotFits v g' shelf' i z) c.2 (grind (basics, fit.given, fit.typed, fit.writes, fit.publishes))

module _ {N : Type 0} {v : Values N} {g g' : Ground} {shelf : Shelf} (shelf' : Shelf) (goes : GroundGoes g g') (more : ShelfGrows shelf shelf')
    (fits : SlotsFit v g shelf) where
  walks-on : (task : Task) (todo : List Todo) → Walks v g shelf task todo → Walks v g' shelf' task todo
  walks-on task [] walks = tt
  walks-on task (to_start r place ∷ below) (at, rest) = (at, above-on shelf shelf' more task r below rest)
  walks-on task (to_pin r place ∷ below) (at, few, rest) = (at, few, above-on shelf shelf' more task r below rest)
  walks-on task (to_load r place through reading ∷ below) (at, few, rest) = (at, few, above-on shelf shelf' more task r below rest)
  walks-on task (to_write r place through ∷ below) (at, few, rest) = (at, few, above-on shelf shelf' more task r below rest)
  walks-on task (to_finish o ∷ below) waits = wait-on shelf shelf' more task (to_finish o ∷ below) waits
  walks-on task (to_item written keys ∷ below) waits = wait-on shelf shelf' more task (to_item written keys ∷ below) waits
  walks-on task (to_set r through key height ∷ below) (blob, reach, rest) =
      (has-blob-on goes more fits blob, reach, above-on shelf shelf' more task r below rest)
  walks-on task (to_publish r key height ∷ below) (blob, reach, rest) = (has-blob-on goes more fits blob, reach, above-on shelf shelf' more task r below rest)
  walks-on task (to_release r key height ∷ below) (p, reach, rest) = (keys-grow more _ _ _ p, reach, above-on shelf shelf' more task r below rest)
  walks-on task (to_fail fault back ∷ below) walks = tt

-- A worker's step, case by case: its table and its to-do list fit afterwards.

module _ (shelf : Shelf) where
  -- one more key is known, where the height grows
  so-far-more : (h k : ℕ) (rs : List ArcRef) (ks : List ℕ) (r : ArcRef) (more : List ArcRef) (key below : ℕ) → h ≤ k → above r.kind.0 below ≤ k
      → drop (length ks) rs ≡ r ∷ more
      → KeysSoFar shelf h rs ks → IsPublished shelf (identity_of r) key below → KeysSoFar shelf k rs (ks ++ key ∷ [])
  so-far-more h k [] (x ∷ ks) r more key below le new e known p = absurd known
  so-far-more h k (x ∷ rs) (y ∷ ks) r more key below le new e ((b, q, few), known) p =
      ((b, q, omega arith), so-far-more h k rs ks r more key below le new e known p)
  so-far-more h k x2 x3 r more key below le new e x11 p = grind (basics, identity_of, above)

  pub all-known : (h : ℕ) (rs : List ArcRef) (ks : List ℕ) → length ks ≡ length rs → KeysSoFar shelf h rs ks → AreKeysOf shelf rs ks
  all-known h (r ∷ rs) (k ∷ ks) e ((b, q, few), known) = ((b, q), all-known h rs ks (omega arith) known)
  all-known h x0 x1 e x3 = grind basics

  pub all-low : (h : ℕ) (rs : List ArcRef) (ks : List ℕ) → length ks ≡ length rs → KeysSoFar shelf h rs ks → AllLow shelf h rs
  all-low h (y ∷ rs) (k ∷ ks) e (one, low) r (suc i, there) = all-low h rs ks (omega arith) low r (i, there)
  all-low h x1 x2 e x4 r x6 = grind basics

  pub next-among : (rs : List ArcRef) (ks : List ℕ) (r : ArcRef) (more : List ArcRef) → drop (length ks) rs ≡ r ∷ more → Among rs r
  next-among rs ks r more e = among-drop (length ks) rs r (subst (λ (xs : List ArcRef). Among xs r) (sym e) (zero, refl))

-- what a reference adds is within the place's reach
adds : (b : Bool) (place height limit : ℕ) → (if b then place + 1 else 0) + height ≤ limit → place ≤ limit → place + (if b then height + 1 else 0) ≤ limit
adds x0 place height limit le few = grind basics

module _ {N : Type 0} (v : Values N) (g : Ground) (shelf : Shelf) (task : Task) where
  started-node : (o : Open) (below : List Todo) (rs : List ArcRef) → drop (length o.keys) o.written.references ≡ rs → Waits shelf task (to_finish o ∷ below)
      → Walks v g shelf task (next_start o.place rs ++ to_finish o ∷ below)
  started-node o below x2 e waits = grind basics

  started-item : (written : Written) (ks : List ℕ) (below : List Todo) (rs : List ArcRef) → drop (length ks) written.references ≡ rs
      → Waits shelf task (to_item written ks ∷ below)
      → Walks v g shelf task (next_start 0 rs ++ to_item written ks ∷ below)
  started-item written ks below x3 e waits = grind basics

  -- a key goes to what waits for it
  pub given : (r : ArcRef) (key height : ℕ) → IsPublished shelf (identity_of r) key height → (below : List Todo) → HasRoom r height below → Expects task r below
      → Waits shelf task below
      → Walks v g shelf task (give r key height below)
  unfolding Waits
  given r key height p [] reach expects waits = tt
  given r key height p (to_finish o ∷ below) reach (more, e) (known, attained, place, fits, expects, waits) =
      let new : ℕ = max o.height (above r.kind.0 height) in
      let a = adds (is_eager r.kind.0) o.place height longest_path reach (omega arith) in
      started-node (record o { keys = o.keys ++ key ∷ []; height = new }) below _ refl (
        so-far-more shelf o.height new _ _ r more key height (omega arith) (omega arith) e known p,
        -- of two heights that are there the greater one is
        (let second : IsAttained shelf (above r.kind.0 height) o.written.references =
            inr (record { r = r; among = next-among shelf o.written.references o.keys r more e; key = key; below = height; known = p; least = omega arith }) in
            grind arith),
        place,
        omega arith,
        expects,
        waits,
      )
  given r key height p (to_item written ks ∷ below) reach (more, e) (is, known) =
      let a = adds (is_eager r.kind.0) 0 height longest_path reach (omega arith) in
      started-item written _ below _ refl (is, so-far-more shelf longest_path longest_path _ _ r more key height (omega arith) (omega arith) e known p)
  given r key height p (_ ∷ below) reach expects waits = absurd expects

  given-known : (r : ArcRef) (key height : ℕ) → IsPublished shelf (identity_of r) key height → (below : List Todo) → HasRoom r height below
      → Expects task r below → Waits shelf task below
      → Walks v g shelf task (give_known r key height below)
  given-known r key height p [] reach expects waits = (p, reach, (expects, waits))
  given-known r key height p (x ∷ below) reach expects waits = given r key height p (x ∷ below) reach expects waits

-- a known key of a table that fits stands for its node's tree
pub stands-for : {N : Type 0} (v : Values N) (g : Ground) (shelf : Shelf) → SlotsFit v g shelf → (i : Identity) (key height : ℕ)
    → IsPublished shelf i key height → IdentityStands v g i key
stands-for v g shelf fits i key height p = let fit = fits i p.slot p.claimed in record { typed = fit.typed; right = (fit.publishes key height p.known).2.right }

module _ {N B W : Type 0} (m : Seen N B W) (n : ℕ) {g g' : Ground} (task : Task) (s s' : WorkerState) (goes : GroundGoes g g')
    (more : ShelfGrows s.shelf s'.shelf)
    (fits : SlotsFit m.values g s.shelf)
    (claimable : (r : ArcRef) → claim_fault s.core r ≡ None → (r.node.0 ≤ g.last) × ((g.trees r.node.0).type ≡ type_of r.kind.0)) where
  still : (r : ArcRef) (below : List Todo) → Above s.shelf task r below → Above s'.shelf task r below
  still r below above = above-on s.shelf s'.shelf more task r below above

  -- what one step of a worker leaves
  abbrev Fits : Type 0
  Fits = SlotsFit m.values g' s'.shelf × Walks m.values g' s'.shelf task s'.todo

  did : SlotsFit m.values g' s'.shelf → {next : List Todo} → s'.todo ≡ next → Walks m.values g' s'.shelf task next → Fits
  did slots e walks = (slots, subst (λ t. Walks m.values g' s'.shelf task t) (sym e) walks)

  module _ (same : (i : Identity) → s'.shelf.slots i ≡ s.shelf.slots i) where
    kept : SlotsFit m.values g' s'.shelf
    kept = slots-on goes more fits same

    fails : {back : Option HandleNumber} (fault : Fault) → s'.todo ≡ to_fail fault back ∷ [] → Fits
    fails fault e = did kept e tt

    finishes : (o : Open) (below : List Todo) (key : ℕ) → HasClaim s.shelf n (identity_of o.reference) (λ w. w ≡ Some o.written.references)
        → WroteTree m.values.types g' o.reference.node.0 o.written → Waits s.shelf task (to_finish o ∷ below)
        → length o.keys ≡ length o.written.references → key ≡ digest m.values (blob_of o.written.bytes o.keys) → g'.stored key
        ≡ Some (blob_of o.written.bytes o.keys)
        → Walks m.values g' s'.shelf task (to_set o.reference o.through key o.height ∷ below)
    unfolding Waits
    finishes o below key claim wrote (known, attained, place, reach, expects, waits) all is there =
        let a = more (identity_of o.reference) claim.slot claim.claimed in
        let so = a.2.references o.written.references claim.written_so in
        let first = so-far-on (keys-grow more) o.height o.written.references o.keys known in
        let known' = all-known s'.shelf o.height o.written.references o.keys all first in
        let right = key-stands o.keys (stands-for m.values g' s'.shelf kept) wrote known' there is in
        let small : o.height ≤ longest_path = omega arith in
        let most : IsAttained s'.shelf o.height o.written.references = attained-on (keys-grow more) o.height o.written.references attained in
        let stands : BlobStands m.values g' s'.shelf o.reference.node.0 o.written key o.height =
        search (wrote, known', there, right, small, all-low s'.shelf o.height o.written.references o.keys all first, most) in
        (record { slot = a.0; written = o.written; claimed = a.1; wrote = so; stands = stands }, reach, still o.reference below (expects, waits))

  writes : (r : ArcRef) (place : ℕ) (through : HandleNumber) (below : List Todo) (written : Written)
      (claim : HasClaim s.shelf n (identity_of r) (λ w. w ≡ None))
      → WroteTree m.values.types g r.node.0 written → PutsSlot s.shelf.slots s'.shelf.slots (identity_of r)
      (record claim.slot { references = Some written.references })
      → Placed s.shelf task r place below → s'.todo ≡ open_node r place through written below → Fits
  unfolding Waits
  writes r place through below written claim w puts (at, few, above) e =
      let fit = fits (identity_of r) claim.slot claim.claimed in
      let on : SlotFits m.values g' s'.shelf (identity_of r) claim.slot = slot-on m.values goes (keys-grow more) fit in
      let now = wrote-on m.values goes fit.given w in let none = claim.no_result_yet in
      let over : (rs : List ArcRef) → Some written.references ≡ Some rs → WroteOver m.values.types g' r.node.0 rs =
      λ rs is. (written.bytes, subst (λ x. WroteTree m.values.types g' r.node.0 (record { bytes = written.bytes; references = x })) (some-same refl is) now) in
      let fits_new : SlotFits m.values g' s'.shelf (identity_of r) (record claim.slot { references = Some written.references }) =
      record { given = on.given; typed = on.typed; writes = over; publishes = λ key height known. absurd (cc) } in
      let a = still r below above in
      did (slots-but goes more fits puts fits_new) e
      (started-node m.values g' s'.shelf task (record { reference = r; place = place; through = through; written = written; keys = []; height = 0 }) below _
      refl
      (tt, inl refl, at, omega arith, a.0, a.1))

  listed : {next : List Todo} → s'.todo ≡ next → AllWrote m.values.types g' next → AllWrote m.values.types g' s'.todo
  listed e all = subst (λ t. AllWrote m.values.types g' t) (sym e) all

  stored-so : (key : ℕ) (b : Blob) → Stores s.core key b s'.core → s'.core.stored key ≡ Some b
  stored-so key b h = let e : (key == key) ≡ true = grind basics in h.adds.each key ∙ ap (λ t. if t then Some b else s.core.stored key) e

  module _ (step : Action W) (wrote : (i : Identity) (out : W) → step ≡ Action.Write i (Ok out) → IsReadableType m.values.types (g.trees i.node.0).type
      → WroteTree m.values.types g i.node.0 (m.written_of out))
      (readable : (r : ArcRef) (place : ℕ) (through : HandleNumber) (below : List Todo) → s.todo ≡ to_write r place through ∷ below
      → IsReadableType m.values.types (type_of r.kind.0))
      (ends : answer_after s.todo step ≡ None → (key : ℕ) (b : Blob) → s'.core.stored key ≡ Some b → g'.stored key ≡ Some b) where
    stepped : (todo : List Todo) → s.todo ≡ todo → AllWrote m.values.types g todo → (action : Action W) → step ≡ action → WorkDoes m n s todo action s'
        → AllStand s.shelf n task todo → Walks m.values g s.shelf task todo → Fits
    stepped (to_start r place ∷ below) e written (Action.Claim i (Ok Claim.Claimed)) st (is, c) all (at, above) =
        let t = c.finds.1.2 in
        let ok = claimable r c.finds.0 in
        let new : Slot = record { worker = n; references = None; outcome = no_result } in let more_last = goes.last in
        let fits_new : SlotFits m.values g' s'.shelf (identity_of r) new = grind basics in
        did (slots-but goes more fits (puts-slot (with_wait s.shelf n None) s'.shelf (identity_of r) new t.table_is) fits_new) t.list_is
        (at, c.finds.1.0, still r below above)
    stepped (to_start r place ∷ below) e written (Action.Claim i (Ok (Claim.Known key height))) st (is, c) all (at, above) =
        let t = c.finds.1.2 in let a = still r below above in
        did (kept (λ j. t.table_is.slots j)) t.list_is
        (given-known m.values g' s'.shelf task r key height (keys-grow more _ _ _ c.finds.1.1) below (subst (λ q. q + height ≤ longest_path) at c.finds.1.0) a.0
        a.1)
    stepped (to_write r place through ∷ below) e written (Action.Write i (Ok out)) st (is, p) (stands, apart, all) above =
        let t = p.writes in
        let claim = stands.1 in
        let can = subst (IsReadableType m.values.types) (sym (fits (identity_of r) claim.slot claim.claimed).typed) (readable r place through below e) in
        let w = subst (λ (j : Identity). IsReadableType m.values.types (g.trees j.node.0).type → WroteTree m.values.types g j.node.0 (m.written_of out)) is
        (wrote i out st) can in
        writes r place through below (m.written_of out) claim w
        (changes-slot s.shelf s'.shelf (identity_of r) claim.slot (λ slot. record slot { references = Some (m.written_of out).references }) claim.claimed
        t.table_is) above t.list_is
    stepped (to_set r through key height ∷ below) e written (Action.SetKey i (Ok u)) st (is, p) all (blob, reach, above) =
        let t = p.goes in did (kept t.table_stays.slots) t.list_is (has-blob-on goes more fits blob, reach, still r below above)
    stepped (to_publish r key height ∷ below) e written (Action.Publish i k h) st (is, same_key, same_height, t) (stands, apart, all) (blob, reach, above) =
        let claim = stands.1 in
        let no_result_yet : blob.slot.outcome ≡ no_result = ap (λ (z : Slot). z.outcome) (some-same blob.claimed claim.claimed) ∙ claim.no_result_yet in
        let puts = rw no_result_yet at (changes-slot s.shelf s'.shelf (identity_of r) blob.slot (with_outcome (published key height)) blob.claimed t.table_is)
        in
        let fit = fits (identity_of r) blob.slot blob.claimed in
        let on : SlotFits m.values g' s'.shelf (identity_of r) blob.slot = slot-on m.values goes (keys-grow more) fit in
        let stands = blob-on m.values goes (keys-grow more) fit.given blob.stands in
        let publishes : (k h : ℕ) → published key height ≡ published k h → (w : Written) × (blob.slot.references ≡ Some w.references)
        × BlobStands m.values g' s'.shelf r.node.0 w k h =
        λ k h known. let same : key ≡ k = cc in let equal : height ≡ h = cc in (blob.written, blob.wrote, rw (← same, ← equal) stands) in
        let fits_new : SlotFits m.values g' s'.shelf (identity_of r) (record blob.slot { outcome = published key height }) =
        search (on.given, on.typed, on.writes, publishes) in
        did (slots-but goes more fits puts fits_new) t.list_is (
          record {
            slot = record blob.slot { outcome = published key height };
            claimed = puts.at;
            known = refl;
          },
          reach,
          still r below above,
        )
    stepped (to_release r key height ∷ below) e written (Action.Release i) st (is, falls, t) all (p, reach, above) =
        let a = still r below above in did (kept t.table_stays.slots) t.list_is
        (given m.values g' s'.shelf task r key height (keys-grow more _ _ _ p) below reach a.0 a.1)
    stepped (to_fail fault back ∷ below) e written Action.Fail st (gives, same, list_is) all walks = did (slots-failed goes more fits n same.slots) list_is tt
    stepped (to_finish o ∷ below) e ((given, w), rest) (Action.Store i (Ok key)) st (is, p) (stands, apart, all) walks =
        let t = p.goes in let b = p.stored.stores in
        let none : answer_after s.todo step ≡ None = subst (λ t. answer_after t step ≡ None) (sym e)
        (subst (λ k. answer_after (to_finish o ∷ below) k ≡ None) (sym st) refl) in
        did (kept t.table_stays.slots) t.list_is (finishes t.table_stays.slots o below key stands.1 (wrote-on m.values goes given w) walks p.all b.0
        (ends none key _ (stored-so key _ b.1)))
    stepped _ e written step st does all walks = grind (
      basics,
      fails,
      did,
      kept,
      still,
      stored-so,
      given-known,
      given,
      keys-grow,
      has-blob-on,
      slots-failed,
    )

    -- and what waits is still a form of its node's tree
    wrote-stepped : (todo : List Todo) → (action : Action W) → step ≡ action → WorkDoes m n s todo action s' → AllStand s.shelf n task todo → s.todo ≡ todo
        → AllWrote m.values.types g todo → AllWrote m.values.types g' s'.todo
    wrote-stepped (to_write r place through ∷ below) (Action.Write i (Ok out)) st (is, p) (stands, apart, all) e written =
        let claim = stands.1 in let given = (fits (identity_of r) claim.slot claim.claimed).given in let few = goes.last in
        let can = subst (IsReadableType m.values.types) (sym (fits (identity_of r) claim.slot claim.claimed).typed) (readable r place through below e) in
        let w = subst (λ (j : Identity). IsReadableType m.values.types (g.trees j.node.0).type → WroteTree m.values.types g j.node.0 (m.written_of out)) is
        (wrote i out st) can in
        listed p.writes.list_is (wrote-start m.values.types g' place _ (to_finish
        (record { reference = r; place = place; through = through; written = m.written_of out; keys = []; height = 0 }) ∷ below)
        ((omega arith, wrote-on m.values goes given w), all-wrote-on m.values goes below written.1))
    wrote-stepped todo action st does all e written = grind (basics, listed, all-wrote-on m.values goes)

-- Page-outs by trees: what tables and workers hold fits at first and after each event.

module _ {N B W E : Type 0} (m : Seen N B W) (s s' : MachineState N E) (trees trees' : ℕ → Tree) (goes : GroundGoes (ground_of s trees) (ground_of s' trees'))
    (fit : WorkFits m.values s trees)
    (whole : IsMachineWhole m.values s) (represents : PagerStandsFor m.values s.pager trees) (settled : HoldsSettled m.values s.pager)
    (lawful : IsLawful m.values) where
  abbrev g' : Ground
  g' = ground_of s' trees'

  starts-well : (shelf : Shelf) (task : Task) → Walks m.values g' shelf task (first_todo task)
  unfolding Waits
  starts-well shelf (of_item written) = started-item m.values g' shelf (of_item written) written [] [] _ refl (refl, tt)
  starts-well shelf (of_entry h i) = (refl, (refl, tt))

  -- what the event asks of the worker that makes its step
  walker-asked : (v : ℕ) (event : Event N B W) (reply : EventReply N B W) (r : WorkerReply W) → step_of v event reply ≡ r.action ∷ []
      → IsWellAsked m.values s trees event reply
      → (walking : Walking) → s.work.walkings v ≡ Some walking → TodoAsksWell m.values s.pager walking.todo
  walker-asked v (Event.WorkerStep n) (EventReply.WorkerMoved (Ok reply)) r one asked walking there = elim (cases_Bool (n.0 == v)) [
    | inl e ↦ asked walking (ap s.work.walkings (same-number n.0 v e) ∙ there)
    | inr e ↦ absurd (grind basics)
  ]
  walker-asked v x0 x1 r one asked walking there = absurd (grind basics)

  wrote-first : (task : Task) → AllWrote m.values.types g' (first_todo task)
  wrote-first (of_item written) = wrote-start m.values.types g' 0 _ (to_item written [] ∷ []) (tt, tt)
  wrote-first (of_entry h i) = (tt, tt)

  pub fits-on : StandsIn (world_of s) → (event : Event N B W) (reply : EventReply N B W) → EventTurns m (world_of s) event reply (world_of s')
      → ReplyWrites m s.pager reply
      → IsWellAsked m.values s trees event reply → WorkFits m.values s' trees'
  fits-on work event reply turns writes asked =
      let stay : GroundGoes g' g' = record { kept = λ key b e. e; last = omega arith; trees = λ n le. refl } in
      let h = turns-keep m turns (SlotsFit m.values g') (λ n shelf w. Walks m.values g' shelf w.task w.todo × AllWrote m.values.types g' w.todo)
      (λ a b same fits. slots-on stay (same-grow a b same) fits same)
      (λ a b more fits n w (walks, wrote). (walks-on b stay more fits w.task w.todo walks, wrote)) (λ t shelf more same. slots-on goes more (fit.slots t) same)
      (λ n w none there. (
        walks-on (s'.work.shelves w.table) goes (turns-grow m turns w.table) (fit.slots w.table) w.task w.todo (fit.walks n w there),
        all-wrote-on m.values goes w.todo (fit.wrote n w there),
      ))
      (λ n shelf t task. (starts-well shelf task, wrote-first task)) (λ k r w at one more.
      let ends : answer_after w.walking.todo r.action ≡ None → (key : ℕ) (b : Blob) → w.after.core.stored key ≡ Some b → s'.pager.core.stored key ≡ Some b =
      λ none key b is. (let e = subst (λ a. Ends a k.0 w.after.core s'.pager.core) (w.answers ∙ none) w.ends in e.stored key ∙ is) in
      let claimable : (r : ArcRef) → claim_fault s.pager.core r ≡ None → (r.node.0 ≤ s.pager.core.last.node) × ((trees r.node.0).type ≡ type_of r.kind.0) =
      λ r may. grind basics in
      let writes_so : (i : Identity) (out : W) → r.action ≡ Action.Write i (Ok out) → IsReadableType m.values.types (trees i.node.0).type
      → WroteTree m.values.types (ground_of s trees) i.node.0 (m.written_of out) =
      λ i out is can. wrote represents whole.pager settled lawful i.node.0 (m.written_of out) can
      (subst (λ (t : Action W). TookWrites m.values m.written_of s.pager t) is (grind basics)) in
      let readable : (q : ArcRef) (place : ℕ) (through : HandleNumber) (below : List Todo) → w.walking.todo ≡ to_write q place through ∷ below
      → IsReadableType m.values.types (type_of q.kind.0) =
      λ q place through below front. subst (TodoAsksWell m.values s.pager) front
      (walker-asked turns.who event reply r one asked w.walking (sym (ap s.work.walkings at) ∙ w.at)) in
      let site = site_of (world_of s) w.walking in let all = (work.workers k.0 w.walking w.at).all in let wrote_so = fit.wrote k.0 w.walking w.at in
      let now = stepped m k.0 w.walking.task site w.after goes more (fit.slots w.walking.table) claimable r.action writes_so readable ends w.walking.todo refl
      wrote_so r.action refl w.does.does all (fit.walks k.0 w.walking w.at) in (
        now.0,
        (
          now.1,
          wrote-stepped m k.0 w.walking.task site w.after goes more (fit.slots w.walking.table) claimable r.action writes_so readable ends
              w.walking.todo r.action refl w.does.does all refl wrote_so,
        ),
      )) turns.own in
      record { slots = h.slots; walks = λ n w there. (h.walks n w there).0; wrote = λ n w there. (h.walks n w there).1 }
