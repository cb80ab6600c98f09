use Rattle.pagable_tables.proofs.{
  CascadeStep.{counts-there, given-fits, held-here, owned-by-none, pin-here, some-held},
  Counting.with-entry,
  Words.{AddsWantedEntry, AreSound, Bool, CantList, Counts, Error, HandleRow, Handles, IsNext, IsSoundInCascade, List, NodeNumber, NodeRow, NumberTable},
  Words.{RefCounts, ReleasesWithoutCascade, RemovesOrUnpins, Some, ap, append-nil, arith, basics, cases_eq, counts_after_release, counts_at, entry, false},
  Words.{if◌then◌else◌, is_at, is_last_pin_without_key, is_pin, is_pinning, is_value_owner, live, one, owns, pins_in, refl, refs_at, rows_of, sum_by, sym},
  Words.{true, unpinned, ℕ, ◌&&◌, ◌+◌, ◌∙◌, ◌∷◌, ◌≡◌, ◌≢◌, ◌≤◌},
}
use Rattle.pagable_tables.specs.{
  CascadeInvariant.{is_work, is_worker},
  CascadeSteps.falls_by_release,
  Nodes.most_worker_handles_at,
}
use Rattle.pagable_tables.proofs.cascade.release_without_cascade.Goals as goal

-- no entry is wanted, and none comes
unwanted : (t : RefCounts) (node : NodeNumber) (wanted : Bool) → AreSound t.handles → IsNext (t.last_handle + 1) t.handles.places.items → wanted ≡ false
    → AddsWantedEntry t node wanted false t
unwanted t node wanted sound next none = record {
  comes = record {
    sound = sound;
    next = next;
    rows = sym (append-nil _);
    list = sym (append-nil _);
    last = omega arith;
    left = λ e. absurd (cc);
    places = record { handles = omega arith; entries = omega arith };
    nodes = refl;
    top = refl;
  };
  only = λ e. absurd (cc);
  told = λ e. refl;
  why = λ e wants. absurd (cc);
}

-- an entry comes in the same way whatever nodes are beside it
cant-list : (t : RefCounts) (nodes : NumberTable NodeRow) (e : Error) → CantList (record t { nodes = nodes }) e → CantList t e
cant-list t nodes e cant = grind basics

beside-nodes : (t new : RefCounts) (nodes : NumberTable NodeRow) (node : NodeNumber) (wanted listed : Bool)
    → AddsWantedEntry (record t { nodes = nodes }) node wanted listed new → AddsWantedEntry t node wanted listed (record new { nodes = t.nodes })
beside-nodes t new nodes node wanted listed a =
    let e = a.comes in
    record {
      comes = record {
        sound = e.sound;
        next = e.next;
        rows = e.rows;
        list = e.list;
        last = e.last;
        left = e.left;
        places = record { handles = e.places.handles; entries = e.places.entries };
        nodes = refl;
        top = e.top;
      };
      only = a.only;
      told = a.told;
      why = λ l wants. let (e, cant, first) = a.why l wants in (e, cant-list t nodes e cant, first);
    }

module _ (old : RefCounts) (stack : List ℕ) (x : HandleRow) (stays lists : Bool) (w : IsSoundInCascade old stack (owns x))
    (plain : stays ≡ true → is_value_owner x.owner ≡ false) (left : Handles) (leaves : RemovesOrUnpins old.handles x stays left) where
  -- the row is counted before it goes
  pub there : (y : Counts) × (counts_at old.nodes x.node.0 ≡ Some y)
  there = counts-there _ (some-held _ (omega (arith, w.fits.holding x.node.0, leaves.there (λ h. one (is_at x.node.0 h)), held-here x)))

  abbrev pub counts : Counts
  counts = there.0

  pub is : counts_at old.nodes x.node.0 ≡ Some counts
  is = there.1

  some-pins : one (is_pinning x.mode) ≤ counts.pins
  some-pins = omega (arith, w.fits.pinned x.node.0, ap pins_in is, leaves.there (λ h. one (is_pin x.node.0 h)), pin-here x)

  some-holds : 1 ≤ counts.holds
  some-holds = grind (basics, w.fits.holding x.node.0, leaves.there (λ h. one (is_at x.node.0 h)), held-here x)

  module _ (listed : Bool) (mid : RefCounts)
      (comes : AddsWantedEntry (record old { handles = left }) x.node (lists && is_last_pin_without_key counts x.mode) listed mid) (nodes : NumberTable NodeRow)
      (falls : Bool) (here : counts_at nodes x.node.0 ≡ Some (counts_after_release counts (is_pinning x.mode) stays listed old.top))
      (says : falls ≡ falls_by_release counts (is_pinning x.mode) stays listed) (others : (q : ℕ) → q ≢ x.node.0 → counts_at nodes q ≡ counts_at old.nodes q)
      (refs : (q : ℕ) → refs_at nodes q ≡ refs_at old.nodes q)
      (bound : most_worker_handles_at old.nodes x.node.0 ≤ most_worker_handles_at nodes x.node.0 + (if stays then 0 else one (is_worker x.owner)))
      (bounds : (q : ℕ) → q ≢ x.node.0 → most_worker_handles_at nodes q ≡ most_worker_handles_at old.nodes q) (top : ℕ)
      (first : top ≡ (if falls then x.node.0 else old.top)) where
    pub releases : ReleasesWithoutCascade old stack x stays lists (record mid { nodes = nodes; top = top })
    releases =
        let n = x.node.0 in
        let e = comes.comes in
        let rows' = rows_of mid in
        let sums : (f : HandleRow → ℕ) → sum_by f rows' + f x ≡ sum_by f (rows_of old) + (if stays then f (unpinned x) else 0) +
        (if listed then f (entry (old.last_handle + 1) x.node) else 0) =
        λ f. omega (arith, leaves.sums f, ap (sum_by f) e.rows, with-entry f (live left.places.items) listed (old.last_handle + 1) x.node)
        in
        record {
          left = left;
          leaves = leaves;
          counts = counts;
          is = is;
          listed = listed;
          between = mid;
          comes = comes;
          same = refl;
          cells = λ m there. grind (basics, cases_eq m n, is, here, others m);
          values = λ m. grind (basics, cases_eq m n, is, here, others m, some-pins);
          more = if falls then n ∷ stack else stack;
          falling = record {
            sound = e.sound;
            next = e.next;
            fits = rw first
                (given-fits rows' x counts stays listed _ w.fits is (λ so m q. owned-by-none m q x (plain so)) sums here others refs some-pins
                some-holds falls (sym says));
            worked = λ m.
                let sum = sums (λ h. one (is_work m h)) in
                grind (basics, cases_eq m n, w.worked m, sum, bound, bounds m);
          };
          long = grind basics;
          keyed = λ so none some. grind (basics, first, says, some-holds);
        }

pub returns-in-Some : goal.returns-in-Some
returns-in-Some c stack w =
    let x = c.args.at.row in
    let old = c.args.t.now in
    let gone = c.remove_or_unpin.new.handles in
    let leaves = c.remove_or_unpin.ensures in
    let plain = c.requires.not_a_value in
    let at-node = is old stack x c.args.stays c.args.lists w plain gone leaves in
    let e = c.count_unlisted_release.ensures in
    let some = c.in-Some.is in
    let wanted = rw some at (e.wanted _ at-node) in
    releases old stack x c.args.stays c.args.lists w plain gone leaves false (record old { handles = gone })
    (unwanted (record old { handles = gone }) x.node _ leaves.becomes.sound (leaves.becomes.next (old.last_handle + 1) w.next) wanted)
    c.count_unlisted_release.new.nodes c.in-Some.falls (rw some at (e.here _ at-node)) (c.in-Some.ensures.falls _ at-node) e.others e.refs
    c.in-Some.ensures.bound e.bounds _ (grind (basics, c.first_dying_after-t.ensures))

pub returns : goal.returns
returns c stack w =
    let x = c.args.at.row in
    let old = c.args.t.now in
    let gone = c.remove_or_unpin.new.handles in
    let leaves = c.remove_or_unpin.ensures in
    let plain = c.requires.not_a_value in
    let at-node = is old stack x c.args.stays c.args.lists w plain gone leaves in
    let e = c.count_unlisted_release.ensures in
    let none = c.in_default.is in
    let kept = rw none at (e.here _ at-node) in
    let comes = c.try_push_pending-listed.ensures in
    let nodes = comes.comes.nodes in
    let k = c.count_release-falls.ensures in
    let on = ap (λ s. counts_at s x.node.0) nodes ∙ kept in
    releases old stack x c.args.stays c.args.lists w plain gone leaves c.try_push_pending-listed.result
    (record c.try_push_pending-listed.new.t { nodes = old.nodes })
    (rw (e.wanted _ at-node) (rw none (beside-nodes (record old { handles = gone }) _ _ x.node true _ comes)))
    c.count_release-falls.new.nodes c.count_release-falls.result (rw comes.comes.top at (k.here _ on)) (k.falls _ on)
    (λ q ne. k.others q ne ∙ ap (λ s. counts_at s q) nodes ∙ e.others q ne) (λ q. k.refs q ∙ ap (λ s. refs_at s q) nodes ∙ e.refs q)
    (grind (basics, k.bound, nodes, c.in_default.ensures.same_bound)) (λ q ne. k.bounds q ne ∙ ap (λ s. most_worker_handles_at s q) nodes ∙ e.bounds q ne)
    _ (grind (basics, c.first_dying_after-t-2.ensures, comes.comes.top))
