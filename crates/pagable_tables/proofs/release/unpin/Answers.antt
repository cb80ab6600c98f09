use Rattle.pagable_tables.proofs.{
  CascadeEnd.{entered-on, stays-first},
  CascadeStep.{aside, begun-whole, listing-is, none-within, unowned},
  Counting.{all-kept, gives-sums, of_list, ones},
  OwnedByLoad.{does-as, drops-with, lazily-so, nothing-release_at},
  SameViews.{failed, owner-same, still},
  Views.{falling, moded},
  Words.{Begins, Bool, Falls, HandleRow, IsSoundInCascade, Mode, None, Owner, RefCounts, ReleasedSoFar, ReleasesWithoutCascade, Tables, ap, append-nil, arith},
  Words.{basics, core_of, false, if◌then◌else◌, inl, inr, is_handle, is_loose, is_owner, is_pin, is_plain_pin, is_share, is_shared, is_value_owner, length},
  Words.{length-map, live, nobody, not, one, owns, owns_nothing, refl, rows_of, sym, times, true, unpinned, with_mode, [], ◌∙◌, ◌≡◌, ◌≢◌, ◌≤◌},
}
use Rattle.pagable_tables.specs.Core.{IsWhole, StorageView}
use Rattle.pagable_tables.proofs.release.unpin.Goals as goal

-- what has gone and come so far where a handle lets its pin go and stays
lowered-on : (T : Tables) (storage : StorageView) (lists : Bool) → IsWhole T → lists ≡ not storage.closed → (x : HandleRow) (new : RefCounts)
    → ReleasesWithoutCascade (record T.ref_counts { listing_error = None }) [] x true lists new
    → ReleasedSoFar (core_of T storage) (with_mode (core_of T storage) x.number Mode.LooseUnpinned) nobody lists new
lowered-on T storage lists whole opened x new g =
    let old = core_of T storage in
    let now = with_mode old x.number Mode.LooseUnpinned in
    let f : ReleasedSoFar old old nobody lists (record T.ref_counts { listing_error = None }) = begun-whole T storage _ whole opened in
    let less : (p : HandleRow → Bool) → one (p (unpinned x)) ≤ one (p x) → times p now.rows ≤ times p old.rows =
    λ p le. omega (arith, g.leaves.sums (λ h. one (p h)), ap (times p) g.leaves.becomes.rows) in
    let begins : Begins old now lists =
    record {
      open_storage = opened;
      fewer = λ n. less (is_pin n) (grind basics);
      shared = λ n. less (is_share n) (grind basics);
      uniform = λ n. grind (basics, f.begins.uniform n, less (is_plain_pin n) (grind basics));
      listed = λ q. omega (arith, g.leaves.sums (λ h. one (of_list q h)), ap (times (of_list q)) g.leaves.becomes.rows, f.begins.listed q);
    } in
    let few : new.top ≢ 0 → length (rows_of new) ≤ length old.rows = λ falls.
    grind (
      basics,
      gives-sums g (λ h. 1),
      ones (rows_of new),
      ones old.rows,
      g.keyed refl whole.steady.fits.chain falls,
      g.comes.only,
      listing-is g.counts x.mode,
    ) in
    let long = length-map old.rows (λ y. if is_handle x.number.0 y then unpinned y else y) in
    entered-on f g (λ n. refl) (λ n. whole.steady.fits.pinned n) (omega arith) _ long nobody nobody begins
    (g.leaves.becomes.rows ∙ sym (append-nil _ ∙ all-kept _)) refl
    (none-within nobody now.rows) (λ s final bare has closed. none-within s now.rows) (λ falls. omega (arith, few falls))

mine : (t : RefCounts) (me : Owner) (x : HandleRow) → IsSoundInCascade t [] owns_nothing → is_value_owner me ≡ false → is_owner me x.owner ≡ true
    → IsSoundInCascade (record t { listing_error = None }) [] (owns x)
mine t me x w plain own =
    unowned _ x [] (ap is_value_owner (owner-same me x.owner own) ∙ plain) (aside t None [] _ w)

pub returns-in_err-at : goal.returns-in_err-at
returns-in_err-at g c =
    rw (failed _ c.from_residual.ensures.1) (nothing-release_at c.requires.whole
    (λ storage e. record {
      does = inl (record { e = c.in_err-at.field-0.0; why = c.in_err-at.ensures.fault storage is_loose; told = refl; stays = still _ });
    }))

pub release_without_cascade-requires-clause-falling : goal.release_without_cascade-requires-clause-falling
release_without_cascade-requires-clause-falling g c = (
  [],
  mine c.args.t.now.ref_counts c.args.me c.in_ok-at.at.row c.requires.whole.steady c.requires.not_a_value
      c.in_ok-at.ensures.owner,
)

pub finish_cascade-requires : goal.finish_cascade-requires
finish_cascade-requires g c =
    let e = c.release_without_cascade.ensures [] (mine c.args.t.now.ref_counts c.args.me c.in_ok-at.at.row c.requires.whole.steady c.requires.not_a_value
    c.in_ok-at.ensures.owner) in
    record { falling = (e.more, e.falling, omega arith) }

pub returns-in-LoosePinned : goal.returns-in-LoosePinned
returns-in-LoosePinned g c =
    let t = c.args.t.now in
    let row = c.in_ok-at.at.row in
    let up = c.release_without_cascade.ensures [] (mine t.ref_counts c.args.me row c.requires.whole.steady c.requires.not_a_value c.in_ok-at.ensures.owner) in
    let turns = moded c.requires.whole.core _ row _ c.in_ok-at.ensures.found (ap is_shared (sym c.in-LoosePinned.is))
    (λ loose. refl) (λ is. refl) in
    let own = owner-same _ _ c.in_ok-at.ensures.owner in
    drops-with (does-as (lazily-so {lists = c.args.lists} {step = λ w w'. Falls w (with_mode w c.args.handle Mode.LooseUnpinned) nobody c.finish_cascade.result
    w'}
    (λ storage e.
    rw c.in_ok-at.ensures.number at (c.finish_cascade.ensures.falls _ _ nobody
    (lowered-on t storage c.args.lists c.requires.whole e row c.release_without_cascade.new.t up)))
    c.finish_cascade.ensures.steady (λ fell. falling fell turns) refl refl refl)
    (λ storage fell e. record {
      does = inr (
        row,
        record { live = c.in_ok-at.ensures.found; own = own; as_asked = ap is_loose c.in-LoosePinned.is },
        inr (c.in-LoosePinned.is, fell e),
      );
    })) (stays-first up.values c.finish_cascade.ensures.drops)
