use Rattle.pagable_tables.proofs.{
  CallsKeepWhole.{MayHand, hand-over-whole, handed-mine, handed-own, handed-whole, may-hand, may-hold},
  CascadeEnd.stays-first,
  CascadeStep.{begun, fits-same, unmixed},
  Counting.and-left,
  OwnedByLoad.{closed-still, drops-with, later-handed, lazily-by, loads-anew, moved-stands, moved-times, no-load, updated-by},
  Views.{newer-falls, not-a-value, owned-moved},
  Words.{Core, Falls, IsSoundInCascade, None, Owner, ap, arith, basics, core_alone, core_of, inl, is_in, is_owned_in, is_value_owner, length, load_at, load_in},
  Words.{moved, not, numbers_of, option_map, owns_nothing, refl, rows_of, subst, sym, with_tables, without_load, ℕ, [], ◌&&◌, ◌∙◌, ◌≡◌},
}
use Rattle.pagable_tables.specs.Core.{no_blobs}
use Rattle.pagable_tables.proofs.load_end.take_until.Goals as goal

pub unwrap-row-requires : goal.unwrap-row-requires
unwrap-row-requires g c =
    let can : MayHand (core_alone c.args.t.now) c.args.me c.args.load c.args.named.now = may-hand c.requires.whole.core _ _ _
    (c.requires.no_fault no_blobs) in
    grind (basics, c.load_of.ensures, can.own)

pub release_owned-requires-clause-steady : goal.release_owned-requires-clause-steady
release_owned-requires-clause-steady g c =
    let w = core_alone c.args.t.now in
    let hs = c.args.named.now in
    let can : MayHand w c.args.me c.args.load hs = may-hand c.requires.whole.core _ _ hs (c.requires.no_fault no_blobs) in
    let t = c.args.t.now.ref_counts in
    let rows = rows_of t in
    let s = c.requires.whole.steady in
    let k = c.raise_worker_bounds.ensures in
    let nodes = c.raise_worker_bounds.new.nodes in
    let steady : IsSoundInCascade (record t { nodes = nodes }) [] owns_nothing = record {
      sound = s.sound;
      next = s.next;
      fits = fits-same s.fits k.counts k.refs;
      worked = λ n. omega (arith, k.worker_bound n, s.worked n);
    } in
    moved-stands _ _ (is_in (numbers_of hs)) _ steady
    (not-a-value w _ (may-hold w _ can.may))
    (λ x among named. ap is_value_owner (handed-own w c.requires.whole.core.handles.ordered _ hs can.named x among named)) k.worked
    c.hand_over_each.ensures

pub returns : goal.returns
returns g c =
    let t = c.args.t.now in
    let me = c.args.me in
    let l = c.args.load in
    let hs = c.args.named.now in
    let s = is_in (numbers_of hs) in
    let p = core_alone t in
    let can = may-hand c.requires.whole.core me l hs (c.requires.no_fault no_blobs) in
    let row = sym c.load_of.ensures ∙ c.unwrap-row.ensures in
    drops-with (lazily-by
    (λ storage e.
    let w = core_of t storage in
    let w' = core_of (record t { ref_counts = c.release_owned.new.t; loads = c.remove_row.new.rows }) storage in
    let u : Core = record (without_load w l) { rows = moved s me w.rows } in
    let left : (q : ℕ) → is_owned_in u (Owner.Load l) q ≡ (is_owned_in w (Owner.Load l) q && not (s q)) =
    λ q. owned-moved s me (Owner.Load l) q w.rows (no-load p me l can.may) in
    let so-far = begun w u _
    (record t.ref_counts { handles = c.hand_over_each.new.handles; nodes = c.raise_worker_bounds.new.nodes; listing_error = None }) e
    (λ p own. moved-times p s me w.rows (λ x. own x me)) (unmixed t c.requires.whole)
    (λ q. let a = (handed-whole c.requires.whole.core me l hs can).owners_there.listed q in omega arith) c.hand_over_each.ensures.rows refl refl
    c.requires.whole.core.handles.within.0
    (grind arith)
    (λ n. rw (c.raise_worker_bounds.ensures.counts n) refl) refl in
    let falls = c.release_owned.ensures.falls w u (record u { loads = λ m. option_map load_in (load_at c.remove_row.new.rows m) }) (λ m. refl) so-far
    (omega (arith, ap length c.hand_over_each.ensures.rows))
    (λ q own. let mine = and-left (is_owned_in w (Owner.Load l) q) _ (sym (left q) ∙ own) in
    let after = c.requires.later.since l.0 c.unwrap-row.result q row mine in ((omega arith, inl after), c.requires.up_to q mine)) in
    record {
      hands = (
        c.requires.no_fault storage,
        record {
          told = c.release_owned.result;
          falls = loads-anew
              (updated-by (option_map load_in) c.remove_row.ensures.gone c.remove_row.ensures.others)
              (subst (λ given. Falls w u given c.release_owned.result (with_tables u c.release_owned.new.t)) (λ i q. left q i) falls);
        },
      );
      refused = tt;
    })
    c.release_owned.ensures.steady (hand-over-whole me l hs c.requires.whole.core)
    (λ hands later. later-handed t later s me (λ m. no-load p me m can.may) _ refl l _ row
    (grind (basics, row, can.own))
    (handed-mine p _ [] hs can.named) (newer-falls hands.hands.1.falls)
    (closed-still c.remove_row.ensures.gone c.remove_row.ensures.others) refl refl))
    (stays-first (λ m. rw (c.raise_worker_bounds.ensures.counts m) (λ falls. (falls, refl))) c.release_owned.ensures.drops)
