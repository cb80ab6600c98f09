use Rattle.pagable_tables.proofs.{
  CallsKeepWhole.known-suits,
  CascadeEnd.{drops-still, owned, stays-first},
  CascadeStep.{begun-whole, closed-is},
  OwnedByLoad.{begun-made, falls-made, later-on, listing, loaded-append, not-named},
  SameViews.{adopts-known, eager, failed, fitting, not-adopted, owner-of, refused-known},
  Views.{lone-falling, named-mine},
  Wholeness.whole-so,
  Words.{Alike, Owner, ap, arith, core_alone, core_of, counts_at, has_value, is_some, length, mode_of, not, refl, sym, with_handle, [], ◌+◌, ◌∙◌},
}
use Rattle.pagable_tables.specs.Core.{no_blobs, no_blobs_of}
use Rattle.pagable_tables.proofs.load.adopt_if_cached.Goals as goal

pub returns-in-Some-clause-refused : goal.returns-in-Some-clause-refused
returns-in-Some-clause-refused g c storage =
    not-adopted _ _ _ c.args.kind c.args.key c.args.node_type c.args.references.now _
    (sym (c.adopt_fault.ensures storage) ∙ c.in-Some.is)

pub make_handle-requires-clause-suits : goal.make_handle-requires-clause-suits
make_handle-requires-clause-suits g c = rw c.mode_of.ensures
    (known-suits c.requires.whole.core _ _ _ (sym (c.in-Some-usable_of.ensures no_blobs)))

pub make_handle-requires-clause-holder : goal.make_handle-requires-clause-holder
make_handle-requires-clause-holder g c =
    ap is_some (owner-of (core_alone c.args.t.now) c.args.me c.args.load c.args.kind c.args.key c.args.node_type c.args.references.now
    (sym (c.adopt_fault.ensures no_blobs) ∙ c.in_default.is)).1.stands_open

pub returns : goal.returns
returns g c =
    let t = c.args.t.now in
    let me = c.args.me in
    let l = c.args.load in
    let kind = c.args.kind in
    let rs = c.args.references.now in
    let node = c.in-Some-usable_of.node in
    let owner = Owner.Load l in
    let t1 = c.make_handle.new.t in
    let made = c.in_ok-handle.ensures.does in
    let p = core_alone t in
    let free = sym (c.adopt_fault.ensures no_blobs) ∙ c.in_default.is in
    let fit = fitting p me l kind c.args.key c.args.node_type rs free in
    let valued = c.requires.valued node.0 (sym (c.in-Some-usable_of.ensures no_blobs)) (eager p me l kind c.args.key c.args.node_type rs free) in
    let fell = c.release_named.ensures.falls (listing c.args.lists t1) (listing c.args.lists t1)
    (begun-whole t1 (no_blobs_of c.args.lists) _ made.whole (closed-is {lists = not c.args.lists} refl)) (omega arith)
    (λ q named. ap (owned owner q) (made.does (no_blobs_of c.args.lists)).made.1.rows ∙ loaded-append l q p.rows _ (named-mine p owner [] rs fit q named)) in
    let went = lone-falling {w = listing c.args.lists t1} made.whole.core fell.falls in
    record {
      known = λ storage e.
          (let w = core_of t storage in
          let u = with_handle w node (mode_of kind.0) owner in
          let good = sym (c.adopt_fault.ensures storage) ∙ c.in_default.is in
          let m = (made.does storage).made in
          let a : Alike u (core_of t1 storage) = rw c.mode_of.ensures at m.1 in
          let some = c.release_named.ensures.falls u u (begun-made t t1 storage node (mode_of kind.0) owner made.whole a _ e)
          (omega (arith, ap length a.rows))
          (λ q named. loaded-append l q w.rows _ (named-mine w owner [] rs (fitting w me l kind c.args.key c.args.node_type rs good) q named)) in
          let kept = not-named p l rs c.requires.whole.core.handles fit (t.ref_counts.last_handle + 1) (omega arith) in
          let falls = falls-made t t1 storage node (mode_of kind.0) owner made.whole a c.in_ok-handle.ensures.same refl c.release_named.new.t some.falls
          kept in
          adopts-known w me l kind c.args.key c.args.node_type rs good node c.in_ok-handle.handle (sym (c.in-Some-usable_of.ensures storage)) m.0
          (record { told = some.told; falls = falls }));
      fresh = λ storage. tt;
      given = (node.0, sym (c.in-Some-usable_of.ensures no_blobs));
      unknown = tt;
      same = tt;
      kept = tt;
      refused = λ storage. tt;
      whole = whole-so c.release_named.ensures.steady went.whole;
      later = later-on (made.later c.requires.later) went.newer refl refl refl;
      drops = stays-first (λ n. c.in_ok-handle.ensures.values n (λ eq pins. ap (λ k. has_value (counts_at t.ref_counts.nodes k)) eq ∙ valued))
          c.release_named.ensures.drops;
    }

pub returns-in_err-handle-clause-refused : goal.returns-in_err-handle-clause-refused
returns-in_err-handle-clause-refused g c storage =
    rw (failed _ c.from_residual.ensures.1) (refused-known _ _ _ _ _
    _ _ (sym (c.adopt_fault.ensures storage) ∙ c.in_default.is)
    _ (sym (c.in-Some-usable_of.ensures storage)) (c.in_err-handle.ensures.does.does storage).refused)

pub returns-in_err-handle-clause-drops : goal.returns-in_err-handle-clause-drops
returns-in_err-handle-clause-drops g c =
    let valued = c.requires.valued c.in-Some-usable_of.node.0 (sym (c.in-Some-usable_of.ensures no_blobs))
    (eager (core_alone c.args.t.now) c.args.me c.args.load _ c.args.key c.args.node_type c.args.references.now
    (sym (c.adopt_fault.ensures no_blobs) ∙ c.in_default.is)) in
    stays-first (λ n. c.in_err-handle.ensures.values n (λ eq pins. ap (λ k. has_value (counts_at c.args.t.now.ref_counts.nodes k)) eq ∙ valued))
    (drops-still _ _ c.in_err-handle.ensures.does.whole.steady)

pub returns-in_default-usable_of-clause-unknown : goal.returns-in_default-usable_of-clause-unknown
returns-in_default-usable_of-clause-unknown g c = sym (c.in_default-usable_of.ensures no_blobs)
