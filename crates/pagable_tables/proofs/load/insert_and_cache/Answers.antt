use Rattle.pagable_tables.proofs.{
  CallsKeepWhole.adopted-whole,
  CascadeStep.closed-is,
  OwnedByLoad.later-on,
  SameViews.{if-open, learned, still},
  Views.{newer-alike, settles},
  Wholeness.whole-so,
  Words.{Alike, NodeNumber, Option, Owner, Some, adopted, ap, core_alone, core_of, false, has_key, inl, inr, is_shared, key_in, mode_of, next_node, not},
  Words.{option_map, refl, sym, true, with_handle, with_node, ℕ, ◌/◌, ◌∙◌, ◌≡◌},
}
use Rattle.pagable_tables.specs.Core.{StorageView, no_blobs_of}

abbrev number : Option NodeNumber → Option ℕ
number o = option_map (λ n. n.0) o

pub returns : Rattle.pagable_tables.proofs.load.insert_and_cache.Goals.returns
returns c =
    let t = c.args.t.now in
    let owner = Owner.Load c.args.load in
    let rs = c.args.references.items in
    let t1 = c.insert_node-handle.new.t in
    let born = c.insert_node-handle.ensures.does in
    let new : (storage : StorageView) → c.args.lists ≡ not storage.closed
    → Alike (adopted (core_of t storage) c.args.load c.args.kind c.args.key (key_in c.args.own_key) rs)
    (core_of (record t1 { cache = c.cache_if.new.cache }) storage) =
    λ storage e.
    (let w = core_of t storage in
    let u = with_handle (with_node w (c.args.kind.0 / 3) (key_in c.args.own_key) rs) (next_node w) (mode_of c.args.kind.0) owner in
    let w' = core_of t1 storage in
    let cache = (core_of (record t1 { cache = c.cache_if.new.cache }) storage).cache in
    let b = born.does storage in
    let a : Alike u w' = rw c.node_type.ensures at (rw c.mode_of.ensures at b.leaves) in
    let node = ap (λ l. l.node) a.last in
    if-open storage.closed u (record w' { cache = cache }) c.args.kind c.args.key (next_node w)
    (λ shut. rw (sym (c.cache_if.ensures.same (e ∙ ap not shut))) at a)
    (λ stands. learned u w' c.args.kind c.args.key (next_node w) cache a (ap number (c.cache_if.ensures.here (e ∙ ap not stands)) ∙ ap Some node)
    (λ k q other. ap number (c.cache_if.ensures.others k q other)))) in
    let r = c.requires in
    let unkeyed : is_shared (mode_of c.args.kind.0) ≡ true → has_key (key_in c.args.own_key) ≡ false =
    elim r.keyed [ inl none ↦ λ is. ap (λ k. has_key (key_in k)) none | inr so ↦ λ is. absurd (let a = so.0 in cc) ] in
    record {
      does = λ storage. let n = (born.does storage).next in (record { above = n.above; is_left = n.is_left }, new storage);
      whole = whole-so born.whole.steady (settles (adopted-whole (core_of t (no_blobs_of c.args.lists)) r.whole.core c.args.load c.args.kind c.args.key
          (key_in c.args.own_key) rs r.holder r.fit
          r.ready.node_left r.ready.handle_left unkeyed) (new (no_blobs_of c.args.lists) (closed-is {lists = not c.args.lists} refl)));
      later = λ later. later-on (born.later later) (newer-alike (still (core_alone t1))) refl refl refl;
    }
