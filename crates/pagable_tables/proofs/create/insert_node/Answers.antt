use Rattle.pagable_tables.proofs.{
  LoadEnd.born-fits,
  OwnedByLoad.{bears-goes, does-so},
  SameViews.same-cache,
  Views.not-a-value,
  Words.{Counts, HandleRow, NodeRow, None, Option, Some, ap, arith, basics, cases_eq, core_alone, counts_at, false, has_key, inl, inr, is_named_by, is_pinning},
  Words.{key_in, moved, one, option_map, owner_value, refl, rows_of, ℕ, [], ◌++◌, ◌+◌, ◌∙◌, ◌∷◌, ◌≡◌, ◌≢◌, ◌≤◌},
  WorkCounts.{work-moved, work-push},
}
use Rattle.pagable_tables.specs.{CascadeInvariant.is_worker, Nodes.most_worker_handles_at}
use Rattle.std.specs.Option.{option_map_or}

pub returns-clause-does : Rattle.pagable_tables.proofs.create.insert_node.Goals.returns-clause-does
returns-clause-does c =
    let u = c.args.t.now in
    let t = u.ref_counts in
    let me = c.args.me in
    let rs = c.args.references.items in
    let at = counts_at t.nodes in
    let w = c.requires.whole in
    let n = u.last_node + 1 in
    let x : HandleRow = record { number = record { 0 = t.last_handle + 1 }; node = record { 0 = n }; mode = c.args.mode; owner = me } in
    let is : Counts = record { node_type = c.args.node_type; key = c.args.key; pins = one (is_pinning c.args.mode); holds = 1; is_dying = false; next = 0 } in
    let came = ap (option_map (λ r. r.counts)) c.put.ensures.here in
    let here : counts_at c.put.new.self n ≡ Some is = grind (basics, came, c.pins.ensures) in
    let others : (q : ℕ) → q ≢ n → counts_at c.put.new.self q ≡ at q = λ q ne. ap (option_map (λ r. r.counts)) (c.put.ensures.others q ne) in
    let refers = λ (o : Option NodeRow). option_map_or (λ (r : NodeRow). r.references.items) o [] in
    let free : at n ≡ None = grind (basics, w.core.handles.nodes_numbered n) in
    let rows = c.in-Ok.ensures.rows ∙ ap (λ l. l ++ x ∷ []) (c.hand_over_all.ensures.rows
    ∙ ap (λ l. moved (is_named_by l) (owner_value n) (rows_of t)) c.deref.ensures.value) in
    let given = moved (is_named_by rs) (owner_value n) (rows_of t) in
    let works = λ (o : Option NodeRow). option_map_or (λ (r : NodeRow). r.worker_bound) o 0 in
    let before = work-moved t.nodes (is_named_by rs) (owner_value n) (rows_of t) refl w.steady.worked in
    let none : most_worker_handles_at t.nodes n ≡ 0 = grind (basics, free) in
    let worker : most_worker_handles_at c.put.new.self n ≡ one (is_worker me) = grind (basics, ap works c.put.ensures.here, c.is_worker.ensures) in
    let more : (q : ℕ) → most_worker_handles_at t.nodes q ≤ most_worker_handles_at c.put.new.self q = λ q. let a =
    λ (ne : q ≢ n). ap works (c.put.ensures.others q ne) in grind (basics, cases_eq q n) in
    let worked = work-push given x t.nodes c.put.new.self before more (omega (arith, before n)) in
    let unvalued = not-a-value (core_alone u) me c.requires.holder in
    let fits = born-fits (core_alone u) me rs w.core.handles.ordered c.requires.fit unvalued x _ w.steady.fits refl
    refl (elim c.requires.keyed [ inl none ↦ inl none | inr so ↦ inr so.1 ]) (omega arith) free here others (ap refers c.put.ensures.here)
    (λ q ne. ap refers (c.put.ensures.others q ne)) in
    does-so (λ storage. grind (basics, same-cache))
    (record {
      sound = c.push.ensures.sound;
      next = c.in-Ok.ensures.next;
      fits = rw rows fits;
      worked = rw rows worked;
    })
    (bears-goes me c.args.node_type c.args.key rs c.args.mode _ w.core c.requires.holder c.requires.fit c.requires.ready.node_left
    (elim c.requires.keyed [ inl none ↦ λ is. ap (λ k. has_key (key_in k)) none | inr so ↦ λ is. absurd (let a = so.0 in cc) ])) refl refl refl
