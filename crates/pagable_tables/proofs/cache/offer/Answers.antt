use Rattle.pagable_tables.proofs.{
  CallsKeepWhole.{known-suits, learns-whole},
  CascadeEnd.{drops-still, stays-first},
  CascadeStep.{begun-whole, closed-is, opened-view},
  OwnedByLoad.{begun-made, falls-made, found-again, later-on},
  RowCounts.found-among,
  SameViews.{alike-on, failed, not-recalled, owner-same, owner-self, same-cache},
  Views.{lone-falling, not-a-value, not-list, told-whole},
  Wholeness.whole-so,
  Words.{Alike, NodeNumber, Owner, Owns, any_mode, ap, arith, basics, core_alone, core_of, counts_at, false, fits_mode, has_value, inl, inr, is_owner},
  Words.{is_pinning, is_value_owner, length, mode_of, not, offer_fault, only_handle, option_map, recall_fault, refl, sym, with_cached, with_known, ℕ, ◌+◌, ◌∙◌},
  Words.◌≡◌,
}
use Rattle.pagable_tables.specs.Core.{StorageView, no_blobs}
use Rattle.pagable_tables.proofs.cache.offer.Goals as goal

pub make_handle-requires-clause-suits : goal.make_handle-requires-clause-suits
make_handle-requires-clause-suits g c = rw c.mode_of.ensures (known-suits c.requires.whole.core _ _ _
    (sym (c.in-Some.ensures no_blobs)))

pub unreachable-requires : goal.unreachable-requires
unreachable-requires g c =
    let came = (c.in_ok-known.ensures.does.does no_blobs).made.1.rows in
    let again = found-again _ _ _ c.in_ok-row.ensures.owns.live came refl in
    grind (basics, again, owner-self, c.in_ok-row.ensures.owns.own, c.in_default-find_owned.ensures.fault no_blobs any_mode)

pub try_release_at-requires-clause-not_a_value : goal.try_release_at-requires-clause-not_a_value
try_release_at-requires-clause-not_a_value g c = ap is_value_owner (owner-same _ _ c.in-Ok.ensures.owner)
    ∙ not-a-value (core_alone c.args.t.now) _ c.requires.holder

pub try_release_at-requires-clause-not_the_list : goal.try_release_at-requires-clause-not_the_list
try_release_at-requires-clause-not_the_list g c = ap (is_owner Owner.List) (owner-same _ _ c.in-Ok.ensures.owner)
    ∙ not-list (core_alone c.args.t.now) _ c.requires.holder

pub returns : goal.returns
returns g c =
    let t = c.args.t.now in
    let t1 = c.make_handle.new.t in
    let node = c.in-Some.node in
    let made = c.in_ok-known.ensures.does in
    let went = lone-falling {w = core_alone t1} made.whole.core (c.try_release_at.ensures.falls (core_alone t1) (core_alone t1)
    (begun-whole t1 _ _ made.whole refl) (omega arith)) in
    record {
      offered = λ storage e.
          (let o : StorageView = record storage { closed = false } in
          let w = core_of t o in
          let u = with_known w c.args.kind node.0 c.args.me in
          let owns : Owns w c.args.me c.args.handle (fits_mode c.args.kind.0) c.in_ok-row.row = grind (basics, c.in_ok-row.ensures.owns) in
          let m = (made.does o).made in
          let alike : Alike u (core_of t1 o) = rw c.mode_of.ensures at m.1 in
          let begun = begun-made t t1 o node _ _ made.whole alike _ refl in
          let given = found-among c.args.handle.0 w.rows c.in_ok-row.row owns.live in
          let spared : only_handle c.args.handle (w.last.handle + 1) ≡ false =
          let a = (c.requires.whole.core.handles.numbered c.in_ok-row.row given.0).1 in grind (basics, given.1) in
          let falls = falls-made t t1 o node _ _ made.whole alike c.in_ok-known.ensures.same
          (not-a-value (core_alone t) _ c.requires.holder)
          c.try_release_at.new.t (rw c.in-Ok.ensures.number at (c.try_release_at.ensures.falls u u begun (omega (arith, ap length alike.rows))))
          spared in
          let is = sym (c.in-Some.ensures o) in
          rw (opened-view storage (closed-is e ∙ ap not c.if-not-lists.false))
          (record {
            answers = (
              c.in_ok-row.row,
              owns,
              c.in_ok-row.ensures.typed,
              inr (refl, (node.0, is, m.0, record { told = c.try_release_at.result; falls = falls })),
            );
            refused = tt;
          }));
      whole = whole-so c.try_release_at.ensures.steady went.whole;
      drops = λ there.
          stays-first (λ n. c.in_ok-known.ensures.values n (λ eq pins. ap (λ k. has_value (counts_at t.ref_counts.nodes k)) eq
          ∙ there node.0 (sym (c.in-Some.ensures no_blobs)) (ap is_pinning (sym c.mode_of.ensures) ∙ pins))) c.try_release_at.ensures.drops;
      later = λ later. later-on (made.later later) went.newer refl refl refl;
    }

pub forget_gone-requires : goal.forget_gone-requires
forget_gone-requires g c =
    let w = core_alone c.args.t.now in
    let owns : Owns w c.args.me c.args.handle (fits_mode c.args.kind.0) c.in_ok-row.row = grind (basics, c.in_ok-row.ensures.owns) in
    let alike : Alike (with_cached w c.args.kind c.args.key c.in_ok-row.row.node) (core_alone (record c.args.t.now { cache = c.put.new.cache })) =
    grind (basics, same-cache, c.in_ok-put.ensures.here, c.in_ok-put.ensures.others) in
    whole-so c.requires.whole.steady (learns-whole _ _ _ _ _ c.requires.whole.core owns
    c.in_ok-row.ensures.typed alike)

pub returns-in_default-clause-offered : goal.returns-in_default-clause-offered
returns-in_default-clause-offered g c storage e =
    let o : StorageView = record storage { closed = false } in
    let w = core_of c.args.t.now o in
    let owns : Owns w c.args.me c.args.handle (fits_mode c.args.kind.0) c.in_ok-row.row = grind (basics, c.in_ok-row.ensures.owns) in
    let alike : Alike (with_cached w c.args.kind c.args.key c.in_ok-row.row.node) (core_of (record c.args.t.now { cache = c.put.new.cache }) o) =
    grind (basics, same-cache, c.in_ok-put.ensures.here, c.in_ok-put.ensures.others) in
    rw (opened-view storage (closed-is e ∙ ap not c.if-not-lists.false))
    (record {
      answers = (
        c.in_ok-row.row,
        owns,
        c.in_ok-row.ensures.typed,
        (refl, sym (c.in_default.ensures o), alike-on alike (c.forget_gone.ensures.does.does o)),
      );
      refused = tt;
    })

pub returns-in_default-clause-whole : goal.returns-in_default-clause-whole
returns-in_default-clause-whole g c = c.forget_gone.ensures.does.whole

pub returns-in_err-put-clause-whole : goal.returns-in_err-put-clause-whole
returns-in_err-put-clause-whole g c =
    let same = λ (kind key : ℕ). ap (option_map (λ (n : NodeNumber). n.0)) (c.in_err-put.ensures.err kind key) in
    whole-so c.requires.whole.steady (told-whole (core_alone (record c.args.t.now { cache = c.put.new.cache }))
    c.requires.whole.core refl (λ n. refl) refl (λ kind key n is. sym (same kind key) ∙ is) (λ l. refl) (λ v. refl) refl)

pub returns-in_err-known-clause-offered : goal.returns-in_err-known-clause-offered
returns-in_err-known-clause-offered g c storage e =
    let o : StorageView = record storage { closed = false } in
    let w = core_of c.args.t.now o in
    let owns : Owns w c.args.me c.args.handle (fits_mode c.args.kind.0) c.in_ok-row.row = grind (basics, c.in_ok-row.ensures.owns) in
    let is = sym (c.in-Some.ensures o) in
    let call = not-recalled {kind = c.args.kind} {key = c.args.key} is c.mode_of.ensures _
    (c.in_err-known.ensures.does.does o) in
    let cause : offer_fault w c.args.me c.args.kind c.args.key c.args.handle ≡ recall_fault w c.args.kind c.args.key =
    grind (basics, c.in_ok-row.ensures.typed) in
    rw (opened-view storage (closed-is e ∙ ap not c.if-not-lists.false))
    (rw (failed _ c.from_residual-in_err-known.ensures.1)
    record {
      answers = tt;
      refused = record {
        why = elim call.refused.why [ inl a ↦ inl (cause ∙ a) | inr b ↦ inr (b.0, cause ∙ b.1, (refl, inr b.2.1)) ];
        stays = call.refused.stays;
      };
    })

pub returns-in_err-known-clause-drops : goal.returns-in_err-known-clause-drops
returns-in_err-known-clause-drops g c there = stays-first (λ n. c.in_err-known.ensures.values n
    (λ eq pins. ap (λ k. has_value (counts_at c.args.t.now.ref_counts.nodes k)) eq
    ∙ there c.in-Some.node.0 (sym (c.in-Some.ensures no_blobs)) (ap is_pinning (sym c.mode_of.ensures) ∙ pins)))
    (drops-still _ _ c.in_err-known.ensures.does.whole.steady)
