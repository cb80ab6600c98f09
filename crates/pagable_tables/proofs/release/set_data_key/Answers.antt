use Rattle.pagable_tables.proofs.{
  CallsKeepWhole.keyed-whole,
  CascadeEnd.stays-first,
  CascadeStep.{key-fits, keyed-on},
  OwnedByLoad.{does-as, drops-with, lazily-so, nothing-release_at},
  RowCounts.found-among,
  SameViews.{failed, owner-same, still},
  Views.{falling, loose-unshared, unturned},
  Words.{Falls, GetsKey, Some, any_mode, basics, cases_eq, core_alone, counts_at, if◌then◌else◌, inl, inr, keyed, live, nobody, refl, sym, with_key, [], ◌==◌},
  Words.{◌∙◌, ◌∷◌, ◌≡◌},
}
use Rattle.pagable_tables.proofs.release.set_data_key.Goals as goal

pub returns-in_err-at : goal.returns-in_err-at
returns-in_err-at g c =
    rw (failed _ c.from_residual.ensures.1) (nothing-release_at c.requires.whole
    (λ storage e. record {
      does = inl (record { e = c.in_err-at.field-0.0; why = c.in_err-at.ensures.fault storage any_mode; told = refl; stays = still _ });
    }))

pub finish_cascade-requires : goal.finish_cascade-requires
finish_cascade-requires g c =
    let t = c.args.t.now.ref_counts in
    let n = c.in_ok-at.at.row.node.0 in
    let y = c.unwrap-counts.result in
    let b = y.pins == 0 in
    let w = c.requires.whole.steady in
    let e = c.set_counts.ensures in
    let is = sym c.counts_of.ensures ∙ c.unwrap-counts.ensures in
    let here : counts_at c.set_counts.new.nodes n ≡ Some (keyed y c.get.result t.top) = grind (basics, e.here, c.first_dying_after.ensures) in
    let top : c.first_dying_after-t.result ≡ (if b then n else t.top) = grind (basics, c.first_dying_after-t.ensures) in
    let fits = key-fits n y _ w.fits is c.get.ensures.above here e.others e.refs b refl in
    record {
      falling = (
        if b then n ∷ [] else [],
        record { sound = w.sound; next = w.next; fits = rw top fits; worked = λ m. rw (e.worker_bound m) (w.worked m) },
        grind basics,
      );
    }

pub returns : goal.returns
returns g c =
    let row = c.in_ok-at.at.row in
    let t = c.args.t.now in
    let loose = sym c.is_loose_mode.ensures ∙ c.if-not-is_loose_mode.false in
    let here : counts_at c.set_counts.new.nodes row.node.0 ≡ Some (keyed c.unwrap-counts.result c.args.key t.ref_counts.top) =
    grind (basics, c.set_counts.ensures.here, c.first_dying_after.ensures, c.get.ensures.value) in
    let is = sym c.counts_of.ensures ∙ c.unwrap-counts.ensures in
    let cells : GetsKey (counts_at t.ref_counts.nodes) (counts_at c.set_counts.new.nodes) row.node.0 c.args.key =
    λ m. grind (basics, cases_eq m row.node.0, here, is, c.set_counts.ensures.others m, c.get.ensures.above, c.get.ensures.value) in
    let there = (found-among c.args.handle.0 (core_alone t).rows row c.in_ok-at.ensures.found).0 in
    let stands = unturned (with_key (core_alone t) row.node c.args.key) (keyed-whole c.requires.whole.core row there c.args.key (loose-unshared row.mode loose))
    in
    let own = owner-same c.args.me row.owner c.in_ok-at.ensures.owner in
    drops-with (does-as (lazily-so {lists = c.args.lists} {step = λ w w'. Falls w (with_key w row.node c.args.key) nobody c.finish_cascade.result w'}
    (λ storage e. c.finish_cascade.ensures.falls _ _ nobody (keyed-on t storage _ c.requires.whole e row.node c.args.key _ refl cells))
    c.finish_cascade.ensures.steady (λ fell. falling fell stands) refl refl refl)
    (λ storage fell e. record { does = inr (row, record { live = c.in_ok-at.ensures.found; own = own; as_asked = refl }, inr (loose, fell e)) }))
    (stays-first (λ m. grind (basics, cases_eq m row.node.0, here, is, c.set_counts.ensures.others m)) c.finish_cascade.ensures.drops)
