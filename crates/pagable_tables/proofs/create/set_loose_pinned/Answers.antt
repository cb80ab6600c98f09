use Rattle.pagable_tables.proofs.{
  CascadeStep.{set_loose_pinned-fits, turned},
  HandleTable.{at-place, changed-known},
  OwnedByLoad.does-so,
  SameViews.alike,
  Views.{moded, settled},
  Words.{Counts, Some, ap, arith, basics, cases_eq, not, one, refl, sym, ◌+◌, ◌∙◌},
}
use Rattle.pagable_tables.specs.CascadeInvariant.{is_work}

pub returns-clause-does : Rattle.pagable_tables.proofs.create.set_loose_pinned.Goals.returns-clause-does
returns-clause-does c =
    let t = c.args.t.now.ref_counts in
    let x = c.args.at.row in
    let y = c.unwrap-counts.result in
    let w = c.requires.whole in
    let is = sym c.counts_of.ensures ∙ c.unwrap-counts.ensures in
    let e = c.set_counts.ensures in
    let here = e.here ∙ ap (λ (k : Counts). Some (record k { holds = y.holds })) (c.counts_with_handle-pinned.ensures
    ∙ ap (λ p. record y { pins = y.pins + one (not p); holds = y.holds + 1 }) c.pins.ensures) in
    does-so
    (λ storage. alike _ _
    (c.replace_row.ensures.becomes.rows ∙ changed-known _ _ x w.steady.sound.ordered c.requires.place turned)
    (λ q. grind (basics, cases_eq q x.node.0, is, here, e.others q)) refl (grind arith) refl)
    (record {
      sound = c.replace_row.ensures.becomes.sound;
      next = c.replace_row.ensures.becomes.next (t.last_handle + 1) w.steady.next;
      fits = set_loose_pinned-fits x y w.steady.fits is c.replace_row.ensures.sums here e.others e.refs;
      worked = λ n. grind (basics, c.replace_row.ensures.sums (λ h. one (is_work n h)), w.steady.worked n, e.worker_bound n);
    })
    (λ pins.
    let found = (at-place _ _ x w.steady.sound.ordered c.requires.place).2 in
    let turns = moded w.core _ x _ found (sym c.requires.unshared) (λ loose. refl)
    (λ is. grind (basics, c.requires.unlisted)) in
    settled pins turns.0 turns.2) refl refl refl
