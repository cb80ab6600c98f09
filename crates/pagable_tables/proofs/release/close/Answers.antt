use Rattle.pagable_tables.proofs.{
  CallsKeepWhole.close-whole,
  CascadeStep.{begun, owned-listed, unmixed},
  OwnedByLoad.{later-on, passes-given},
  Views.newer-falls,
  Wholeness.whole-so,
  Words.{Falls, FallsAnyhow, None, Owner, RefCounts, ap, arith, cached_at, core_of, false, inl, is_listed, is_owned_by, option_map, refl, shut, subst, sym},
  Words.{with_tables, ℕ, ◌≡◌},
}
use Rattle.pagable_tables.specs.Core.{no_blobs}
use Rattle.pagable_tables.proofs.release.close.Goals as goal

pub returns-clause-closed : goal.returns-clause-closed
returns-clause-closed g c storage failures' le =
    let t = c.args.t.now in
    let w = core_of t storage in
    let u = shut w failures' in
    let none : (kind key : ℕ) → cached_at c.clear.new.self kind key ≡ None = λ kind key. rw c.clear.ensures.empty refl in
    let whole = c.requires.whole in
    let left : RefCounts = record t.ref_counts { list = c.clear-2.new.self; listing_error = None } in
    let so-far = begun w u false left refl (λ p own. refl) (unmixed t whole) (λ q. omega arith) refl c.clear-2.ensures.items refl whole.core.handles.within.0
    (grind arith) (λ n. refl) refl in
    let falls = c.release_owned.ensures.falls w u w (λ l. refl) so-far (omega arith)
    (λ q is. let given = passes-given (is_owned_by Owner.List) q whole.core.handles is in ((given.0, inl given.0), given.1)) in
    let listed : FallsAnyhow w u (is_listed w) (with_tables u c.release_owned.new.t) =
    record {
      told = c.release_owned.result;
      falls = subst (λ s. Falls w u s c.release_owned.result (with_tables u c.release_owned.new.t))
          (λ i q. owned-listed whole.core q i) falls;
    } in
    record {
      told = refl;
      fails = le;
      falls = subst (λ known. FallsAnyhow w u (is_listed w) (record (with_tables u c.release_owned.new.t) { cache = known }))
          (λ i kind key. sym (ap (option_map (λ n. n.0)) (none kind key)) i) listed;
    }

pub returns-clause-whole : goal.returns-clause-whole
returns-clause-whole g c = whole-so c.release_owned.ensures.steady (close-whole _ c.requires.whole.core
    (returns-clause-closed g c no_blobs 0 (omega arith)))

pub returns-clause-later : goal.returns-clause-later
returns-clause-later g c later = later-on later (newer-falls (returns-clause-closed g c no_blobs 0 (omega arith)).falls.falls) refl refl refl
