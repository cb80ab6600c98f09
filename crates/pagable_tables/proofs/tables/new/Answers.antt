use Rattle.pagable_tables.proofs.{
  CascadeEnd.passes-none,
  Words.{None, OwnLaterHandles, Tables, ap, basics, cached_at, live, load_at, refl, row_by, rows_of, worker_at, ℕ, [], ◌≡◌},
}
use Rattle.pagable_tables.specs.Core.{IsWhole}

nothing-whole : (t : Tables) → t.ref_counts.handles.dead ≡ 0 → t.ref_counts.handles.places.items ≡ [] → ((n : ℕ) → row_by t.ref_counts.nodes n ≡ None)
    → t.ref_counts.list.items ≡ []
    → ((kind key : ℕ) → cached_at t.cache kind key ≡ None) → ((l : ℕ) → load_at t.loads l ≡ None) → ((v : ℕ) → worker_at t.workers v ≡ None)
    → (t.ref_counts.top ≡ 0) × (t.ref_counts.last_handle ≡ 0) × (t.last_node ≡ 0) × (t.last_load ≡ 0) → IsWhole t
nothing-whole t dead rows found list cache loads workers last = grind basics

nothing-later : (t : Tables) → rows_of t.ref_counts ≡ [] → ((l : ℕ) → load_at t.loads l ≡ None) → ((v : ℕ) → worker_at t.workers v ≡ None)
    → t.noted ≡ 0 → OwnLaterHandles t
nothing-later t none loads workers noted = grind (basics, passes-none)

pub returns-clause-later : Rattle.pagable_tables.proofs.tables.new.Goals.returns-clause-later
returns-clause-later c = nothing-later _ (ap live c.new.ensures.items) (λ l. rw c.new-5.ensures.empty refl) (λ v. rw c.new-6.ensures.empty refl) refl

pub returns-clause-whole : Rattle.pagable_tables.proofs.tables.new.Goals.returns-clause-whole
returns-clause-whole c =
    nothing-whole _ refl c.new.ensures.items c.new-2.ensures c.new-3.ensures.items (λ kind key. rw c.new-4.ensures.empty refl)
    (λ l. rw c.new-5.ensures.empty refl)
    (λ v. rw c.new-6.ensures.empty refl) (refl, refl, refl, refl)
