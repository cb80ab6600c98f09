-- A load asks for the blob of its own key alone.
use Rattle.pagable_load.specs.AccessView.{AsksRoot}
use Rattle.pagable_pager_spec.specs.{Basics.{Blob, Error}, World.{Core, OpenLoad}, declared.handle_row.Owner.Owner}
use Rattle.pagable_tables.proofs.SameViews.{still}
use Rattle.pagable_value_spec.specs.declared.numbers.{LoadNumber.LoadNumber}
use Rattle.std.proofs.Common.{Err, Some, inr, refl, ℕ, ◌≡◌, ◌≢◌}

-- a load of another key gets no blob
pub refuses-other : {B : Type 0} {see : B → Blob} {w : Core} {me : Owner} {l : LoadNumber} {key : ℕ} (load : OpenLoad) → w.loads l.0 ≡ Some load → load.key ≢ key
    → AsksRoot see w me l key (Err Error.NoSuchHandle) w
refuses-other {w = w} load is other = record { asked = inr (record { load = load; open_load = is; other = other }, refl, still w) }
