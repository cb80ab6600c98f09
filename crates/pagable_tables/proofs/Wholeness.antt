-- No vector is longer than its capacity, so rows and list of the tables' world have their places.
use Rattle.pagable_tables.proofs.{HandleTable.length-live-le, Words.{ArePlaced, IsSoundInCascade, Tables, core_alone, owns_nothing, [], basics}}
use Rattle.pagable_tables.specs.Core.{IsWhole}
use Rattle.pagable_pager_spec.specs.Pager as pager

-- ---- what the tables tell is in its places, since no vector is longer than its capacity: so they are whole where the world is that is in its places

pub whole-so : {t : Tables} → IsSoundInCascade t.ref_counts [] owns_nothing → (ArePlaced (core_alone t) → pager.IsWhole (core_alone t)) → IsWhole t
whole-so {t} steady core = record { steady = steady; core = core (grind (basics, length-live-le)) }
