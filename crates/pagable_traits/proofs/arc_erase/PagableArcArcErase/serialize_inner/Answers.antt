-- Nothing was written of a value that couldn't be pinned.
use Rattle.pagable_codec.proofs.Writing.{grows_refl}
use Rattle.std.proofs.Common.{refl}
use Rattle.pagable_traits.proofs.arc_erase.PagableArcArcErase.serialize_inner.Goals as goal

pub returns-in-Err : goal.returns-in-Err
returns-in-Err g c = record { ok = tt; refused = tt; only = tt; grows = grows_refl _; same_env = refl; same_levels = refl }
