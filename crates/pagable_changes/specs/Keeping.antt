-- What a call leaves as it was in a pager.
use Rattle.pagable_pager.specs.View.{PagerView}
use Rattle.std.specs.Prelude.{◌≡◌}

-- storage and environment are the same
pub record KeepsStorage {N S E : Type 0} (old new : PagerView N S E) : Type 0 where
  pub storage : new.storage ≡ old.storage
  pub environment : new.environment ≡ old.environment
