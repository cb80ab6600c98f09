-- A fetch that is polled.
use Rattle.futures.specs.{Poll.IfReady, declared.task.Poll.Poll}
use Rattle.pagable_pager_spec.specs.{Calls.{Asked, FetchCall}, World.{Core, result_map}}
use Rattle.pagable_value_spec.specs.{Blob.Blob, declared.error.Error.Error}
use Rattle.std.specs.Prelude.{Result, ℕ}

-- When it is ready, it is a fetch. While it is pending, only the count of failures may change.
pub record PollCall {X : Type 0} (see : X → Blob) (w : Core) (key : ℕ) (polled : Poll (Result X Error))
    (w' : Core) : Type 0 where
  pub asked : Asked w w'
  pub fetched : IfReady polled (λ r. FetchCall w key (result_map see r) w')
