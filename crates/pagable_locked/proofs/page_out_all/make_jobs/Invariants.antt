use Rattle.std.proofs.Common.{slice_index_or, vec_len, ℕ, ◌+◌, ◌<◌, ◌≡◌}
use Rattle.pagable_locked.proofs.page_out_all.make_jobs.Given as goal

abbrev pub invariant-loop-worker : goal.invariant-loop-worker
invariant-loop-worker g l = record {
  parts : l.all.share.parts + l.worker ≡ l.workers + 1;
  count : vec_len l.jobs ≡ l.worker;
  own : (i : ℕ) (d : _) → i < l.worker → (slice_index_or l.jobs.items i d).worker ≡ i;
}
