use Rattle.record_store.specs.Handles.{EntriesAreGone}
use Rattle.record_store.proofs.handles.release_entries.Given as goal

-- the entries from this place on are released
abbrev pub invariant-loop-place : goal.invariant-loop-place
invariant-loop-place g l = EntriesAreGone g.S.PagableStorage l.fn.pager l.place l.pager
