use Rattle.pagable_load.proofs.reading.collect_handles.Given.{invariant-loop-reference as invariant}
use Rattle.pagable_pager_spec.specs.Loads.{handles_of}
use Rattle.std.proofs.Common.{take, ◌≡◌}

-- the handles so far
abbrev pub invariant-loop-reference : invariant
invariant-loop-reference l = l.handles.items ≡ handles_of (take l.reference-index l.references)
