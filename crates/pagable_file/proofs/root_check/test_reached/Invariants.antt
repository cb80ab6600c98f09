use Rattle.blob_file.specs.File.{IsSettled, stored}
use Rattle.pagable_file.proofs.Planned.{Walked}
use Rattle.pagable_file.specs.{Flaws.Stays, Settled.is_honest_file}
use Rattle.pagable_value_spec.specs.Blob.{key_of}
use Rattle.std.proofs.Common.{IsTrue}
use Rattle.pagable_file.proofs.root_check.test_reached.Given as goal

-- the keys before this place were visited
abbrev pub invariant-loop-at : goal.invariant-loop-at
invariant-loop-at g l =
    IsSettled g.D.Disk l.file × Stays g.D.Disk l.fn.file l.file × (IsTrue (is_honest_file g.D.Disk l.file)
    → Walked (key_of g.H.KeyHash.digest) (stored g.D.Disk l.fn.file) l.fn.root l.at l.plan.order.items l.plan.planned l.fn.flaws.items l.flaws.items)
