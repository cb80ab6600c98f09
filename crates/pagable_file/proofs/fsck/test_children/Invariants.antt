use Rattle.blob_file.specs.File.{stored}
use Rattle.pagable_file.specs.Flaws.{IsMissingChild, IsOfSome, IsThere, TellsFlaws}
use Rattle.std.proofs.Common.{take}
use Rattle.std.specs.List.{AllByRecursion}
use Rattle.pagable_file.proofs.fsck.test_children.Given as goal

-- the children so far were tested
abbrev pub invariant-loop-child : goal.invariant-loop-child
invariant-loop-child g l =
    let bodies = stored g.D.Disk l.file in
    TellsFlaws (IsOfSome (IsMissingChild bodies l.key) (take l.child-index l.children)) l.fn.flaws.items l.flaws.items
    (AllByRecursion (IsThere bodies) (take l.child-index l.children))
