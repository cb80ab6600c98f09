use Rattle.pagable_file.specs.Copies.{HasCopied}
use Rattle.std.proofs.Common.{take}
use Rattle.std.specs.List.{AllByRecursion}
use Rattle.pagable_file.proofs.copy.test_children.Given as goal

-- the children so far were copied
abbrev pub invariant-loop-child : goal.invariant-loop-child
invariant-loop-child l = AllByRecursion (HasCopied l.copied) (take l.child-index l.children)
