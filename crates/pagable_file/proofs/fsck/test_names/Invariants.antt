use Rattle.blob_file.specs.File.{Lists, named, stored}
use Rattle.pagable_file.specs.Flaws.{IsMissingRoot, IsOfSome, IsSoundName, TellsFlaws}
use Rattle.std.proofs.Common.{String, map, take}
use Rattle.std.specs.{Global.Global, List.AllByRecursion, String.string_bytes}
use Rattle.pagable_file.proofs.fsck.test_names.Given as goal

-- the names so far were tested
abbrev pub invariant-loop-name : goal.invariant-loop-name
invariant-loop-name g l =
    let bodies = stored g.D.Disk l.file in
    let names = named l.file in
    Lists names (map string_bytes l.name-items)
    × TellsFlaws (IsOfSome (λ (n : String Global). IsMissingRoot bodies names (string_bytes n)) (take l.name-index l.name-items)) l.fn.flaws.items l.flaws.items
    (AllByRecursion (λ n. IsSoundName bodies names (string_bytes n)) (take l.name-index l.name-items))
