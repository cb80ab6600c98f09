use Rattle.blob_file.specs.File.{Lists, named, stored}
use Rattle.pagable_file.proofs.Flawed.{each_next, each_tested, names_tested, none_yet, passed}
use Rattle.pagable_file.specs.Flaws.{IsMissingRoot, IsSoundName}
use Rattle.std.proofs.Common.{List, String, map, subst, sym}
use Rattle.std.specs.{Global.Global, String.string_bytes}
use Rattle.pagable_file.proofs.fsck.test_names.Goals as goal

pub loop-name-init : goal.loop-name-init
loop-name-init g c =
    let bodies = stored g.D.Disk c.args.file.now in
    let names = named c.args.file.now in (
      subst (λ (items : List (String Global)). Lists names (map string_bytes items)) (sym c.deref-name-items.ensures.value) c.in_ok-names.ensures.each,
      passed (none_yet (λ (n : String Global). IsMissingRoot bodies names (string_bytes n))) tt,
    )

pub loop-name-preserved : goal.loop-name-preserved
loop-name-preserved g c =
    let l = c.loop-name in
    let bodies = stored g.D.Disk c.args.file.now in
    let names = named c.args.file.now in (
      l.invariant.0,
      each_next (λ (n : String Global). IsMissingRoot bodies names (string_bytes n)) (λ n. IsSoundName bodies names (string_bytes n)) _ l.name-index
          c.name-item.result c.loop-name-test.true c.name-item.is l.invariant.1 (rw c.as_str.ensures.value at c.in_ok-test_name.ensures.tested),
    )

pub returns : goal.returns
returns g c =
    let l = c.loop-name in
    let bodies = stored g.D.Disk c.args.file.now in
    let names = named c.args.file.now in record {
      tested = names_tested bodies names _ l.invariant.0 (each_tested (λ (n : String Global). IsMissingRoot bodies names (string_bytes n))
          (λ n. IsSoundName bodies names (string_bytes n)) _ l.name-index c.loop-name-test.false l.invariant.1);
    }
