use Rattle.blob_file.specs.File.{named, stored}
use Rattle.pagable_file.proofs.Planned.{root_found, root_nowhere}
use Rattle.pagable_value_spec.specs.Blob.{key_of}
use Rattle.std.proofs.Common.{None, Some, rules, sym, ◌∙◌, ◌≡◌}
use Rattle.pagable_file.proofs.root_check.find_root_flaws.Goals as goal

pub returns-clause-tested : goal.returns-clause-tested
returns-clause-tested g c honest =
    let file = c.args.file.now in
    let stands : named file c.args.name.now ≡ Some c.in-Some.root = cc (c.in_ok-root.ensures.key, c.in-Some.is) in
    root_found (key_of g.H.KeyHash.digest) (stored g.D.Disk file) (named file) c.args.name.now c.in-Some.root c.new-flaws.ensures.items stands
    c.in_ok-test_name.ensures.tested (c.in_ok-test_reached.ensures.tested honest)

pub returns-in_default-clause-tested : goal.returns-in_default-clause-tested
returns-in_default-clause-tested g c honest =
    let file = c.args.file.now in
    let none : c.in_ok-root.field-0 ≡ None = search rules in
    root_nowhere (key_of g.H.KeyHash.digest) (stored g.D.Disk file) (named file) c.args.name.now _ c.new.ensures.items
    (sym c.in_ok-root.ensures.key ∙ none)
