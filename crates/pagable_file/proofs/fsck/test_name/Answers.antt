use Rattle.blob_file.specs.File.{named, stored}
use Rattle.pagable_file.proofs.{Flawed.{name_tested, nameless}, Naming.on_ok}
use Rattle.std.proofs.Common.{None, Some, rules, sym, ◌∙◌, ◌≡◌}
use Rattle.pagable_file.proofs.fsck.test_name.Goals as goal

pub returns : goal.returns
returns g c =
    let bodies = stored g.D.Disk c.args.file.now in
    let names = named c.args.file.now in
    let stands : names c.args.name.now ≡ Some c.in-Some.key = cc (c.in_ok-key.ensures.key, c.in-Some.is) in record {
      tested = on_ok c.test_there.result (λ there. name_tested bodies names c.args.name.now _ c.in-Some.key c.in_ok-from_str.ensures.ok stands there)
          c.test_there.ensures.tested;
    }

pub returns-in_default : goal.returns-in_default
returns-in_default g c =
    let none : c.in_ok-key.field-0 ≡ None = search rules in record {
      tested = nameless (stored g.D.Disk c.args.file.now) (named c.args.file.now) c.args.name.now (sym c.in_ok-key.ensures.key ∙ none);
    }
