use Rattle.blob_file.specs.File.{body_now, stored}
use Rattle.blob_file.specs.declared.rows.Place.{Place}
use Rattle.pagable_file.proofs.Flawed.{missing, no_body}
use Rattle.std.proofs.Common.{None, Option, false, nat_eq, rules, ◌≡◌}
use Rattle.std.specs.{HashMap.get, Prelude.is_some}
use Rattle.pagable_file.proofs.fsck.test_there.Goals as goal

pub returns : goal.returns
returns g c =
    let file = c.args.file.now in
    let none : is_some c.find.result ≡ false = search rules in
    let known : Option Place = get nat_eq file.index.places c.args.key in
    let same : c.find.result ≡ known = cc in
    let nothing : stored g.D.Disk file c.args.key ≡ None = no_body (body_now g.D.Disk file) c.find.result known same none in record {
      tested = missing (stored g.D.Disk file) c.args.key c.args.flaw c.in_ok-push.ensures.items nothing;
    }
