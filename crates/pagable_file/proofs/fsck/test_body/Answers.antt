use Rattle.blob_file.specs.{File.stored, Rows.Body}
use Rattle.pagable_core.specs.Data.{blob_of}
use Rattle.pagable_file.proofs.Flawed.{keyed_body, of_none, of_some, stray_body}
use Rattle.pagable_file.specs.{Bodies.blob_if_some, Flaws.IsStray}
use Rattle.pagable_value_spec.specs.Blob.{key_of}
use Rattle.std.proofs.Common.{ap, ◌∙◌, ◌≡◌}
use Rattle.pagable_file.proofs.fsck.test_body.Goals as goal

pub returns-in_ok-children-in-Some-clause-tested : goal.returns-in_ok-children-in-Some-clause-tested
returns-in_ok-children-in-Some-clause-tested g c here =
    let blob = blob_of c.in-Some.keyed.blob in
    let facts = of_some _ c.in_ok-keyed.field-0 c.in-Some.keyed c.in-Some.is c.in_ok-keyed.ensures.blob in
    let listed : c.as_slice.result.now ≡ blob.keys = c.as_slice.ensures.value in
    keyed_body (key_of g.H.KeyHash.digest) (stored g.D.Disk c.args.file.now) c.args.number c.in-Some.keyed.key blob c.as_slice.result.now facts.0 facts.1
    (ap blob_if_some here ∙ facts.2) listed c.in_ok-test_key-in-Some.ensures.tested c.in_ok-test_children-in-Some.ensures.tested

pub returns-in_ok-push-in-None-clause-tested : goal.returns-in_ok-push-in-None-clause-tested
returns-in_ok-push-in-None-clause-tested g c here =
    let body : Body = record { children = c.args.found.now.children; bytes = c.args.found.now.body.items } in
    stray_body (key_of g.H.KeyHash.digest) (stored g.D.Disk c.args.file.now) c.args.number body c.in_ok-push-in-None.ensures.items here
    (of_none (IsStray c.args.number body) c.in_ok-keyed.field-0 c.in-None.is c.in_ok-keyed.ensures.stray)
