use Rattle.blob_file.specs.{File.{found_body, stored}, Rows.Body}
use Rattle.pagable_file.proofs.Flawed.{bodies_same, none_at}
use Rattle.pagable_file.specs.Flaws.{IsFlawAt, IsSoundAt, TellsFlaws}
use Rattle.pagable_value_spec.specs.Blob.{key_of}
use Rattle.std.proofs.Common.{Option, ap, subst, sym, ℕ, ◌∙◌}
use Rattle.std.specs.Prelude.{OnOk}
use Rattle.pagable_file.proofs.fsck.test_blob.Goals as goal

pub returns-in-Some-clause-tested : goal.returns-in-Some-clause-tested
returns-in-Some-clause-tested g c clean =
    let of = key_of g.H.KeyHash.digest in
    let number = c.args.number in
    let same = bodies_same g.D.Disk c.args.file.now c.fetch.new.self c.fetch.ensures.same in
    let found = sym (c.in_ok-found.ensures.found clean) ∙ ap found_body c.in-Some.is in
    let here = ap (λ (bodies : ℕ → Option Body). bodies number) same ∙ found in
    subst (λ (bodies : ℕ → Option Body). OnOk c.test_body.result (TellsFlaws (IsFlawAt of bodies number) c.args.flaws.now.items
    c.test_body.new.flaws.items (IsSoundAt of bodies number))) same (c.test_body.ensures.tested here)

pub returns-in-None-clause-tested : goal.returns-in-None-clause-tested
returns-in-None-clause-tested g c clean =
    none_at (key_of g.H.KeyHash.digest) (stored g.D.Disk c.args.file.now) c.args.number
    (sym (c.in_ok-found.ensures.found clean) ∙ ap found_body c.in-None.is)
