use Rattle.pagable_file.proofs.Copying.{named_more}
use Rattle.std.proofs.Common.{String, take_all, ◌∙◌}
use Rattle.std.specs.{String.string_bytes, declared.alloc.Global.Global}
use Rattle.pagable_file.proofs.copy.read_roots.Goals as goal

pub loop-name-preserved : goal.loop-name-preserved
loop-name-preserved g c =
    let was = c.loop-name.invariant in
    let root = c.in_ok-root.ensures in record {
      read = λ h.
          named_more (λ (name : String Global). g.S.PagableStorage.roots c.args.from.now (string_bytes name)) c.args.names.now c.loop-name.name-index c.name-item.result
          c.loop-name.keys.items c.push.new.self.items c.in_ok-root.field-0 c.loop-name-test.true c.name-item.is (was.read (root.honest h))
          (cc (root.ok h, was.roots (root.honest h), c.as_str.ensures.value)) c.in_ok-push.ensures.items;
      roots = λ h. (root.same_names h).0 ∙ was.roots (root.honest h);
      same = λ h. (root.stays h).0 ∙ was.same (root.honest h);
      honest = λ h. was.honest (root.honest h);
    }

pub returns-clause-read : goal.returns-clause-read
returns-clause-read g c h = rw (take_all c.loop-name.name-index c.args.names.now c.loop-name-test.false) at (c.loop-name.invariant.read h)
