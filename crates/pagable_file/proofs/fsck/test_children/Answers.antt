use Rattle.blob_file.specs.File.{stored}
use Rattle.pagable_file.proofs.Flawed.{each_next, each_tested, none_yet, passed}
use Rattle.pagable_file.specs.Flaws.{IsMissingChild, IsThere}
use Rattle.pagable_file.proofs.fsck.test_children.Goals as goal

pub loop-child-init : goal.loop-child-init
loop-child-init g c = passed (none_yet (IsMissingChild (stored g.D.Disk c.args.file.now) c.args.key)) tt

pub loop-child-preserved : goal.loop-child-preserved
loop-child-preserved g c =
    let l = c.loop-child in
    let bodies = stored g.D.Disk c.args.file.now in
    each_next (IsMissingChild bodies c.args.key) (IsThere bodies) c.args.children.now l.child-index c.child-item.result c.loop-child-test.true c.child-item.is
    l.invariant c.in_ok-test_there.ensures.tested

pub returns : goal.returns
returns g c =
    let bodies = stored g.D.Disk c.args.file.now in record {
      tested = each_tested (IsMissingChild bodies c.args.key) (IsThere bodies) c.args.children.now c.loop-child.child-index c.loop-child-test.false
          c.loop-child.invariant;
    }
