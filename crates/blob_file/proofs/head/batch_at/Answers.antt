use Rattle.std.proofs.Common.{◌∙◌, arith, length-drop}
use Rattle.blob_file.proofs.Heads.{head_seen, no_head}
use Rattle.blob_file.proofs.head.batch_at.Goals as goal

pub returns-then-rest-lt-HEAD-clause-found : goal.returns-then-rest-lt-HEAD-clause-found
returns-then-rest-lt-HEAD-clause-found g c clean =
    no_head _ (omega (arith, c.requires.len clean, length-drop c.args.at (g.D.Disk.seen c.args.disk.now)))

pub returns-clause-found : goal.returns-clause-found
returns-clause-found g c clean =
    c.parse_head.ensures.found
    ∙ head_seen _ _ _ _ (c.in_ok-read_at.ensures.read clean (omega arith)) (omega arith) (omega (arith, c.requires.len (c.read_at.ensures.clean clean)))
