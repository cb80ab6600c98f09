use Rattle.std.proofs.Common.{◌∙◌, ◌<◌, length, take_at, arith}
use Rattle.blob_file.proofs.Scans.{read_there}
use Rattle.blob_file.proofs.scanning.read_part.Goals as goal

pub returns-clause-bytes : goal.returns-clause-bytes
returns-clause-bytes g c clean =
    take_at _ _ _ (omega (arith, c.in_ok-bytes.ensures.len))
    ∙ read_there _ _ _ _ (λ (some : 0 < length c.read_at.new.buf). c.in_ok-read_at.ensures.read clean (omega arith)) (omega (arith, c.in_ok-bytes.ensures.len))
