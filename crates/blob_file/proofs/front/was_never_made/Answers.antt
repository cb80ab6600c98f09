use Rattle.std.proofs.Common.{◌∙◌, ◌<◌, length, length-take, ℕ, arith}
use Rattle.blob_file.proofs.Fronts.{file_held, unmade_read}
use Rattle.blob_file.proofs.front.was_never_made.Goals as goal

pub returns-clause-found : goal.returns-clause-found
returns-clause-found g c clean =
    let size = c.requires.len (c.read_at.ensures.clean clean) in
    c.are_faint.ensures ∙ unmade_read _ _ (file_held _ _ (λ (some : 0 < length c.read_at.new.buf). c.in_ok-read_at.ensures.read clean (omega arith))
    (omega (arith, length-take {A = ℕ}))) (omega arith)
