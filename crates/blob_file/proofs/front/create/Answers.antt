use Rattle.std.proofs.Common.{◌∙◌, arith}
use Rattle.std.proofs.lemmas.Result.{on_ok_weaker}
use Rattle.blob_file.proofs.Fronts.{file_written}
use Rattle.blob_file.proofs.front.create.Goals as goal

pub returns-clause-made : goal.returns-clause-made
returns-clause-made g c =
    on_ok_weaker c.sync.result (λ _ clean.
    let small = c.requires.small (c.write_at.ensures.clean (c.sync.ensures.clean clean)) in
    c.sync.ensures.seen ∙ file_written _ _ _ c.write_at.ensures.others (c.in_ok-write_at.ensures.written (omega arith)) small) c.sync.ensures.durable
