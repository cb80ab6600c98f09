use Rattle.blob_file.specs.{File.{Same, content, content_of}, Format.recovered}
use Rattle.std.proofs.Common.{List, subst, ℕ}
use Rattle.pagable_file.proofs.looking.look_at.Goals as goal

pub returns-in-Ok-clause-found : goal.returns-in-Ok-clause-found
returns-in-Ok-clause-found g c bytes shown clean =
    subst (λ (b : List ℕ). Same (content_of (recovered b)) (content g.D.Disk c.in-Ok.blobs.file)) shown (c.in-Ok.ensures.found clean)
