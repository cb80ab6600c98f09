use Rattle.std.proofs.Common.{sym, ◌∙◌, ap, ℕ, List, arith}
use Rattle.std.specs.Str.{bytes_eq}
use Rattle.blob_file.specs.Format.{header}
use Rattle.blob_file.proofs.Fronts.{front_held}
use Rattle.blob_file.proofs.front.has_header.Goals as goal

pub returns-clause-found : goal.returns-clause-found
returns-clause-found g c clean =
    c.eq.ensures ∙ ap (λ (b : List ℕ). bytes_eq b header) (sym (front_held _ _ 16 (c.in_ok-read_at.ensures.read clean (omega arith)) (omega arith)))
