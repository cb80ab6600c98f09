use Rattle.hex.specs.Hex.{encode_lower}
use Rattle.pagable_value_spec.specs.KeyText.{key_text}
use Rattle.std.proofs.Common.{List, ap, subst, ℕ, ◌∙◌}
use Rattle.std.specs.Fmt.{HasWritten}
use Rattle.pagable_value_spec.proofs.data_key.DataKeyDisplay.fmt.Goals as goal

pub returns-clause-writes : goal.returns-clause-writes
returns-clause-writes g c plain written =
    let text = c.in-Ok-from_utf8.ensures.cases.0 ∙ c.in-Ok.ensures.written ∙ ap encode_lower c.to_le_bytes.ensures ∙ ap key_text c.get.ensures.value in
    subst (λ (t : List ℕ). HasWritten {W = g.row.W.Denot} g.W.Write.write_str_gives c.args.f.now t c.write_str.new.self)
    text (c.write_str.ensures.writes plain written)
