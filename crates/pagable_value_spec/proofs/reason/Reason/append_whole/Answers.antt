use Rattle.pagable_value_spec.proofs.Cut.{both_whole}
use Rattle.std.proofs.Common.{rules}
use Rattle.pagable_value_spec.proofs.reason.Reason.append_whole.Goals as goal

pub invariant_of-result : goal.invariant_of-result
invariant_of-result c = record {
  within = search rules;
  utf8 = both_whole _ _ _ _ _ c.copy_text_at.ensures.written c.as_bytes.ensures.value c.args.self.utf8
      c.utf8.text;
}
