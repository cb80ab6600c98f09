use Rattle.std.proofs.lemmas.Str.{IsUtf8-from_is_utf8}
use Rattle.pagable_value_spec.proofs.reason.Reason.as_str.Goals as goal

pub returns-in-Err : goal.returns-in-Err
returns-in-Err c = absurd (c.in-Err.ensures.cases.0 (IsUtf8-from_is_utf8 _ c.args.self.now.utf8))
