use Rattle.std.proofs.Common.{◌∙◌}
use Rattle.pagable_file.proofs.copy.copy_reached.Goals as goal

pub keys-preserved : goal.keys-preserved
keys-preserved g c =
    let was = c.keys.invariant in
    let performed = c.perform_task.ensures in record {
      copied = λ from_honest to_honest.
          let same = was.same (performed.honest from_honest) in
          rw same at (c.in_ok-perform_task.ensures.copied from_honest to_honest
          (rw same (was.copied (performed.honest from_honest) (performed.honest_copy to_honest))));
      same = λ h. performed.same h ∙ was.same (performed.honest h);
      keeps = λ h key blob is. performed.keeps h key blob (was.keeps (performed.honest_copy h) key blob is);
      same_names = λ h. performed.same_names h ∙ was.same_names (performed.honest h);
      names_stay = λ h. performed.names_stay h ∙ was.names_stay (performed.honest_copy h);
      honest = λ h. was.honest (performed.honest h);
      honest_copy = λ h. was.honest_copy (performed.honest_copy h);
    }
