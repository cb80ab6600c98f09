use Rattle.pagable_file.proofs.Planned.{plans_known, plans_new}
use Rattle.pagable_file.specs.Copies.{HasCopied}
use Rattle.std.proofs.Common.{IsSome, Option, rules, subst}
use Rattle.pagable_file.proofs.root_check.plan_key.Goals as goal

pub returns-then-is_some : goal.returns-then-is_some
returns-then-is_some c =
    let some : IsSome c.in_ok-insert.field-0 = search rules in
    let known : HasCopied c.args.plan.now.planned c.args.key = subst (λ (o : Option (Unit {0})). IsSome o) c.in_ok-insert.ensures.old some in record {
      plans = λ tracked. plans_known c.args.plan.now.order.items c.args.plan.now.planned c.insert.new.self c.args.key
          c.in_ok-insert.ensures.updates.0 known tracked;
    }

pub returns : goal.returns
returns c = record {
  plans = λ tracked. plans_new c.args.plan.now.order.items c.push.new.self.items c.args.plan.now.planned c.insert.new.self c.args.key
      c.in_ok-insert.ensures.updates.0 c.in_ok-push.ensures.items tracked;
}
