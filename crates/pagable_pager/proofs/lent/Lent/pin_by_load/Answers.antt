use Rattle.pagable_load.{proofs.LoadSteps.{environment-is, lender-is, me-is, told-so}, specs.AccessView.values_at}
use Rattle.pagable_pager.proofs.LentPins.{given-held, loads-told, rest-keyed}
use Rattle.pagable_pager_spec.specs.World.{result_map}
use Rattle.std.proofs.Common.{refl, ◌∙◌}
use Rattle.pagable_pager.proofs.lent.Lent.pin_by_load.Goals as goal

pub returns : goal.returns
returns g c =
    let told = told-so _ _ _ _ c.read_rest.ensures.acts.step in
    let r = c.reading_with_root-reading.ensures in
    record {
      loads = λ h. loads-told _ _ _ _ _ c.in_ok-load.ensures.begun c.reading_with_root-reading.result r.load r.key r.of_cell _ _ _ c.requires.caller r.reading
          (λ e. values_at g.E.Node.NodeSet g.E.Env g.E.Hash.KeyHash e) c.in_ok-load.ensures.environment refl (result_map (λ pin. pin.0) c.read_rest.result)
          (told h).1;
      held = λ h. given-held _ _ c.read_rest.result h c.read_rest.ensures.given;
      keyed = rest-keyed (λ e. values_at g.E.Node.NodeSet g.E.Env g.E.Hash.KeyHash e) c.in_ok-load.ensures.environment c.reading_with_root-reading.result _
          c.args.leaf.node_type _ r.reading r.key c.requires.named c.read_rest.result c.read_rest.ensures.keyed;
      honest = λ h. rw c.in_ok-load.ensures.storage at (told h).0;
      lender = lender-is c.read_rest.ensures.acts.acting;
      me = me-is c.read_rest.ensures.acts.acting;
      environment = environment-is c.read_rest.ensures.acts.acting ∙ c.in_ok-load.ensures.environment;
    }
