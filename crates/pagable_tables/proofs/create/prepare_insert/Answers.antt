use Rattle.pagable_tables.proofs.{
  SameViews.{earlier-first, failed, late, references-low, room-fault, spent-late, still, weaker},
  Words.{None, Refused, basics, core_of, earlier, inl, insert_fault, subst, sym, ◌∙◌},
}
use Rattle.pagable_tables.specs.Core.{no_blobs}
use Rattle.pagable_tables.proofs.create.prepare_insert.Goals as goal

pub returns-in-Some-clause-refused : goal.returns-in-Some-clause-refused
returns-in-Some-clause-refused c storage =
    record {
      why = inl (grind (basics, earlier-first, references-low, late, spent-late, sym (c.references_fault.ensures storage) ∙ c.in-Some.is));
      stays = still _;
    }

pub returns-clause-fit : goal.returns-clause-fit
returns-clause-fit c = room-fault _ _ (c.make_room_for_node.ensures.does.does no_blobs) ∙ sym (c.references_fault.ensures no_blobs)
    ∙ c.in_default.is

pub returns-in_err-make_room_for_node-clause-refused : goal.returns-in_err-make_room_for_node-clause-refused
returns-in_err-make_room_for_node-clause-refused c storage =
    let w = core_of c.args.t.now storage in
    let w' = core_of c.make_room_for_node.new.t storage in
    rw (failed _ c.from_residual.ensures.1) (subst (λ f. Refused (earlier f (insert_fault w)) None
    (Unit {0}) w c.in_err-make_room_for_node.field-0.0 w') (c.references_fault.ensures storage)
    (rw c.in_default.is (weaker (c.in_err-make_room_for_node.ensures.refused storage))))
