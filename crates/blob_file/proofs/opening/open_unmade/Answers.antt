use Rattle.std.proofs.Common.{inr, sym, ◌∙◌, ap, subst}
use Rattle.std.proofs.lemmas.Bool.{both_ways, or_right}
use Rattle.blob_file.specs.Format.{recovered}
use Rattle.blob_file.specs.Log.{RestsAt}
use Rattle.blob_file.specs.Rows.{Knows}
use Rattle.blob_file.proofs.Repairs.{created, new_rests, none_formed, none_summed, ready_synced, recovered_new, recovered_small, rests_made, unmade_small}
use Rattle.blob_file.proofs.opening.open_unmade.Goals as goal

pub returns-in_err-create-clause-moment : goal.returns-in_err-create-clause-moment
returns-in_err-create-clause-moment g c = record {
  clean = λ clean. c.was_never_made.ensures.same.clean (c.create.ensures.clean clean);
  crash = λ clean left may.
      let unmade = sym (c.in_ok-was_never_made.ensures.found (c.create.ensures.clean clean)) ∙ c.if-not-branch.false in
      let (before, had, step) = c.create.ensures.crash left may in
      inr (created _ before left (unmade_small _ unmade) (c.requires.synced before (c.was_never_made.ensures.same.crash before had)) step);
}

pub returns-clause-opens : goal.returns-clause-opens
returns-clause-opens g c = record {
  usable = c.in_ok-create.ensures.usable;
  found = λ clean.
      let unmade = sym (c.in_ok-was_never_made.ensures.found (c.create.ensures.clean clean)) ∙ c.if-not-branch.false in
      ap recovered (c.in_ok-create.ensures.made clean) ∙ recovered_new ∙ sym (recovered_small _ (unmade_small _ unmade));
  ready = λ clean. ready_synced g.D.Disk 16 _ (subst (RestsAt 16) (sym (c.in_ok-create.ensures.made clean)) new_rests) c.in_ok-create.ensures.synced;
  summed = λ clean.
      let unmade = sym (c.in_ok-was_never_made.ensures.found (c.create.ensures.clean clean)) ∙ c.if-not-branch.false in
      none_summed _ (unmade_small _ unmade);
  formed = λ clean.
      let unmade = sym (c.in_ok-was_never_made.ensures.found (c.create.ensures.clean clean)) ∙ c.if-not-branch.false in
      none_formed _ (unmade_small _ unmade);
  knows = λ clean.
      let unmade = sym (c.in_ok-was_never_made.ensures.found (c.create.ensures.clean clean)) ∙ c.if-not-branch.false in
      subst (Knows c.args.index.now) (sym (recovered_small _ (unmade_small _ unmade))) c.requires.empty;
  kind = λ clean. or_right _ _ (sym (c.in_ok-was_never_made.ensures.found (c.create.ensures.clean clean)) ∙ c.if-not-branch.false);
  untouched = λ clean place rests. absurd (both_ways _ (c.requires.other (c.was_never_made.ensures.same.clean (c.create.ensures.clean clean)))
      (rests_made place _ rests));
}

pub returns-clause-moment : goal.returns-clause-moment
returns-clause-moment g c = record {
  clean = λ clean. c.was_never_made.ensures.same.clean (c.create.ensures.clean clean);
  crash = λ clean left may.
      let unmade = sym (c.in_ok-was_never_made.ensures.found (c.create.ensures.clean clean)) ∙ c.if-not-branch.false in
      let (before, had, step) = c.create.ensures.crash left may in
      inr (created _ before left (unmade_small _ unmade) (c.requires.synced before (c.was_never_made.ensures.same.crash before had)) step);
}
