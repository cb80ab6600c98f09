use Rattle.std.proofs.Common.{sym, ◌∙◌, ap, ap₂, subst, ℕ, List, [], ◌∷◌, ◌++◌, length, arith}
use Rattle.std.specs.Prelude.{IsTrue, slice_index}
use Rattle.std.proofs.lemmas.List.{length_push}
use Rattle.blob_file.specs.Format.{number, AreSummed}
use Rattle.blob_file.specs.Log.{IsReady}
use Rattle.blob_file.specs.Rows.{AreFormed}
use Rattle.blob_file.proofs.FlushWrites.{stays_not}
use Rattle.blob_file.proofs.NewBatches.{head_bodies, head_rows, is_new, left_ready, left_sealed, new_sound, next_gate, tail_last}
use Rattle.blob_file.proofs.Scans.{formed_push, summed_push}
use Rattle.blob_file.proofs.log.Log.append.Goals as goal

pub returns-in_err-plan-clause-any_moment : goal.returns-in_err-plan-clause-any_moment
returns-in_err-plan-clause-any_moment g c may clean left had =
    left_ready g.D.Disk _ _ _ _ (stays_not g.D.Disk _ _ (c.requires.open.ready may clean)) left had

pub write_batch-requires-clause-bodies : goal.write_batch-requires-clause-bodies
write_batch-requires-clause-bodies g c =
    let planned = c.in_ok-plan.ensures.planned in
    ap (λ (b : List ℕ). number b 0) (c.deref.ensures.value ∙ planned.head) ∙ head_bodies _ _ (omega (arith, planned.fits))

pub write_batch-requires-clause-rows : goal.write_batch-requires-clause-rows
write_batch-requires-clause-rows g c =
    let planned = c.in_ok-plan.ensures.planned in
    let size = ap (λ (b : List ℕ). number b 8) (c.deref.ensures.value ∙ planned.head) ∙ head_rows _ _ (omega (arith, planned.fits)) in
    let tail = ap (λ (b : List ℕ). length b) (c.deref-2.ensures.value ∙ planned.tail) in
    omega (arith, size, tail, length_push c.args.rows.now 0)

pub write_batch-requires-clause-last : goal.write_batch-requires-clause-last
write_batch-requires-clause-last g c =
    let planned = c.in_ok-plan.ensures.planned in
    let size = ap (λ (b : List ℕ). number b 8) (c.deref.ensures.value ∙ planned.head) ∙ head_rows _ _ (omega (arith, planned.fits)) in
    ap₂ (λ (b : List ℕ) (k : ℕ). slice_index b k) (c.deref-2.ensures.value ∙ planned.tail) size ∙ tail_last c.args.rows.now

pub returns-in_err-write_batch-clause-any_moment :
    goal.returns-in_err-write_batch-clause-any_moment
returns-in_err-write_batch-clause-any_moment g c whole clean left may = left_ready g.D.Disk _ _ _ _ (c.write_batch.ensures.stays clean) left may

pub returns-in_err-seal-clause-any_moment : goal.returns-in_err-seal-clause-any_moment
returns-in_err-seal-clause-any_moment g c whole clean left may =
    let staged = c.seal.ensures.clean clean in
    let planned = c.in_ok-plan.ensures.planned in
    let is = is_new _ _ _ _ _ _ (c.in_ok-write_batch.ensures.staged staged).same (c.deref.ensures.value ∙ planned.head)
    (c.deref-2.ensures.value ∙ planned.tail) in
    left_sealed _ _ _ _ _ (c.write_batch.ensures.stays staged).same is (new_sound _ _ (omega (arith, planned.fits))
    (omega (arith, planned.fits)) planned.sum c.requires.formed)
    (c.write_batch.ensures.stays staged).below (c.seal.ensures.below clean left may) (c.seal.ensures.any_moment clean left may)

pub returns-clause-any_moment : goal.returns-clause-any_moment
returns-clause-any_moment g c whole clean left may =
    let staged = c.seal.ensures.clean clean in
    let planned = c.in_ok-plan.ensures.planned in
    let is = is_new _ _ _ _ _ _ (c.in_ok-write_batch.ensures.staged staged).same (c.deref.ensures.value ∙ planned.head)
    (c.deref-2.ensures.value ∙ planned.tail) in
    left_sealed _ _ _ _ _ (c.write_batch.ensures.stays staged).same is (new_sound _ _ (omega (arith, planned.fits))
    (omega (arith, planned.fits)) planned.sum c.requires.formed)
    (c.write_batch.ensures.stays staged).below (c.seal.ensures.below clean left may) (c.seal.ensures.any_moment clean left may)

pub returns-clause-appended : goal.returns-clause-appended
returns-clause-appended g c clean =
    let staged = c.seal.ensures.clean clean in
    let planned = c.in_ok-plan.ensures.planned in
    let is = is_new _ _ _ _ _ _ (c.in_ok-write_batch.ensures.staged staged).same (c.deref.ensures.value ∙ planned.head)
    (c.deref-2.ensures.value ∙ planned.tail) in
    c.in_ok-seal.ensures.acknowledged clean ∙ ap₂ (λ (x : List (List ℕ)) (y : List ℕ). x ++ y ∷ []) (c.write_batch.ensures.stays staged).same is

pub returns-clause-open : goal.returns-clause-open
returns-clause-open g c =
    let planned = c.in_ok-plan.ensures.planned in
    let is = λ (staged : IsTrue (g.D.Disk.is_clean c.write_batch.new.disk)). is_new _ _ _ _ _ _ (c.in_ok-write_batch.ensures.staged staged).same
    (c.deref.ensures.value ∙ planned.head) (c.deref-2.ensures.value ∙ planned.tail) in
    let ready = λ (clean : IsTrue (g.D.Disk.is_clean c.seal.new.disk)).
    let staged = c.seal.ensures.clean clean in
    subst (λ (k : ℕ). IsReady g.D.Disk k c.seal.new.disk)
    (next_gate _ _ _ _ (c.in_ok-write_batch.ensures.staged staged).staged (is staged) ∙ sym planned.end) (c.in_ok-seal.ensures.ready clean) in
    let grown = λ (clean : IsTrue (g.D.Disk.is_clean c.seal.new.disk)). let staged = c.seal.ensures.clean clean in c.in_ok-seal.ensures.acknowledged clean
    ∙ ap₂ (λ (x : List (List ℕ)) (y : List ℕ). x ++ y ∷ []) (c.write_batch.ensures.stays staged).same (is staged) in
    let sound = new_sound _ _ (omega (arith, planned.fits)) (omega (arith, planned.fits)) planned.sum c.requires.formed in
    let first = λ (clean : IsTrue (g.D.Disk.is_clean c.seal.new.disk)). c.write_batch.ensures.clean (c.seal.ensures.clean clean) in
    record {
      usable = λ _. c.in_ok-seal.ensures.usable;
      place = λ _ clean. (ready clean).rests.place;
      ready = λ _ clean. ready clean;
      summed = λ _ clean. subst AreSummed (sym (grown clean)) (summed_push _ _ (c.requires.open.summed c.if-not-self.false (first clean)) sound.summed);
      formed = λ _ clean. subst AreFormed (sym (grown clean)) (formed_push _ _ (c.requires.open.formed c.if-not-self.false (first clean)) sound.formed);
    }
