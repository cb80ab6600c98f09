use Rattle.std.proofs.Common.{refl, sym, ◌∙◌, subst, ℕ, ◌+◌, ◌≤◌, List, drop, arith}
use Rattle.sqlite_disk.specs.Disk.{MoreFaults}
use Rattle.blob_file.specs.Format.{rows_of}
use Rattle.blob_file.specs.Log.{IsSound}
use Rattle.blob_file.specs.Rows.{Learns}
use Rattle.blob_file.proofs.Scans.{open_is, open_not, size_there, stands_start, stands_next, ends_here, all_formed, all_known, all_summed, not_sound}
use Rattle.blob_file.proofs.Walks.{found_here, reads_not, reads_then, refuses_batch}
use Rattle.blob_file.proofs.scanning.find_end.Goals as goal

pub loop-head-init : goal.loop-head-init
loop-head-init g c = record {
  within = c.requires.long;
  same = reads_not g.D.Disk c.args.disk.now c.requires.usable;
  faults = refl;
  stands = λ clean. stands_start _ (c.requires.made clean) (omega (arith, c.requires.long, c.requires.len clean)) _ c.requires.empty;
}

pub returns-in_err-take_batch-clause-refused : goal.returns-in_err-take_batch-clause-refused
returns-in_err-take_batch-clause-refused g c =
    let inv = c.loop-head.invariant in
    refuses_batch _ _ _ _ c.from_residual-in_err-take_batch.result _ c.from_residual-in_err-take_batch.ensures.1 c.in_err-take_batch.ensures.refused
    (λ damaged clean all.
    let before = c.take_batch.ensures.same.clean clean in
    let found = found_here _ _ _ _ _ inv.same.seen (c.in_ok-head.ensures.found before) c.in-Some.is in
    not_sound _ _ _ (inv.stands (c.batch_at.ensures.same.clean before)) (open_is _ _ found).0
    (λ sound. damaged clean (subst (λ (f : List ℕ). IsSound (drop c.loop-head.at f)) (sym (c.batch_at.ensures.same.seen ∙ inv.same.seen)) sound)) all.0 all.1)
    (λ failed. subst (λ (n : ℕ). MoreFaults n (g.D.Disk.faults c.take_batch.new.disk)) (c.in_ok-head.ensures.faults ∙ inv.faults) failed)

pub loop-head-preserved : goal.loop-head-preserved
loop-head-preserved g c =
    let inv = c.loop-head.invariant in
    let fits : c.loop-head.at + 25 + c.in-Some.head.bodies + c.in-Some.head.rows ≤ c.args.len = rw c.in-Some.is at c.in_ok-head.ensures.fits in
    let seen = c.batch_at.ensures.same.seen ∙ inv.same.seen in
    record {
      within = omega arith;
      same = reads_then g.D.Disk _ _ _ (reads_then g.D.Disk _ _ _ inv.same c.batch_at.ensures.same) c.take_batch.ensures.same;
      faults = c.in_ok-take_batch.ensures.faults ∙ c.in_ok-head.ensures.faults ∙ inv.faults;
      stands = λ clean.
          let before = c.take_batch.ensures.same.clean clean in
          let found = found_here _ _ _ _ _ inv.same.seen (c.in_ok-head.ensures.found before) c.in-Some.is in
          stands_next _ _ _ _ _ (inv.stands (c.batch_at.ensures.same.clean before)) (open_is _ _ found).0
          (subst (λ (f : List ℕ). IsSound (drop c.loop-head.at f)) seen (c.in_ok-take_batch.ensures.sound clean)) (size_there _ _ found)
          (subst (λ (f : List ℕ). Learns (c.loop-head.at + 25) (rows_of (drop c.loop-head.at f)) c.loop-head.index c.take_batch.new.index) seen
          (c.in_ok-take_batch.ensures.learns clean));
    }

pub returns-clause-ends : goal.returns-clause-ends
returns-clause-ends g c clean =
    let inv = c.loop-head.invariant in
    ends_here _ _ _ (inv.stands (c.batch_at.ensures.same.clean clean))
    (open_not _ (found_here _ _ _ _ _ inv.same.seen (c.in_ok-head.ensures.found clean) c.in_default.is))

pub returns-clause-summed : goal.returns-clause-summed
returns-clause-summed g c clean =
    let inv = c.loop-head.invariant in
    all_summed _ _ _ (inv.stands (c.batch_at.ensures.same.clean clean))
    (open_not _ (found_here _ _ _ _ _ inv.same.seen (c.in_ok-head.ensures.found clean) c.in_default.is))

pub returns-clause-formed : goal.returns-clause-formed
returns-clause-formed g c clean =
    let inv = c.loop-head.invariant in
    all_formed _ _ _ (inv.stands (c.batch_at.ensures.same.clean clean))
    (open_not _ (found_here _ _ _ _ _ inv.same.seen (c.in_ok-head.ensures.found clean) c.in_default.is))

pub returns-clause-knows : goal.returns-clause-knows
returns-clause-knows g c clean =
    let inv = c.loop-head.invariant in
    all_known _ _ _ (inv.stands (c.batch_at.ensures.same.clean clean))
    (open_not _ (found_here _ _ _ _ _ inv.same.seen (c.in_ok-head.ensures.found clean) c.in_default.is))
