use Rattle.std.proofs.Common.{inl, inr, sym, ◌∙◌, ap, subst, ◌+◌, arith}
use Rattle.std.proofs.lemmas.Result.{on_ok_weaker}
use Rattle.blob_file.specs.Format.{recovered}
use Rattle.blob_file.specs.Log.{RestsAt}
use Rattle.blob_file.proofs.BatchFiles.{kept, less_below}
use Rattle.blob_file.proofs.FlushWrites.{gate_written, gate_opened}
use Rattle.blob_file.proofs.Repairs.{ready_synced, torn_front}
use Rattle.blob_file.proofs.sealing.seal.Goals as goal

pub returns-in_err-sync-clause-any_moment : goal.returns-in_err-sync-clause-any_moment
returns-in_err-sync-clause-any_moment g c clean left may =
    let r = c.requires.ready (c.sync.ensures.clean clean) in
    inl (kept c.args.gate _ left r.rests (r.crash left (c.sync.ensures.crash left may)))

pub returns-in_err-write_at-clause-any_moment : goal.returns-in_err-write_at-clause-any_moment
returns-in_err-write_at-clause-any_moment g c clean left may =
    let first = c.sync.ensures.clean (c.write_at.ensures.clean clean) in
    let (before, was, torn) = c.write_at.ensures.crash left may in
    let synced = c.in_ok-sync.ensures.durable before was in
    elim (gate_written c.args.gate _ left (c.requires.ready first).rests (c.requires.staged first) (rw synced at torn)) [
      | inl old ↦ inl old.0
      | inr new ↦ inr new.0
    ]

pub returns-clause-any_moment : goal.returns-clause-any_moment
returns-clause-any_moment g c clean left may =
    let first = c.sync.ensures.clean (c.write_at.ensures.clean (c.sync-2.ensures.clean clean)) in
    let (before, was, torn) = c.write_at.ensures.crash left (c.sync-2.ensures.crash left may) in
    let synced = c.in_ok-sync.ensures.durable before was in
    elim (gate_written c.args.gate _ left (c.requires.ready first).rests (c.requires.staged first) (rw synced at torn)) [
      | inl old ↦ inl old.0
      | inr new ↦ inr new.0
    ]

pub returns-clause-acknowledged : goal.returns-clause-acknowledged
returns-clause-acknowledged g c =
    on_ok_weaker c.sync-2.result (λ _ clean.
    let first = c.sync.ensures.clean (c.write_at.ensures.clean (c.sync-2.ensures.clean clean)) in
    let torn = rw c.sync.ensures.seen at c.write_at.ensures.others in
    ap recovered c.sync-2.ensures.seen ∙ (gate_opened c.args.gate _ _ (c.requires.ready first).rests (c.requires.staged first) torn
    (c.in_ok-write_at.ensures.written (omega arith))).0) c.sync-2.ensures.durable

pub returns-clause-ready : goal.returns-clause-ready
returns-clause-ready g c =
    on_ok_weaker c.sync-2.result (λ durable clean.
    let first = c.sync.ensures.clean (c.write_at.ensures.clean (c.sync-2.ensures.clean clean)) in
    let torn = rw c.sync.ensures.seen at c.write_at.ensures.others in
    let more = gate_opened c.args.gate _ _ (c.requires.ready first).rests (c.requires.staged first) torn (c.in_ok-write_at.ensures.written (omega arith)) in
    ready_synced g.D.Disk _ _ (subst (RestsAt _) (sym c.sync-2.ensures.seen) more.1)
    (λ left may. durable left may ∙ sym c.sync-2.ensures.seen)) c.sync-2.ensures.durable

pub returns-in_err-sync-clause-below : goal.returns-in_err-sync-clause-below
returns-in_err-sync-clause-below g c clean left may =
    less_below c.args.gate (c.args.gate + 1) _ _ (omega arith) ((c.requires.ready (c.sync.ensures.clean clean)).crash left (c.sync.ensures.crash left may))

pub returns-in_err-write_at-clause-below : goal.returns-in_err-write_at-clause-below
returns-in_err-write_at-clause-below g c clean left may =
    let first = c.sync.ensures.clean (c.write_at.ensures.clean clean) in
    let (before, was, torn) = c.write_at.ensures.crash left may in
    let synced = c.in_ok-sync.ensures.durable before was in
    torn_front c.args.gate _ left (omega (arith, (c.requires.ready first).rests.within)) (rw synced at torn)

pub returns-clause-below : goal.returns-clause-below
returns-clause-below g c clean left may =
    let first = c.sync.ensures.clean (c.write_at.ensures.clean (c.sync-2.ensures.clean clean)) in
    let (before, was, torn) = c.write_at.ensures.crash left (c.sync-2.ensures.crash left may) in
    let synced = c.in_ok-sync.ensures.durable before was in
    torn_front c.args.gate _ left (omega (arith, (c.requires.ready first).rests.within)) (rw synced at torn)
