use Rattle.std.proofs.Common.{◌∙◌, ap, arith}
use Rattle.std.proofs.lemmas.Bool.{MatchBool-at_false}
use Rattle.std.proofs.lemmas.Result.{on_ok_weaker}
use Rattle.blob_file.specs.Format.{recovered}
use Rattle.blob_file.proofs.Repairs.{gate_torn, rests_written}
use Rattle.blob_file.proofs.repair.shut_gate.Goals as goal

pub returns-in_err-write_at-clause-same : goal.returns-in_err-write_at-clause-same
returns-in_err-write_at-clause-same g c clean =
    let there = c.write_at.ensures.clean clean in
    let was = MatchBool-at_false _ _ c.if-branch.false (c.in_ok-has_shut_gate.ensures.found there) in
    gate_torn c.args.gate _ _ (c.requires.ends (c.has_shut_gate.ensures.same.clean there)) was
    (rw c.has_shut_gate.ensures.same.seen at c.write_at.ensures.others)

pub returns-in_err-write_at-clause-crash : goal.returns-in_err-write_at-clause-crash
returns-in_err-write_at-clause-crash g c clean left may =
    let there = c.write_at.ensures.clean clean in
    let was = MatchBool-at_false _ _ c.if-branch.false (c.in_ok-has_shut_gate.ensures.found there) in
    let (before, had, torn) = c.write_at.ensures.crash left may in
    let synced = c.requires.synced before (c.has_shut_gate.ensures.same.crash before had) in
    gate_torn c.args.gate _ _ (c.requires.ends (c.has_shut_gate.ensures.same.clean there)) was (rw synced at torn)

pub returns-clause-rests : goal.returns-clause-rests
returns-clause-rests g c =
    on_ok_weaker c.sync.result (λ _ clean.
    let there = c.write_at.ensures.clean (c.sync.ensures.clean clean) in
    let was = MatchBool-at_false _ _ c.if-branch.false (c.in_ok-has_shut_gate.ensures.found there) in
    rw c.sync.ensures.seen
    (rests_written c.args.gate _ _ (c.requires.ends (c.has_shut_gate.ensures.same.clean there)) was
    (rw c.has_shut_gate.ensures.same.seen at c.write_at.ensures.others) (c.in_ok-write_at.ensures.written (omega arith)))) c.sync.ensures.durable

pub returns-clause-same : goal.returns-clause-same
returns-clause-same g c clean =
    let there = c.write_at.ensures.clean (c.sync.ensures.clean clean) in
    let was = MatchBool-at_false _ _ c.if-branch.false (c.in_ok-has_shut_gate.ensures.found there) in
    ap recovered c.sync.ensures.seen
    ∙ gate_torn c.args.gate _ _ (c.requires.ends (c.has_shut_gate.ensures.same.clean there)) was
    (rw c.has_shut_gate.ensures.same.seen at c.write_at.ensures.others)

pub returns-clause-crash : goal.returns-clause-crash
returns-clause-crash g c clean left may =
    let there = c.write_at.ensures.clean (c.sync.ensures.clean clean) in
    let was = MatchBool-at_false _ _ c.if-branch.false (c.in_ok-has_shut_gate.ensures.found there) in
    let (before, had, torn) = c.write_at.ensures.crash left (c.sync.ensures.crash left may) in
    let synced = c.requires.synced before (c.has_shut_gate.ensures.same.crash before had) in
    gate_torn c.args.gate _ _ (c.requires.ends (c.has_shut_gate.ensures.same.clean there)) was (rw synced at torn)
