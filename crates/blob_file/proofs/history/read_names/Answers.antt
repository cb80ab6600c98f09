use Rattle.std.proofs.Common.{List, ap, arith, length, map, sym, ◌++◌, ◌+◌, ◌∙◌, ◌≤◌, ℕ}
use Rattle.blob_file.specs.{History.said_by, Rows.names_in}
use Rattle.blob_file.proofs.Histories.{tells_none, walk_ends, walk_next, walk_starts}
use Rattle.blob_file.proofs.Walks.{found_here}
use Rattle.blob_file.proofs.history.read_names.Goals as goal

pub returns-then-gate-le16-clause-told : goal.returns-then-gate-le16-clause-told
returns-then-gate-le16-clause-told g c clean =
    tells_none (g.D.Disk.seen c.args.disk.now) _ (omega (arith, c.requires.place clean, c.if-gate-le16.true))

pub loop-at-init : goal.loop-at-init
loop-at-init g c =
    walk_starts g.D.Disk c.in_ok-len.len c.args.gate c.args.disk.now c.len.new.self _ (omega (arith, c.if-gate-le16.false))
    (omega (arith, c.if-len-gate.false)) (record {
      seen = c.len.ensures.seen;
      clean = c.len.ensures.clean;
      usable = c.len.ensures.usable;
      key = c.len.ensures.key;
      rot = c.len.ensures.rot;
      crash = λ left had. c.len.ensures.crash left had;
    }) (λ clean. c.in_ok-len.ensures.len clean) c.requires.place

pub batch_at-requires-clause-len : goal.batch_at-requires-clause-len
batch_at-requires-clause-len g c clean =
    c.loop-at.invariant.size clean ∙ ap length (sym c.loop-at.invariant.same.seen)

pub read_rows-requires-clause-within : goal.read_rows-requires-clause-within
read_rows-requires-clause-within g c clean =
    let fits : c.loop-at.at + 25 + c.in-Some.head.bodies + c.in-Some.head.rows ≤ c.in_ok-len.len = rw c.in-Some.is at c.in_ok-head.ensures.fits in
    omega (
      arith,
      fits,
      c.loop-at.invariant.size (c.batch_at.ensures.same.clean clean),
      ap length c.loop-at.invariant.same.seen,
      ap length c.batch_at.ensures.same.seen,
    )

pub loop-at-preserved : goal.loop-at-preserved
loop-at-preserved g c =
    let inv = c.loop-at.invariant in
    let fits : c.loop-at.at + 25 + c.in-Some.head.bodies + c.in-Some.head.rows ≤ c.in_ok-len.len = rw c.in-Some.is at c.in_ok-head.ensures.fits in
    walk_next g.D.Disk _ _ _ _ _ _ c.read_rows.new.disk _ _ _ _ inv c.batch_at.ensures.same c.read_rows.ensures.same (omega (arith, fits))
    (λ clean. found_here _ _ _ _ _ inv.same.seen (c.in_ok-head.ensures.found (c.read_rows.ensures.same.clean clean)) c.in-Some.is)
    (λ clean. c.in_ok-push_names.ensures.told ∙ ap (λ (l : List ℕ). map said_by c.loop-at.told.items ++ names_in l)
    (c.deref.ensures.value ∙ c.in_ok-rows.ensures.rows clean))

pub returns-clause-told : goal.returns-clause-told
returns-clause-told g c clean = walk_ends g.D.Disk _ _ _ _ _ _ _ c.loop-at.invariant (omega (arith, c.loop-at-test.false)) c.requires.place clean
