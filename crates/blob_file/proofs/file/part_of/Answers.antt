use Rattle.std.proofs.Common.{◌≡◌, ap, ℕ, ◌+◌, ◌-◌, take, drop, arith}
use Rattle.sqlite_wal.specs.Format.{part}
use Rattle.blob_file.proofs.file.part_of.Goals as goal

pub returns-then-len-bytes-clause-found : goal.returns-then-len-bytes-clause-found
unfolding part
returns-then-len-bytes-clause-found c =
    let same : c.args.from + c.args.len - c.args.from ≡ c.args.len = omega arith in
    ap (λ (k : ℕ). take k (drop c.args.from c.args.bytes.now)) same
