use Rattle.std.proofs.Common.{ℕ, ◌+◌, ◌-◌, ◌≡◌, ◌∙◌, ap, arith, drop, take}
use Rattle.std.specs.Int.{from_le_bytes, w64}
use Rattle.blob_file.specs.Format.{number}
use Rattle.sqlite_wal.specs.Format.{part}
use Rattle.blob_file.proofs.head.number_at.Goals as goal

pub returns : goal.returns
unfolding number part
returns c =
    let eight : c.args.at + 8 - c.args.at ≡ 8 = omega arith in
    c.from_le_bytes.ensures ∙ ap (from_le_bytes w64) (c.copy_from_slice.ensures.after ∙ ap (λ (n : ℕ). take n (drop c.args.at c.args.bytes.now)) eight)
