use Rattle.sha256_lanes.proofs.Tails.{block_of_tail, block_within}
use Rattle.std.proofs.{Common.{arith, length, ◌*◌, ◌+◌, ◌-◌, ◌/◌, ◌≡◌}}
use Rattle.sha256_lanes.proofs.padding.find_block.Goals as goal

pub returns-then-number-whole-clause-value : goal.returns-then-number-whole-clause-value
returns-then-number-whole-clause-value c =
    let n = c.args.number in
    let wide : 64 * n + 64 - 64 * n ≡ 64 = omega arith in
    let turned : 64 * n ≡ n * 64 = omega arith in
    rw (wide, turned) (block_within c.args.message.now n c.if-number-whole.true)

pub returns-else-number-whole-clause-value : goal.returns-else-number-whole-clause-value
returns-else-number-whole-clause-value c =
    let n = c.args.number in
    let j = n - length c.args.message.now / 64 in
    let wide : 64 * j + 64 - 64 * j ≡ 64 = omega arith in
    rw wide (block_of_tail c.args.message.now c.args.tail.now n c.requires.tail c.if-number-whole.false c.requires.within)
