use Rattle.pagable_file.proofs.Keys.{at_end, is_zero, more_behind, no_key, not_zero, one_more}
use Rattle.pagable_file.specs.Bodies.{key_in}
use Rattle.std.proofs.Common.{None, Some, arith, length, rules, suc, take, ◌+◌, ◌-◌, ◌/◌, ◌≡◌}
use Rattle.pagable_file.proofs.bodies.read_keys.Goals as goal

pub returns-in_default : goal.returns-in_default
returns-in_default c =
    let l = c.loop-at in
    let left = length c.args.bytes.now / 16 - (l.at + 1) in
    let next : suc left ≡ length c.args.bytes.now / 16 - l.at = omega (arith, c.loop-at-test.true) in
    let none : c.read_key.result ≡ None = search rules in
    let front : key_in (take 16 l.rest.now) ≡ None = cc (c.split_at.ensures.front, c.read_key.ensures) in
    cc (no_key l.keys.items left l.rest.now front, l.invariant.1)

pub loop-at-preserved : goal.loop-at-preserved
loop-at-preserved c =
    let l = c.loop-at in
    let left = length c.args.bytes.now / 16 - (l.at + 1) in
    let next : suc left ≡ length c.args.bytes.now / 16 - l.at = omega (arith, c.loop-at-test.true) in
    let front : key_in (take 16 l.rest.now) ≡ Some c.in-Some.key = cc (c.split_at.ensures.front, c.read_key.ensures, c.in-Some.is) in (
      omega (arith, c.split_at.ensures.back_len, l.invariant.0),
      cc (one_more l.keys.items left c.in-Some.key l.rest.now front, l.invariant.1, c.in_ok-push.ensures.items, c.split_at.ensures.back),
    )

pub returns-then-is_empty : goal.returns-then-is_empty
returns-then-is_empty c =
    let l = c.loop-at in
    let done : 0 ≡ length c.args.bytes.now / 16 - l.at = omega (arith, c.loop-at-test.false) in
    cc (at_end l.keys.items l.rest.now (is_zero (length l.rest.now) c.is_empty.result c.is_empty.ensures c.if-is_empty.true), l.invariant.1)

pub returns-else-is_empty : goal.returns-else-is_empty
returns-else-is_empty c =
    let l = c.loop-at in
    let done : 0 ≡ length c.args.bytes.now / 16 - l.at = omega (arith, c.loop-at-test.false) in
    cc (more_behind l.keys.items l.rest.now (not_zero (length l.rest.now) c.is_empty.result c.is_empty.ensures c.if-is_empty.false), l.invariant.1)
