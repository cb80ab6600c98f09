use Rattle.pagable_traits.proofs.Registered.{is_last, none_from_less}
use Rattle.std.proofs.Common.{arith, false, length, rules, true, ◌+◌, ◌-◌, ◌≡◌}
use Rattle.std.specs.{Str.bytes_eq, String.string_bytes}

pub returns-then-eq-clause-found : Rattle.pagable_traits.proofs.typetag.last_reader.Goals.returns-then-eq-clause-found
returns-then-eq-clause-found g c =
    let known = c.index-registrations-count.result in
    let equal : bytes_eq c.args.tag.now (string_bytes known.tag) ≡ true = search rules in
    let count = length c.args.registrations.now in
    let passed = c.loop-passed.passed in
    is_last (λ x. (string_bytes x.tag, x.deserialize)) c.args.tag.now c.args.registrations.now (count - passed) (count - 1 - passed) known
    (omega (arith, c.loop-passed-test.true)) (omega (arith, c.loop-passed-test.true)) c.index-registrations-count.is equal c.loop-passed.invariant

pub loop-passed-preserved : Rattle.pagable_traits.proofs.typetag.last_reader.Goals.loop-passed-preserved
loop-passed-preserved g c =
    let known = c.index-registrations-count.result in
    let differs : bytes_eq c.args.tag.now (string_bytes known.tag) ≡ false = search rules in
    let count = length c.args.registrations.now in
    let passed = c.loop-passed.passed in
    let next : count - 1 - passed ≡ count - (passed + 1) = omega arith in
    rw (← next)
    (none_from_less (λ x. (string_bytes x.tag, x.deserialize)) c.args.tag.now c.args.registrations.now (count - passed) (count - 1 - passed) known
    (omega (arith, c.loop-passed-test.true)) (omega (arith, c.loop-passed-test.true)) c.index-registrations-count.is differs c.loop-passed.invariant)
