use Rattle.pagable_flavors.proofs.Varint.{AppendsVarint_counted}
use Rattle.pagable_flavors.proofs.vec_flavor.writing.push_byte_array.Goals as goal
use Rattle.std.proofs.Common.{arith, length, rules, ◌++◌, ◌≡◌, ◌≤◌}
use Rattle.std.specs.Prelude.{IsOk}

pub returns : goal.returns
returns c =
    let fits : length c.args.array.now ≤ 18446744073709551615 = search rules in
    let done : IsOk c.extend_from_slice-done.result =
    c.extend_from_slice-done.ensures.succeeds (omega (arith, c.requires, c.push_varint.ensures.len, c.push_varint.ensures.capacity)) in
    let added : c.extend_from_slice-done.new.self.items ≡ c.push_varint.new.bytes.items ++ c.args.array.now = search rules in
    AppendsVarint_counted c.args.array.now c.push_varint.ensures.written fits added
