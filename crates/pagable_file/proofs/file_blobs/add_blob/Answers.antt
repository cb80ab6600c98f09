use Rattle.pagable_file.proofs.Keys.{keys-length}
use Rattle.std.proofs.{Common.{arith, length, rules, ◌++◌, ◌≡◌}, lemmas.List.length-append}
use Rattle.std.specs.{Int.{to_le_bytes, w128}, List.flat_map}
use Rattle.pagable_file.proofs.file_blobs.add_blob.Goals as goal

pub add-requires-clause-children : goal.add-requires-clause-children
add-requires-clause-children g c =
    let blob = c.args.blob.now in
    let keys = flat_map (to_le_bytes w128) blob.arcs.items in
    let many : c.in-Ok.children ≡ length blob.arcs.items = search rules in
    let body : length c.as_slice.result.now ≡ length (keys ++ blob.bytes.items) = cc (c.as_slice.ensures.value, c.in_ok-body.ensures.body) in
    omega (arith, many, body, keys-length blob.arcs.items, length-append keys blob.bytes.items)
