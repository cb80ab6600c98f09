use Rattle.std.proofs.Common.{◌≡◌, refl, ◌∙◌, ap}
use Rattle.std.specs.Int.{from_le_bytes, w128, w32}
use Rattle.sqlite_wal.specs.Format.{part}
use Rattle.blob_file.specs.Rows.{row_of}
use Rattle.blob_file.proofs.rows.read_row.Goals as goal

pub returns : goal.returns
unfolding row_of part
returns c =
    let key : c.from_le_bytes.result ≡ from_le_bytes w128 (part c.args.bytes.now 0 16) = c.from_le_bytes.ensures
    ∙ ap (from_le_bytes w128) c.copy_from_slice.ensures.after in
    let children : c.from_le_bytes-2.result ≡ from_le_bytes w32 (part c.args.bytes.now 16 4) = c.from_le_bytes-2.ensures
    ∙ ap (from_le_bytes w32) c.copy_from_slice-2.ensures.after in
    let size : c.from_le_bytes-3.result ≡ from_le_bytes w32 (part c.args.bytes.now 20 4) = c.from_le_bytes-3.ensures
    ∙ ap (from_le_bytes w32) c.copy_from_slice-3.ensures.after in
    rw (key, children, size) refl
