use Rattle.std.proofs.Common.{◌≡◌, refl, sym, ◌∙◌, ap, subst, ℕ, ◌+◌, List, length, arith, Option, nat_eq}
use Rattle.std.specs.HashMap.{get}
use Rattle.std.specs.Map.{update}
use Rattle.std.specs.Str.{bytes_eq}
use Rattle.blob_file.specs.File.{body_now, named}
use Rattle.blob_file.specs.Format.{recovered}
use Rattle.blob_file.specs.Rows.{AreWhole, blobs_in, key_given, named_in, names_in, nowhere, placed, places_in, row_bytes, row_of, told}
use Rattle.blob_file.specs.declared.rows.Row.{Row}
use Rattle.blob_file.proofs.Settling.{named_names, named_places, named_rows, row_back}
use Rattle.blob_file.proofs.Standing.{has_blob, stand_named}
use Rattle.blob_file.proofs.file.BlobFile.set_root.Goals as goal

pub returns-clause-settled : goal.returns-clause-settled
returns-clause-settled g c =
    let s = c.requires.settled in
    let it = c.args.self.now in
    let r = c.in-Some-make_name_row.row in
    let is : r ≡ record { key = c.in-Some.wanted; children = 4294967295; bytes = length c.args.name.now } = c.in-Some-make_name_row.ensures.1 in
    let mark : r.children ≡ 4294967295 = ap (λ (x : Row). x.children) is in
    let size : r.bytes ≡ length c.args.name.now = ap (λ (x : Row). x.bytes) is in
    let back : row_of (row_bytes r) ≡ r = row_back r (omega arith) (omega arith) (omega arith) in
    let done = c.in_ok-hold_name.ensures in
    record {
      open_log = s.open_log;
      held = subst (AreWhole (length it.bodies.items)) (sym done.rows)
          (named_rows (length it.bodies.items) it.rows.items c.args.name.now r s.held back mark size c.utf8.name);
      places = λ whole clean key.
          s.places whole clean key
          ∙ sym (named_places (it.log.gate + 25) (length it.bodies.items) it.rows.items c.args.name.now r
          (places_in 16 (recovered (g.D.Disk.seen it.log.disk)) nowhere) key s.held back mark size)
          ∙ ap (λ (l : List ℕ). placed (it.log.gate + 25) (blobs_in l) (places_in 16 (recovered (g.D.Disk.seen it.log.disk)) nowhere) key) (sym done.rows);
      names = λ whole clean name.
          named_names (length it.bodies.items) it.rows.items c.args.name.now r (named it) _
          (named_in (recovered (g.D.Disk.seen it.log.disk))) s.held back mark size done.named (s.names whole clean) name
          ∙ ap (λ (l : List ℕ). told (names_in l) (named_in (recovered (g.D.Disk.seen it.log.disk))) name) (sym done.rows);
    }

pub returns-clause-stand : goal.returns-clause-stand
returns-clause-stand g c stand =
    let it = c.args.self.now in
    let key : key_given c.in-Some-make_name_row.row.key ≡ c.args.key = ap (λ (x : Row). key_given x.key) c.in-Some-make_name_row.ensures.1
    ∙ c.in-Some.ensures.given in
    stand_named _ _ (named it) _ c.args.name.now c.args.key (λ k. refl)
    (has_blob (body_now g.D.Disk it) (get nat_eq it.index.places) c.args.key c.in-Some.ensures.stands)
    (λ q. c.in_ok-hold_name.ensures.named q ∙ ap (λ (k : Option ℕ). update bytes_eq (named it) c.args.name.now k q) key) stand
