use Rattle.std.proofs.Common.{◌≡◌, sym, ◌∙◌, ap, ap₂, subst, ℕ, ◌+◌, ◌-◌, ◌*◌, List, ◌++◌, length, arith, Some, nat_eq}
use Rattle.std.specs.Prelude.{option_map}
use Rattle.std.specs.HashMap.{get}
use Rattle.std.specs.Map.{update}
use Rattle.blob_file.specs.File.{body_bytes}
use Rattle.blob_file.specs.Format.{recovered}
use Rattle.blob_file.specs.Rows.{AreWhole, nowhere, place_at, placed, blobs_in, named_in, names_in, told, places_in, row_bytes, row_of, size_of_row}
use Rattle.blob_file.specs.declared.rows.Place.{Place}
use Rattle.blob_file.specs.declared.rows.Row.{Row}
use Rattle.blob_file.proofs.Looks.{all_batches}
use Rattle.blob_file.proofs.Placing.{all_here}
use Rattle.blob_file.proofs.Reopens.{on_err_any}
use Rattle.blob_file.proofs.Settling.{added_names, added_places, added_rows, added_stored, body_of, row_back}
use Rattle.blob_file.proofs.file.BlobFile.add.Goals as goal

pub returns-clause-added : goal.returns-clause-added
returns-clause-added g c clean q =
    let s = c.requires.settled in
    let it = c.args.self.now in
    let r : Row = record { key = c.args.key; children = c.args.children; bytes = length c.args.body.now - 16 * c.args.children } in
    let is : c.in-Some.row ≡ r = c.in-Some.ensures.1 in
    let held : c.len.result ≡ length it.bodies.items = omega (arith, c.len.ensures) in
    let place : c.in-Some-next_place.place ≡ place_at (it.log.gate + 25 + length it.bodies.items) r = c.in-Some-next_place.ensures.1
    ∙ ap₂ (λ (k : ℕ) (x : Row). place_at (it.log.gate + 25 + k) x) held is in
    let size : size_of_row r ≡ length c.args.body.now = omega (arith, c.requires.children) in
    let updates : (k : ℕ) → get nat_eq c.hold.new.places k ≡ update nat_eq (get nat_eq it.index.places) r.key
    (Some (place_at (it.log.gate + 25 + length it.bodies.items) r)) k =
    λ k. c.in_ok-hold.ensures.places k ∙ ap₂ (λ (x : Row) (p : Place). update nat_eq (get nat_eq it.index.places) x.key (Some p) k) is place in
    ap (λ (b : List ℕ). option_map (body_of (body_bytes (g.D.Disk.seen it.log.disk) b (it.log.gate + 25)))
    (get nat_eq c.hold.new.places q)) c.in_ok-hold.ensures.bodies
    ∙ added_stored (g.D.Disk.seen it.log.disk) it.bodies.items c.args.body.now it.log.gate r (get nat_eq it.index.places) (get nat_eq c.hold.new.places)
    (λ k p found. all_here _ _ _ _ (s.open_log.place c.if-not-self.false clean) (all_batches (g.D.Disk.seen it.log.disk)) (s.open_log.formed c.if-not-self.false clean) s.held k p
    (sym (s.places c.if-not-self.false clean k) ∙ found)) size updates q

pub returns-clause-settled : goal.returns-clause-settled
returns-clause-settled g c =
    let s = c.requires.settled in
    let it = c.args.self.now in
    let r : Row = record { key = c.args.key; children = c.args.children; bytes = length c.args.body.now - 16 * c.args.children } in
    let is : c.in-Some.row ≡ r = c.in-Some.ensures.1 in
    let held : c.len.result ≡ length it.bodies.items = omega (arith, c.len.ensures) in
    let place : c.in-Some-next_place.place ≡ place_at (it.log.gate + 25 + length it.bodies.items) r = c.in-Some-next_place.ensures.1
    ∙ ap₂ (λ (k : ℕ) (x : Row). place_at (it.log.gate + 25 + k) x) held is in
    let size : size_of_row r ≡ length c.args.body.now = omega (arith, c.requires.children) in
    let back : row_of (row_bytes r) ≡ r = row_back r (omega arith) (omega arith) (omega (arith, c.in-Some.ensures.0)) in
    let rows : c.hold.new.rows.items ≡ it.rows.items ++ row_bytes r = c.in_ok-hold.ensures.rows ∙ ap (λ (x : Row). it.rows.items ++ row_bytes x) is in
    let updates : (k : ℕ) → get nat_eq c.hold.new.places k ≡ update nat_eq (get nat_eq it.index.places) r.key
    (Some (place_at (it.log.gate + 25 + length it.bodies.items) r)) k =
    λ k. c.in_ok-hold.ensures.places k ∙ ap₂ (λ (x : Row) (p : Place). update nat_eq (get nat_eq it.index.places) x.key (Some p) k) is place in
    record {
      open_log = s.open_log;
      held = subst (λ (l : List ℕ). AreWhole (length l) c.hold.new.rows.items) (sym c.in_ok-hold.ensures.bodies)
          (subst (AreWhole (length (it.bodies.items ++ c.args.body.now))) (sym rows)
          (added_rows it.bodies.items c.args.body.now it.rows.items r s.held back (omega (arith, c.in-Some.ensures.0)) size));
      places = λ whole clean q.
          added_places (it.log.gate + 25) it.bodies.items it.rows.items r (get nat_eq it.index.places) (get nat_eq c.hold.new.places)
          (places_in 16 (recovered (g.D.Disk.seen it.log.disk)) nowhere) s.held back (omega (arith, c.in-Some.ensures.0)) updates (s.places whole clean) q
          ∙ ap (λ (l : List ℕ). placed (it.log.gate + 25) (blobs_in l) (places_in 16 (recovered (g.D.Disk.seen it.log.disk)) nowhere) q) (sym rows);
      names = λ whole clean name.
          s.names whole clean name
          ∙ sym (added_names it.bodies.items it.rows.items r (named_in (recovered (g.D.Disk.seen it.log.disk))) name s.held back
          (omega (arith, c.in-Some.ensures.0)))
          ∙ ap (λ (l : List ℕ). told (names_in l) (named_in (recovered (g.D.Disk.seen it.log.disk))) name) (sym rows);
    }

pub returns-in_err-hold-clause-kept : goal.returns-in_err-hold-clause-kept
returns-in_err-hold-clause-kept g c =
    let it = c.args.self.now in
    on_err_any c.from_residual.result (λ key.
    ap (λ (b : List ℕ). option_map (body_of (body_bytes (g.D.Disk.seen it.log.disk) b (it.log.gate + 25)))
    (get nat_eq c.hold.new.places key)) c.in_err-hold.ensures.same_bodies
    ∙ ap (option_map (body_of (body_bytes (g.D.Disk.seen it.log.disk) it.bodies.items (it.log.gate + 25)))) (c.in_err-hold.ensures.same_places key))
