use Rattle.std.proofs.Common.{◌≡◌, ◌∙◌, sym, ap, ap₂, subst, ℕ, ◌-◌, List, length, take, length-drop, Some, nat_eq}
use Rattle.std.proofs.Common.{arith}
use Rattle.std.specs.HashMap.{get, get_by_text}
use Rattle.std.specs.Map.{update}
use Rattle.std.specs.Str.{IsUtf8, bytes_eq}
use Rattle.blob_file.specs.Rows.{is_name, key_given, place_at, row_len, row_of, size_of_row, AreWhole}
use Rattle.blob_file.specs.declared.rows.Row.{Row}
use Rattle.blob_file.proofs.Failures.{fails_for_err}
use Rattle.blob_file.proofs.RowCuts.{first_row, first_row_of, not_short, placed_blob, placed_name, row_len-least, size_of_first, text_of_first, told_blob}
use Rattle.blob_file.proofs.RowCuts.{told_name, whole_blob, whole_name}
use Rattle.blob_file.proofs.index.take_row.Goals as goal

pub returns-in_default-clause-refused : goal.returns-in_default-clause-refused
returns-in_default-clause-refused c all = not_short _ _ c.requires.some c.in_default.ensures.short all

pub returns-in_err-take_name-clause-refused : goal.returns-in_err-take_name-clause-refused
returns-in_err-take_name-clause-refused c =
    let name = ap is_name (sym c.in-Some.ensures.row) ∙ sym c.is_name.ensures ∙ c.if-is_name.true in
    fails_for_err c.from_residual.result _ c.from_residual.ensures.1 c.in_err-take_name.ensures.refused
    (λ not_text all. not_text (subst IsUtf8 (sym c.in-Some.ensures.name) (text_of_first _ _ c.in-Some.ensures.whole name all)))
    (λ bad. bad)

pub returns-then-is_name-clause-learns : goal.returns-then-is_name-clause-learns
returns-then-is_name-clause-learns c =
    let b = c.args.rows.now in
    let is = first_row b c.in-Some.ensures.whole in
    let row : row_of (take (row_len b) b) ≡ c.in-Some.row = first_row_of b c.in-Some.ensures.whole ∙ sym c.in-Some.ensures.row in
    let name = ap is_name row ∙ sym c.is_name.ensures ∙ c.if-is_name.true in
    record {
      places = λ q. sym (placed_name c.args.at (take (row_len b) b) (get nat_eq c.args.index.now.places) q is name);
      names = λ q.
          c.in_ok-take_name.ensures.named q
          ∙ ap₂ (λ (k : List ℕ) (r : Row). update bytes_eq (get_by_text c.args.index.now.names) k (key_given r.key) q) c.in-Some.ensures.name (sym row)
          ∙ sym (told_name (take (row_len b) b) (get_by_text c.args.index.now.names) q is name);
    }

pub returns-then-is_name-clause-whole : goal.returns-then-is_name-clause-whole
returns-then-is_name-clause-whole c =
    let b = c.args.rows.now in
    let row : row_of (take (row_len b) b) ≡ c.in-Some.row = first_row_of b c.in-Some.ensures.whole ∙ sym c.in-Some.ensures.row in
    let name = ap is_name row ∙ sym c.is_name.ensures ∙ c.if-is_name.true in
    let none : 0 ≡ c.args.left - c.args.left = omega arith in
    subst (λ (n : ℕ). AreWhole n (take (row_len b) b)) none
    (whole_name _ (first_row b c.in-Some.ensures.whole) name (subst IsUtf8 c.in-Some.ensures.name c.in_ok-take_name.ensures.text))

pub returns-then-is_name-clause-fewer : goal.returns-then-is_name-clause-fewer
returns-then-is_name-clause-fewer c =
    omega (arith, ap length c.in-Some.ensures.behind, length-drop (row_len c.args.rows.now) c.args.rows.now, row_len-least c.args.rows.now, c.requires.some)

pub returns-in_err-rest-clause-refused : goal.returns-in_err-rest-clause-refused
returns-in_err-rest-clause-refused c =
    let blob = ap is_name (sym c.in-Some.ensures.row) ∙ sym c.is_name.ensures ∙ c.if-is_name.false in
    fails_for_err c.from_residual-in_err-rest.result _ c.from_residual-in_err-rest.ensures.1 c.in_err-rest.ensures.refused
    (λ long all. absurd (omega (arith, long, size_of_first _ _ c.in-Some.ensures.whole blob all, ap size_of_row c.in-Some.ensures.row)))
    (λ bad. bad)

pub returns-clause-learns : goal.returns-clause-learns
returns-clause-learns c =
    let b = c.args.rows.now in
    let is = first_row b c.in-Some.ensures.whole in
    let row : row_of (take (row_len b) b) ≡ c.in-Some.row = first_row_of b c.in-Some.ensures.whole ∙ sym c.in-Some.ensures.row in
    let blob = ap is_name row ∙ sym c.is_name.ensures ∙ c.if-is_name.false in
    record {
      places = λ q.
          c.in_ok-rest.ensures.placed q
          ∙ ap (λ (r : Row). update nat_eq (get nat_eq c.args.index.now.places) r.key (Some (place_at c.args.at r)) q) (sym row)
          ∙ sym (placed_blob c.args.at (take (row_len b) b) (get nat_eq c.args.index.now.places) q is blob);
      names = λ q. sym (told_blob (take (row_len b) b) (get_by_text c.args.index.now.names) q is blob);
    }

pub returns-clause-whole : goal.returns-clause-whole
returns-clause-whole c =
    let b = c.args.rows.now in
    let row : row_of (take (row_len b) b) ≡ c.in-Some.row = first_row_of b c.in-Some.ensures.whole ∙ sym c.in-Some.ensures.row in
    let blob = ap is_name row ∙ sym c.is_name.ensures ∙ c.if-is_name.false in
    let size : size_of_row (row_of (take (row_len b) b)) ≡ c.args.left - c.in_ok-rest.rest = omega (arith, ap size_of_row row, c.in_ok-rest.ensures.left) in
    subst (λ (n : ℕ). AreWhole n (take (row_len b) b)) size (whole_blob _ (first_row b c.in-Some.ensures.whole) blob)

pub returns-clause-fewer : goal.returns-clause-fewer
returns-clause-fewer c =
    omega (arith, ap length c.in-Some.ensures.behind, length-drop (row_len c.args.rows.now) c.args.rows.now, row_len-least c.args.rows.now, c.requires.some)
