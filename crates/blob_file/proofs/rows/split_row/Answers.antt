use Rattle.std.proofs.Common.{◌≡◌, ◌∙◌, sym, ap, ◌+◌, take, drop, drop-drop, arith}
use Rattle.std.proofs.lemmas.List.{drop-take}
use Rattle.blob_file.specs.Rows.{row_len, row_of}
use Rattle.blob_file.proofs.Indexes.{row_of_front}
use Rattle.blob_file.proofs.RowCuts.{row_len-is, row_len-least}
use Rattle.blob_file.proofs.rows.split_row.Goals as goal

pub returns-then-rows-lt-ROW-clause-short : goal.returns-then-rows-lt-ROW-clause-short
returns-then-rows-lt-ROW-clause-short c = omega (arith, row_len-least c.args.rows.now)

pub returns-then-rest-len-clause-short : goal.returns-then-rest-len-clause-short
returns-then-rest-len-clause-short c =
    let row : row_of c.args.rows.now ≡ c.read_row-row.result = sym (c.read_row-row.ensures ∙ ap row_of c.split_at.ensures.front
    ∙ row_of_front c.args.rows.now) in
    omega (arith, row_len-is _ _ row, c.name_len-len.ensures)

pub returns-clause-row : goal.returns-clause-row
returns-clause-row c = c.read_row-row.ensures ∙ ap row_of c.split_at.ensures.front ∙ row_of_front c.args.rows.now

pub returns-clause-whole : goal.returns-clause-whole
returns-clause-whole c =
    let row : row_of c.args.rows.now ≡ c.read_row-row.result = sym (returns-clause-row c) in
    omega (arith, row_len-is _ _ row, c.name_len-len.ensures)

pub returns-clause-name : goal.returns-clause-name
returns-clause-name c =
    let row : row_of c.args.rows.now ≡ c.read_row-row.result = sym (returns-clause-row c) in
    let len : row_len c.args.rows.now ≡ 24 + c.name_len-len.result = omega (arith, row_len-is _ _ row, c.name_len-len.ensures) in
    c.split_at-2.ensures.front ∙ ap (take c.name_len-len.result) c.split_at.ensures.back
    ∙ sym (drop-take 24 c.name_len-len.result c.args.rows.now) ∙ ap (λ k. drop 24 (take k c.args.rows.now)) (sym len)

pub returns-clause-behind : goal.returns-clause-behind
returns-clause-behind c =
    let row : row_of c.args.rows.now ≡ c.read_row-row.result = sym (returns-clause-row c) in
    let len : row_len c.args.rows.now ≡ 24 + c.name_len-len.result = omega (arith, row_len-is _ _ row, c.name_len-len.ensures) in
    c.split_at-2.ensures.back ∙ ap (drop c.name_len-len.result) c.split_at.ensures.back
    ∙ drop-drop c.name_len-len.result 24 c.args.rows.now ∙ ap (λ k. drop k c.args.rows.now) (sym len)
