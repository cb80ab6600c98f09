use Rattle.std.proofs.Common.{ap, append-nil, arith, length, length-drop, map, sym, ◌++◌, ◌∙◌}
use Rattle.std.proofs.lemmas.Bool.Decides.{nat_tests}
use Rattle.std.proofs.lemmas.List.{nil_from_length}
use Rattle.blob_file.specs.{History.said_by, Rows.{is_name, names_in, row_len}}
use Rattle.blob_file.proofs.{Histories.{names_nothing, told_next}, RowCuts.row_len-least}
use Rattle.blob_file.proofs.history.push_names.Goals as goal

pub loop-rest-smaller : goal.loop-rest-smaller
loop-rest-smaller c =
    omega (
      arith,
      ap length c.in-Some.ensures.behind,
      length-drop (row_len c.loop-rest.rest.now) c.loop-rest.rest.now,
      row_len-least c.loop-rest.rest.now,
      c.in-Some.ensures.whole,
    )

pub loop-rest-preserved : goal.loop-rest-preserved
loop-rest-preserved c =
    told_next (map said_by c.loop-rest.told.items) (map said_by c.push_name.new.told.items) _ c.loop-rest.rest.now c.in-Some.name.now c.in-Some.behind.now
    (is_name c.in-Some.row) c.in-Some.row.key c.in-Some.ensures.whole (ap is_name c.in-Some.ensures.row) (ap (λ r. r.key) c.in-Some.ensures.row)
    c.in-Some.ensures.name c.in-Some.ensures.behind c.in_ok-push_name.ensures.told c.loop-rest.invariant

pub returns : goal.returns
returns c =
    let none = nil_from_length c.loop-rest.rest.now (grind (arith, nat_tests)) in
    record {
      told = sym (append-nil (map said_by c.loop-rest.told.items))
          ∙ ap (λ l. map said_by c.loop-rest.told.items ++ l) (sym (ap names_in none ∙ names_nothing)) ∙ c.loop-rest.invariant;
    }
