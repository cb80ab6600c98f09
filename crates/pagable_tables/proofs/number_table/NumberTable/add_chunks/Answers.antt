use Rattle.pagable_tables.proofs.ListPlaces.{more}
use Rattle.pagable_tables.specs.NumberTable.{place_at, row_by}
use Rattle.std.proofs.{Common.{List, Option, ap, arith, rules, [], ◌%◌, ◌/◌, ◌∙◌, ◌≡◌}, lemmas.List.take_all}
use Rattle.std.specs.{Global.Vec, Option.option_and_then, Prelude.slice_get}
use Rattle.pagable_tables.proofs.number_table.NumberTable.add_chunks.Goals as goal

pub returns-in_ok-resize_with-clause-rows : goal.returns-in_ok-resize_with-clause-rows
unfolding place_at row_by
returns-in_ok-resize_with-clause-rows g c n =
    let (ys, last, is, folds) = c.in_ok-resize_with.ensures.items in
    let old = c.args.self.now.chunks.items in
    let same = more (λ rows. slice_get rows.items (n % 256)) _ ys _ last folds (λ f g x called. let empty : x.items ≡ [] = search rules in
    ap (λ l. slice_get l (n % 256)) empty) (n / 256) in
    let place : List (Vec (Option g.row.T.Denot)) → Option (Option g.row.T.Denot) =
    λ l. option_and_then (λ rows. slice_get rows.items (n % 256)) (slice_get l (n / 256)) in
    ap (option_and_then (λ row. row)) (ap place is ∙ same ∙ ap place (take_all c.args.many old (omega arith)))
