use Rattle.pagable_tables.proofs.ListPlaces.{more, within}
use Rattle.pagable_tables.specs.NumberTable.{row_in}
use Rattle.std.proofs.{Common.{ap, arith, rules, ◌∙◌}, lemmas.List.take_all}
use Rattle.pagable_tables.proofs.number_table.add_places.Goals as goal

pub returns-in_ok-resize_with-clause-rows : goal.returns-in_ok-resize_with-clause-rows
returns-in_ok-resize_with-clause-rows g c p =
    let (ys, last, is, folds) = c.in_ok-resize_with.ensures.items in
    ap (λ l. row_in l p) is ∙ more (λ row. row) _ ys _ last folds (λ f g x called. search rules) p ∙ ap (λ l. row_in l p) (take_all _ _ (omega arith))

pub returns-else-len-many-clause-there : goal.returns-else-len-many-clause-there
returns-else-len-many-clause-there g c p h = within _ p (omega arith)
