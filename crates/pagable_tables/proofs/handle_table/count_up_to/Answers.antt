use Rattle.pagable_tables.proofs.Words.{basics, cases_eq}
use Rattle.std.proofs.{Common.{leb, leb-false, leb-true, rules}, lemmas.List.Sorted.{IsPartitionPoint-from_clause, IsPartitionedBy-leb}}

pub returns-clause-point : Rattle.pagable_tables.proofs.handle_table.count_up_to.Goals.returns-clause-point
returns-clause-point c =
    let parted = IsPartitionedBy-leb (λ p. p.row.number.0) _ c.args.number
    (λ i j d le lt. grind (basics, cases_eq i j, c.requires i j d)) in
    let point = IsPartitionPoint-from_clause (λ p. leb p.row.number.0 c.args.number) _ _ c.partition_point.ensures.partitioned parted
    (λ a r q k. search rules) in
    (λ k d low high. leb-true _ _ (point.0 k d low high), λ k d low high. leb-false _ _ (point.1 k d low high))
