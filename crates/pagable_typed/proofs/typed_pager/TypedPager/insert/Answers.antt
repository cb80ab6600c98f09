use Rattle.pagable_typed.specs.Typed.{
  insert-is-refused,
  node-is-of-another-type,
  value-has-no-room,
  value-is-inserted,
}
use Rattle.pagable_typed.proofs.typed_pager.TypedPager.insert.Goals as goal

pub returns-in-Err : goal.returns-in-Err
returns-in-Err g c = value-has-no-room _ _ c.in-Err.ensures.only c.in-Err.ensures.back

pub returns-in-Err-insert : goal.returns-in-Err-insert
returns-in-Err-insert g c = insert-is-refused _ c.in-Err-insert.refused _ _
    (rw c.in-Ok.ensures.shared at c.into_node.ensures) c.in-Err-insert.ensures c.given_back.ensures

pub returns-in-Ok-loose : goal.returns-in-Ok-loose
returns-in-Ok-loose g c = value-is-inserted _ c.in-Ok-insert.handle _ _ (rw c.in-Ok.ensures.shared at c.into_node.ensures)
    c.in-Ok-insert.ensures c.in-Ok-loose.ensures.named

pub returns-in-Err-loose : goal.returns-in-Err-loose
returns-in-Err-loose g c = node-is-of-another-type _ c.in-Ok-insert.handle _ _
    (rw c.in-Ok.ensures.shared at c.into_node.ensures) c.in-Ok-insert.ensures c.in-Err-loose.ensures.refused
