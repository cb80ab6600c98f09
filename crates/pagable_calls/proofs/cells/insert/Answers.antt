use Rattle.pagable_calls.specs.Cells.{birth-is-refused, cell-is-unlisted, cell-waits}
use Rattle.pagable_calls.proofs.cells.insert.Goals as goal

pub returns-in-Err : goal.returns-in-Err
returns-in-Err g c = birth-is-refused _ _ (record { step = c.in-Err.ensures.step; moves = c.in-Err.ensures.moves; storage = c.in-Err.ensures.storage })

pub returns-in-Ok-unpin : goal.returns-in-Ok-unpin
returns-in-Ok-unpin g c =
    cell-waits c.in-Ok.handle _ _ (record { step = c.in-Ok.ensures.step; moves = c.in-Ok.ensures.moves; storage = c.in-Ok.ensures.storage })
    c.in-Ok-unpin.ensures

pub returns-in-Err-unpin : goal.returns-in-Err-unpin
returns-in-Err-unpin g c =
    cell-is-unlisted c.in-Ok.handle c.in-Err-unpin.e _ _ (record {
      step = c.in-Ok.ensures.step;
      moves = c.in-Ok.ensures.moves;
      storage = c.in-Ok.ensures.storage;
    }) c.in-Err-unpin.ensures
