use Rattle.pagable_calls.specs.PageOuts.{clone-is-refused, clone-is-unlisted, clone-stays-pinned, clone-waits}
use Rattle.pagable_tables.proofs.SameViews.{failed}
use Rattle.pagable_calls.proofs.cell_page_out.list_clone.Goals as goal

pub returns-in_err-clone : goal.returns-in_err-clone
returns-in_err-clone g c = rw (failed c.from_residual.result c.from_residual.ensures.1) (clone-is-refused _ _ c.in_err-clone.ensures)

pub returns-in-Err : goal.returns-in-Err
returns-in-Err g c = clone-stays-pinned c.in_ok-clone.clone c.in-Err.e c.release-told.result _ _ _
    (record { mid = c.clone.new.self; told = c.into_pagable-loosened.result; clones = c.in_ok-clone.ensures; loosens = c.into_pagable-loosened.ensures })
    c.in-Err.ensures c.release-told.ensures

pub returns-in-Ok-schedule_for_paging : goal.returns-in-Ok-schedule_for_paging
returns-in-Ok-schedule_for_paging g c = clone-waits c.in_ok-clone.clone _ _ _
    (record { mid = c.clone.new.self; told = c.into_pagable-loosened.result; clones = c.in_ok-clone.ensures; loosens = c.into_pagable-loosened.ensures })
    c.in-Ok.ensures c.in-Ok-schedule_for_paging.ensures

pub returns-in-Err-schedule_for_paging : goal.returns-in-Err-schedule_for_paging
returns-in-Err-schedule_for_paging g c = clone-is-unlisted c.in_ok-clone.clone c.in-Err-schedule_for_paging.e c.release-told-in-Err-schedule_for_paging.result _
    _ _ _
    (record { mid = c.clone.new.self; told = c.into_pagable-loosened.result; clones = c.in_ok-clone.ensures; loosens = c.into_pagable-loosened.ensures })
    c.in-Ok.ensures c.in-Err-schedule_for_paging.ensures c.release-told-in-Err-schedule_for_paging.ensures
