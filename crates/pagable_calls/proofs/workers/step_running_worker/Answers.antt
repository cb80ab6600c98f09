use Rattle.std.proofs.{Common.{arith, refl, rules, sym, ◌-◌, ◌∙◌, ◌≡◌}, lemmas.{List.length-set, Option.slice_get_read}}

pub returns : Rattle.pagable_calls.proofs.workers.step_running_worker.Goals.returns
returns g c =
    let ends : c.step_lent-moved.new.lent.pager.now ≡ c.pager-1.given.0 = sym
    (c.pager-1.given.1 (sym (c.step_lent-moved.ensures.lender ∙ c.for_worker-lent.ensures.lent))) in
    let count = length-set c.args.tables.now.items (c.args.walk.now.table - 1) c.step_lent-moved.new.table in
    record {
      walks = λ is. record {
        task = c.in-Goes.task;
        table = c.index_mut-table.result.now;
        table' = c.step_lent-moved.new.table;
        moved = c.step_lent-moved.result;
        place = c.args.walk.now.table - 1;
        had = search rules;
        on = omega (arith, c.requires.on_table.table);
        there = slice_get_read c.args.tables.now.items _ _ c.index_mut-table.result.now refl (omega (arith, c.requires.on_table.table))
            c.index_mut-table.ensures.value;
        sets = refl;
        steps = (rw ends at (rw c.for_worker-lent.ensures.same at c.step_lent-moved.ensures.step)) is;
        way = c.step_lent-moved.ensures.way;
        after = search rules;
        replies = search rules;
      };
      honest = rw ends at (rw c.for_worker-lent.ensures.same at c.step_lent-moved.ensures.honest);
      count = count;
      on_table = record { table = rw count c.requires.on_table.table; way = c.step_lent-moved.ensures.way };
    }
