use Rattle.pagable_tables.proofs.{HandleTable.take-dead, Words.{ap, arith, false, get_or, live, suc, sym, take, ◌-◌, ◌∙◌, ◌≡◌, basics}}

pub loop-end-preserved : Rattle.pagable_tables.proofs.handle_table.remove_dead_rows.Goals.loop-end-preserved
loop-end-preserved c =
    let places = c.args.handles.now.places.items in
    let end = c.loop-end.end - 1 in
    let is : c.loop-end.end ≡ suc end = omega arith in
    let lives : (get_or places end c.index.result.now).is_live ≡ false = grind (basics, c.index.ensures, c.is_live.ensures, c.if-not-is_live.true) in
    record {
      within = omega arith;
      rows = sym (take-dead places end _ (omega arith) lives) ∙ ap (λ n. live (take n places)) (sym is)
          ∙ c.loop-end.invariant.rows;
    }
