use Rattle.pagable_tables.proofs.{CascadeEnd.{ended, lasts-on, none-falls, steps-on}, Words.{arith, basics, counts_at, is_node, ◌∙◌}}

pub finish_cascade-preserved : Rattle.pagable_tables.proofs.cascade.cascade.Goals.finish_cascade-preserved
finish_cascade-preserved g c =
    let i = c.finish_cascade.invariant.0 in
    let s = c.step_cascade-done.ensures i.0 i.1 in
    let so-far = c.finish_cascade.invariant.3 in (
      (s.rest, s.falling, omega arith),
      λ before w given f. steps-on
          (c.finish_cascade.invariant.1 before w given f) i.1
          c.finish_cascade-test.true s,
      λ kept n. lasts-on (is_node c.step_cascade-done.result n) (counts_at c.finish_cascade.t.nodes n)
          (counts_at c.step_cascade-done.new.t.nodes n) _ _ _ (c.drop_value.ensures n) (λ other. s.values n (λ eq. absurd (grind basics)))
          (λ is. grind (basics, s.gone)) (c.finish_cascade.invariant.2 kept n),
      omega arith,
      λ none. s.unlisting none ∙ c.finish_cascade.invariant.4 none,
    )

pub returns-clause-falls : Rattle.pagable_tables.proofs.cascade.cascade.Goals.returns-clause-falls
returns-clause-falls g c before w given so-far =
    ended (c.finish_cascade.invariant.1 before w given so-far)
    (none-falls _ _ c.finish_cascade.invariant.0.1 (omega arith))
