use Rattle.pagable_tables.proofs.{
  CascadeEnd.{drops-still, drops-then, regiven},
  CascadeStep.{aside, entry-apart},
  OwnedByLoad.{given-plain, one-past, onto},
  Words.{None, arith, basics, contains_row, inl, inr, passes_in, refl, [], ◌∙◌},
}
use Rattle.pagable_tables.proofs.release.release_owned.Goals as goal

pub loop-at-init : goal.loop-at-init
loop-at-init g c = (
  aside _ None [] _ c.requires.steady,
  omega arith,
  λ before u w loads f few between.
      regiven f (λ r e. grind (basics, between r))
      (λ r e. absurd (cc)),
  drops-still _ _ c.requires.steady,
  λ none. refl,
)

pub loop-at-preserved : goal.loop-at-preserved
loop-at-preserved g c =
    let i = c.loop-at.invariant in
    let x = c.in-Some.at.row in
    let b = c.in-Some.ensures.last.between in (
      c.release_at.ensures.steady,
      omega arith,
      λ before u w loads f few between.
          one-past before u w _ _ (λ is. (c.requires.listed is).0) _ (λ q e. (between q e).0) _ _
          _ x b.0.0 b.1 c.in-Some.ensures.last.found (c.in-Some.ensures.last.contains w loads)
          (λ q in-reach above below. c.in-Some.ensures.last.last w q loads in-reach above below)
          (λ given s. c.release_at.ensures.so_far before u given s (omega arith)
          (elim (given-plain w _ x.owner x.node (c.in-Some.ensures.last.contains w loads)) [
            | inl free ↦ inl free
            | inr is ↦ let l = c.requires.listed is in inr (entry-apart s l.0 _ (i.4 l.0 ∙ l.1))
          ])) (i.2 before u w loads f few between),
      drops-then i.3 c.release_at.ensures.drops,
      λ none. c.release_at.ensures.unlisting none ∙ i.4 none,
    )

pub returns-clause-falls : goal.returns-clause-falls
returns-clause-falls g c before u w loads f few between =
    c.finish_cascade.ensures.falls before u _ (onto before u w c.args.lists c.args.giving (λ is. (c.requires.listed is).0) c.args.reach
    (λ q e. (between q e).0) c.loop-at.t c.loop-at.left
    (passes_in (contains_row w c.args.giving) u.rows) (λ r e. e) (λ r e. grind basics)
    (λ r e below. c.in_default.ensures.none w r loads (between r e).0 below)
    (c.loop-at.invariant.2 before u w loads f few between))
