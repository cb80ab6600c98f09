use Rattle.pagable_tables.proofs.{
  OwnedByLoad.does-so,
  SameViews.forgets-gone,
  Views.alike-goes,
  Words.{Counts, NodeNumber, None, Option, Some, ap, basics, cached_at, counts_at, if_there, if◌then◌else◌, is_some, option_map, refl, ℕ, ◌∙◌, ◌≡◌},
}
use Rattle.pagable_tables.specs.Nodes.{cell_in, living}
use Rattle.pagable_tables.proofs.cache.forget_gone.Goals as goal

abbrev number : Option NodeNumber → Option ℕ
number o = option_map (λ n. n.0) o

left : (at : ℕ → Option Counts) (known : Option NodeNumber) → number (living at known)
    ≡ if_there (λ n. if is_some (cell_in (at n)) then Some n else None) None (number known)
left at known = grind basics

pub returns-clause-does : goal.returns-clause-does
returns-clause-does c =
    let t = c.args.t.now in
    let known = λ (kind key : ℕ). number (cached_at c.keep_living.new.cache kind key) in
    let is = λ (kind key : ℕ). ap number (c.keep_living.ensures kind key) ∙ left (counts_at t.ref_counts.nodes) (cached_at t.cache kind key) in
    does-so (λ storage. forgets-gone _ known is) c.requires.steady (alike-goes c.requires.core) refl refl refl
