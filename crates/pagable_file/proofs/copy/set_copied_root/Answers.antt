use Rattle.pagable_file.proofs.Copying.{others_stay}
use Rattle.std.proofs.Common.{rules, sym, ◌∙◌}
use Rattle.pagable_file.proofs.copy.set_copied_root.Goals as goal

pub returns-clause-others : goal.returns-clause-others
returns-clause-others g c honest wanted is q m =
    others_stay c.args.copied.now wanted (g.T.PagableStorage.roots c.args.to.now) (g.T.PagableStorage.roots c.set_root.new.self) c.args.name.now c.in-Some.root
    (sym c.in-Some.is ∙ is) (search rules) (c.in_ok-set_root.ensures.sets honest) q m
