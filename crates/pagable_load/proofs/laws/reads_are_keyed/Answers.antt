use Rattle.pagable_load.proofs.Keyed.{leaves_are_right, trees_are_right}
use Rattle.pagable_load.proofs.laws.reads_are_keyed.Goals as goal

pub returns-clause-leaves : goal.returns-clause-leaves
returns-clause-leaves g c = leaves_are_right g.N.SeenAs.seen.values

pub returns-clause-trees : goal.returns-clause-trees
returns-clause-trees g c = trees_are_right g.N.SeenAs.seen.values
