use Rattle.pagable_pageout.proofs.{Nodes.{node-low, node-stands, results-stand}, Words.{Task, keys_of, refl, ∥∥₁_map}}
use Rattle.pagable_pageout.proofs.turns.turn_after_store.Goals as goal

pub make_done-requires-clause-low : goal.make_done-requires-clause-low
make_done-requires-clause-low g c = node-low c.args.waiting c.requires.all c.in-Some.node c.in-Some.is

pub make_done-requires-clause-stands : goal.make_done-requires-clause-stands
make_done-requires-clause-stands g c = node-stands c.args.waiting c.requires.all c.in-Some.node c.in-Some.is c.args.key c.requires.key

pub returns-clause-follows : goal.returns-clause-follows
returns-clause-follows g c =
    let says = c.make_done.ensures in rw c.in-Some.is (
      Task.SetKey c.make_done.result c.in-Some.node.through,
      refl,
      rw (says.reference, says.key, says.height) refl,
      tt,
    )

pub returns-in_default-clause-over : goal.returns-in_default-clause-over
returns-in_default-clause-over g c =
    let w = c.args.waiting in ∥∥₁_map (results-stand w c.requires.all) (λ ts. record { keys = keys_of w.children.items; below = ts; key_is = c.requires.key })
