use Rattle.pagable_pageout.proofs.{Nodes.{node-leaves, node-low, node-stands}, Words.acts_map}
use Rattle.pagable_pageout.proofs.turns.store_node.Goals as goal

pub make_done-requires-clause-low : goal.make_done-requires-clause-low
make_done-requires-clause-low g c = node-low c.args.waiting c.requires.all c.args.node c.requires.node

pub make_done-requires-clause-stands : goal.make_done-requires-clause-stands
make_done-requires-clause-stands g c = node-stands c.args.waiting c.requires.all c.args.node c.requires.node c.in-Ok.key
    (rw c.in_ok-blob.ensures.blob at c.in-Ok.ensures.key)

pub returns-in-Ok-clause-acts : goal.returns-in-Ok-clause-acts
returns-in-Ok-clause-acts g c =
    rw c.make_done.ensures.key (acts_map (rw (c.loose_handle_of.ensures, c.in_ok-blob.ensures.blob) at c.in-Ok.ensures.acts) node-leaves)

pub returns-clause-acts : goal.returns-clause-acts
returns-clause-acts g c =
    acts_map (rw (c.loose_handle_of.ensures, c.in_ok-blob.ensures.blob) at c.in-Err.ensures.acts) node-leaves
