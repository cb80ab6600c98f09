use Rattle.pagable_pageout.proofs.{
  ItemLast.refused-ends,
  Joint.{both-each, both-first},
  Nodes.{node-left, node-refused, node-way},
  Strides.{ends-as, leads-waiting},
  Words.{EndsWithItem, acts_map, arc_value, arith, keys_of, no_shelf, refl, subst, to_publish, todos, todos_after, waits_as, work_left, written_of, ◌∷◌},
}
use Rattle.pagable_pageout.proofs.stride.store_and_publish_node.Goals as goal

pub store_node-requires-clause-all : goal.store_node-requires-clause-all
store_node-requires-clause-all g c = (node-way c.args.waiting (todos c.args.path.now.items) c.requires.node c.requires.way).0

pub publish-requires : goal.publish-requires
publish-requires g c =
    let way = node-way c.args.waiting (todos c.args.path.now.items) c.requires.node c.requires.way in
    rw (c.in-Ok.ensures.reference, c.in-Ok.ensures.height) (c.args.node.place, way.1, way.2)

pub returns-in-Ok-clause-ends : goal.returns-in-Ok-clause-ends
returns-in-Ok-clause-ends g c =
    let w = c.args.waiting in
    ends-as (λ x h. subst (λ o. EndsWithItem x (waits_as o (written_of (arc_value w.written)) (keys_of w.children.items) ∷ todos c.args.path.now.items))
    c.requires.node h) c.publish.ensures.ends

pub returns-in-Ok-clause-goes : goal.returns-in-Ok-clause-goes
returns-in-Ok-clause-goes g c =
    let w = c.args.waiting in
    let d = c.in-Ok.done in
    record {
      way = c.publish.ensures.goes.way;
      leads = leads-waiting c.publish.result w.node (written_of (arc_value w.written)) (keys_of w.children.items) (todos c.args.path.now.items)
          (todos_after c.publish.result c.publish.new.path.items) (work_left (to_publish d.reference d.found.key d.found.height ∷ todos c.args.path.now.items))
          (omega arith) c.publish.ensures.goes.leads;
    }

pub returns-in-Ok-clause-acts : goal.returns-in-Ok-clause-acts
returns-in-Ok-clause-acts g c =
    let says = c.in-Ok.ensures in
    both-each c.in-Ok.ensures.acts c.publish.ensures.table
    (λ s s' x y left same. node-left c.args.path.now.items c.args.waiting c.requires.way c.requires.node c.in-Ok.done says.reference refl says.height
    c.publish.ensures.hands left same)

pub returns-in-Err-clause-acts : goal.returns-in-Err-clause-acts
returns-in-Err-clause-acts g c =
    both-first (λ q. acts_map c.in-Err.ensures.acts (λ s t left. node-refused c.args.path.now.items c.args.waiting c.requires.way
    c.requires.node refl c.fail_with.ensures.plain c.fail_with.ensures.todo left)) no_shelf

pub returns-in-Err-clause-ends : goal.returns-in-Err-clause-ends
returns-in-Err-clause-ends g c = refused-ends c.fail_with.ensures.todo
