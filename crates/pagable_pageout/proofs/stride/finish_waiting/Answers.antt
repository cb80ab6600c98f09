use Rattle.pagable_pageout.proofs.{Joint.both-first, Words.no_shelf}
use Rattle.pagable_pageout.proofs.stride.finish_waiting.Goals as goal

pub store_and_publish_node-requires-clause-node : goal.store_and_publish_node-requires-clause-node
store_and_publish_node-requires-clause-node g c = c.in-Some.is

pub returns-in-Some-clause-ends : goal.returns-in-Some-clause-ends
returns-in-Some-clause-ends g c = c.store_and_publish_node.ensures.ends

pub returns-in-Some-clause-goes : goal.returns-in-Some-clause-goes
returns-in-Some-clause-goes g c = c.store_and_publish_node.ensures.goes

pub returns-in-Some-clause-acts : goal.returns-in-Some-clause-acts
returns-in-Some-clause-acts g c = c.store_and_publish_node.ensures.acts

pub returns-in-None-clause-ends : goal.returns-in-None-clause-ends
returns-in-None-clause-ends g c = c.store_and_answer_item.ensures.ends

pub returns-in-None-clause-goes : goal.returns-in-None-clause-goes
returns-in-None-clause-goes g c = c.store_and_answer_item.ensures.goes

pub returns-in-None-clause-acts : goal.returns-in-None-clause-acts
returns-in-None-clause-acts g c = both-first (λ q. c.store_and_answer_item.ensures.acts c.args.worker.0 q) no_shelf
