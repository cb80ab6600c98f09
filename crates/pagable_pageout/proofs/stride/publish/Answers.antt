use Rattle.pagable_pageout.proofs.{ItemLast.{alone-ends, given-ends}, Strides.ends-as, Words.refl}
use Rattle.pagable_pageout.proofs.stride.publish.Goals as goal

pub returns-in-Ok-clause-hands : goal.returns-in-Ok-clause-hands
returns-in-Ok-clause-hands g c = (c.in-Ok.ensures.gives, c.in-Ok.ensures.plain)

pub returns-in-Err-clause-hands : goal.returns-in-Err-clause-hands
returns-in-Err-clause-hands g c = (rw (c.key.ensures, c.in-Err.ensures.back) refl, c.in-Err.ensures.none.0, refl)

pub returns-in-Ok-clause-ends : goal.returns-in-Ok-clause-ends
returns-in-Ok-clause-ends g c = ends-as (λ w h. h) (given-ends c.in-Ok.ensures.gives)

pub returns-in-Err-clause-ends : goal.returns-in-Err-clause-ends
returns-in-Err-clause-ends g c = ends-as (λ w h. h)
    (alone-ends {r = c.args.done.reference} {key = c.args.done.found.key} {height = c.args.done.found.height} c.in-Err.ensures.none.0)
