use Rattle.pagable_traits.proofs.{Items.{writes-next, writes_no_items}, JsonSteps.{wrote-is, wrote-more, wrote-nothing, wrote-then-err}}
use Rattle.pagable_traits.proofs.impls.collecting.write_each.Goals as goal

pub loop-item-init : goal.loop-item-init
loop-item-init g c = wrote-nothing (writes_no_items _ _ _ _)

pub loop-item-preserved : goal.loop-item-preserved
loop-item-preserved g c =
    let i = c.loop-item.invariant in
    wrote-more i (rw i.same_env at c.in_ok-pagable_serialize.ensures) (λ n old mid new v w. writes-next _ _ _ n _ old mid new v w)

pub returns-in_err-pagable_serialize : goal.returns-in_err-pagable_serialize
returns-in_err-pagable_serialize g c =
    let i = c.loop-item.invariant in
    let by = rw c.into_iter-item-iterator.ensures.into_iter_gives at c.loop-item.yielded_by in
    wrote-then-err c.from_residual.ensures.1 i (rw i.same_env at c.in_err-pagable_serialize.ensures)
    (λ n old mid v l h. record {
      before = c.loop-item.yielded;
      x = c.in-Some.item;
      after = c.next.new.self;
      yields = (c.loop-item.item-iterator, by, c.in-Some.ensures.steps);
      refused = l;
    }) (λ h. h)

pub returns : goal.returns
returns g c =
    let by = rw c.into_iter-item-iterator.ensures.into_iter_gives at c.loop-item.yielded_by in
    wrote-is c.loop-item.invariant
    (λ n old new v. record { xs = c.loop-item.yielded; all = (c.next.new.self, (c.loop-item.item-iterator, by, c.in-None.ensures.steps)); wrote = v })
