use Rattle.pagable_load.proofs.LoadSteps.{acts_all, acts_map, acts_then}
use Rattle.pagable_pager.proofs.TakenLeaves.{acts-three, keys-next, stored-more}
use Rattle.pagable_pager.specs.TakenLeaves.{none-stored}
use Rattle.std.proofs.{Common.{ap, arith, inl, inr, length, refl, rules, sym, ◌∙◌}, lemmas.List.{nil_from_length}}
use Rattle.pagable_pager.proofs.lent.Lent.finish_leaves.Goals as goal

pub loop-leaf-init : goal.loop-leaf-init
loop-leaf-init g c = (
  rw c.into_iter-blobs.ensures.rest (acts_all (λ s. none-stored)),
  rw (c.into_iter-blobs.ensures.rest, c.into_iter-keys.ensures.rest) c.requires,
  rw c.into_iter-blobs.ensures.rest (search rules),
)

pub returns-in_default-next : goal.returns-in_default-next
returns-in_default-next g c = acts_then c.loop-leaf.invariant.0 c.put_back.ensures (λ s mid t stored back. record {
  leaves = c.loop-leaf.left.now;
  rest = _;
  mid = mid;
  stored = stored;
  ended = inr (nil_from_length _ (sym c.loop-leaf.invariant.2 ∙ c.in_default-next.ensures.cases.0));
  back = back;
})

pub returns-in-Err : goal.returns-in-Err
returns-in-Err g c = acts-three c.loop-leaf.invariant.0 c.store_leaf.ensures c.put_back-in-Err.ensures
    (λ s mid failed t before fails back. record {
      leaf = c.in-Some.leaf.now;
      leaves = c.in-Some.rest.now;
      blob = c.in-Some-next.blob;
      rest = _;
      mid = mid;
      failed = failed;
      stored = rw (c.in-Some.ensures.cases.0, c.in-Some-next.ensures.items) at before;
      fails = rw c.in-Err.is at fails;
      back = rw c.in-Some.ensures.cases.0 at back;
    })

pub loop-leaf-preserved : goal.loop-leaf-preserved
loop-leaf-preserved g c = (
  acts_then c.loop-leaf.invariant.0 c.store_leaf.ensures (λ s mid t before stores.
      stored-more c.in-Some.leaf.now c.in-Some-next.blob c.in-Some.ensures.cases.0 c.in-Some-next.ensures.items before
      (rw c.in_default-store_leaf.is at stores)),
  keys-next _ c.loop-leaf.invariant.1 c.in-Some-next.ensures.items c.in-Some-next-2.ensures.items,
  omega (arith, c.loop-leaf.invariant.2, c.in-Some-next.ensures.cases.1, ap length c.in-Some-next.ensures.items),
)

pub returns : goal.returns
returns g c =
    let none = nil_from_length c.loop-leaf.left.now c.in_default.ensures.cases in
    acts_map c.loop-leaf.invariant.0 (λ s t stored. record {
      leaves = c.loop-leaf.left.now;
      rest = _;
      mid = t;
      stored = stored;
      ended = inl none;
      back = rw none refl;
    })
