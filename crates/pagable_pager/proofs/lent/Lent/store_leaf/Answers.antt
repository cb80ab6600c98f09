use Rattle.pagable_pager.proofs.TakenLeaves.{acts-three}
use Rattle.pagable_pager.proofs.lent.Lent.store_leaf.Goals as goal

pub returns : goal.returns
returns g c = acts-three c.in_ok-key.ensures.acts c.set_data_key-set.ensures c.release-released.ensures
    (λ s stored keyed t stores sets releases. record {
      key = c.in_ok-key.key;
      stored = stored;
      keyed = keyed;
      told = c.set_data_key-set.result;
      refused = c.release-released.result;
      stores = stores;
      sets = sets;
      releases = releases;
    })
