use Rattle.pagable_pager.proofs.OwnKeys.{refuses-other}
use Rattle.pagable_pager.specs.View.{pager_core}
use Rattle.pagable_pager_spec.specs.Refusals.{OwnsLoad, earlier}
use Rattle.pagable_tables.proofs.SameViews.{failed, still}
use Rattle.pagable_tables.specs.Core.{load_in, no_blobs}
use Rattle.std.proofs.Common.{None, ap, arith, inl, inr, rules, ◌≢◌}
use Rattle.std.proofs.lemmas.Bool.Decides.{nat_tests}
use Rattle.pagable_pager.proofs.pager.Pager.load_root_for.Goals as goal

pub returns-in_err-row-clause-step : goal.returns-in_err-row-clause-step
returns-in_err-row-clause-step g c = λ h. rw (← c.self.view_is, failed c.from_residual.result c.from_residual.ensures.1) (record {
  asked = inl (record {
    gives = tt;
    refused = inl (record { why = inl (ap (λ o. earlier o None) (c.in_err-row.ensures.fault no_blobs)); stays = still _ });
  });
})

pub returns-in_err-fetch-clause-step : goal.returns-in_err-fetch-clause-step
returns-in_err-fetch-clause-step g c = λ h. rw (failed c.from_residual-in_err-fetch.result c.from_residual-in_err-fetch.ensures.1) (record {
  asked = inl (record {
    gives = tt;
    refused = inr (load_in c.in_ok-row.row, rw (← c.self.view_is) (c.in_ok-row.ensures.own _), c.in_err-fetch.ensures.asks.step h);
  });
})

pub returns-clause-step : goal.returns-clause-step
returns-clause-step g c = λ h. record {
  asked = inl (record {
    gives = (load_in c.in_ok-row.row, rw (← c.self.view_is) (c.in_ok-row.ensures.own _), c.in_ok-fetch.ensures.asks.step h);
    refused = tt;
  });
}

pub returns-then-ne-clause-step : goal.returns-then-ne-clause-step
returns-then-ne-clause-step g c =
    let load = load_in c.in_ok-row.row in
    let owns : OwnsLoad (pager_core g.S.PagableStorage c.args.self.now) c.args.me c.args.load load = rw (← c.self.view_is) (c.in_ok-row.ensures.own _) in
    let other : c.in_ok-row.row.key ≢ c.args.key = first_of (search rules, grind (arith, nat_tests)) in
    λ h. refuses-other load owns.stands_open other
