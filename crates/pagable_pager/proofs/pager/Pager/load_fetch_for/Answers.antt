use Rattle.pagable_pager.proofs.Invariant.{asks-kept}
use Rattle.pagable_pager.specs.View.{pager_core}
use Rattle.pagable_pager_spec.specs.Refusals.{OwnsLoad, earlier}
use Rattle.pagable_tables.proofs.SameViews.{failed, still}
use Rattle.pagable_tables.specs.Core.{load_in, no_blobs}
use Rattle.std.proofs.Common.{None, ap, inl, inr}
use Rattle.pagable_pager.proofs.pager.Pager.load_fetch_for.Goals as goal

pub returns-in_err-row-in-Root-clause-step : goal.returns-in_err-row-in-Root-clause-step
returns-in_err-row-in-Root-clause-step g c = λ h. rw (← c.self.view_is, c.in-Root.is, failed c.from_residual.result c.from_residual.ensures.1) (record {
  gives = tt;
  refused = inl (record { why = inl (ap (λ o. earlier o None) (c.in_err-row-in-Root.ensures.fault no_blobs)); stays = still _ });
})

pub returns-in_err-fetch-in-Root-clause-step : goal.returns-in_err-fetch-in-Root-clause-step
returns-in_err-fetch-in-Root-clause-step g c = λ h. rw (
  c.in-Root.is,
  failed c.from_residual-in_err-fetch-in-Root.result
      c.from_residual-in_err-fetch-in-Root.ensures.1,
) (record {
  gives = tt;
  refused = inr (
    load_in c.in_ok-row-in-Root.row,
    rw (← c.self.view_is) (c.in_ok-row-in-Root.ensures.own
        _),
    c.in_err-fetch-in-Root.ensures.asks.step h,
  );
})

pub returns-in_ok-fetch-in-Root-clause-step : goal.returns-in_ok-fetch-in-Root-clause-step
returns-in_ok-fetch-in-Root-clause-step g c =
    λ h. rw c.in-Root.is (record {
      gives = (
        load_in c.in_ok-row-in-Root.row,
        rw (← c.self.view_is) (c.in_ok-row-in-Root.ensures.own _),
        c.in_ok-fetch-in-Root.ensures.asks.step h,
      );
      refused = tt;
    })

pub returns-in_err-known-in-Nested-clause-kept : goal.returns-in_err-known-in-Nested-clause-kept
returns-in_err-known-in-Nested-clause-kept g c = asks-kept c.load_cached.result c.load_cached.ensures.step

pub returns-in_ok-fetch-in-Root-clause-named : goal.returns-in_ok-fetch-in-Root-clause-named
returns-in_ok-fetch-in-Root-clause-named g c =
    let load = load_in c.in_ok-row-in-Root.row in
    let owns : OwnsLoad (pager_core g.S.PagableStorage c.args.self.now) c.args.me c.args.load load =
    rw (← c.self.view_is) (c.in_ok-row-in-Root.ensures.own _) in
    rw c.in-Root.is (load, owns.stands_open, c.in_ok-fetch-in-Root.ensures.named)
