use Rattle.pagable_tables.proofs.{
  CascadeStep.begun-whole,
  OwnedByLoad.{does-as, drops-with, lazily-so, nothing-release_at},
  SameViews.{failed, owner-same, still},
  Views.lone-falling,
  Words.{Falls, any_mode, arith, inl, inr, only_handle, refl},
}

pub returns-in_err-at : Rattle.pagable_tables.proofs.release.release.Goals.returns-in_err-at
returns-in_err-at g c =
    rw (failed _ c.from_residual.ensures.1) (nothing-release_at c.requires.whole
    (λ storage e. record {
      does = inl (record { e = c.in_err-at.field-0.0; why = c.in_err-at.ensures.fault storage any_mode; told = refl; stays = still _ });
    }))

pub returns : Rattle.pagable_tables.proofs.release.release.Goals.returns
returns g c =
    let row = c.in_ok-at.at.row in
    drops-with (does-as (lazily-so {lists = c.args.lists} {step = λ w w'. Falls w w (only_handle c.args.handle) c.try_release_at.result w'}
    (λ storage e. rw c.in_ok-at.ensures.number at (c.try_release_at.ensures.falls _ _ (begun-whole _ storage _ c.requires.whole e)
    (omega arith)))
    c.try_release_at.ensures.steady (lone-falling c.requires.whole.core) refl refl refl)
    (λ storage fell e. record {
      does = inr (
        row,
        record {
          live = c.in_ok-at.ensures.found;
          own = owner-same _ _ c.in_ok-at.ensures.owner;
          as_asked = refl;
        },
        fell e,
      );
    })) c.try_release_at.ensures.drops
