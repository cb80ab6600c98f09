use Rattle.pagable_load.{proofs.LoadSteps.{acts_from, acts_then}, specs.{AccessView.values_at, WorkerCalls.ReleasesEntry}}
use Rattle.pagable_pager_spec.specs.Access.{EntryHas}
use Rattle.pagable_value_spec.specs.declared.{data_key.OptionalDataKey.OptionalDataKey, numbers.HandleNumber.HandleNumber}
use Rattle.std.proofs.Common.{◌≡◌}
use Rattle.pagable_pager.proofs.lent.LentWorkerAccess.release_if_keyed.Goals as goal

pub returns : goal.returns
returns g c =
    let place = c.args.place in
    let key = c.in-Some.field-0 in
    acts_from {R = λ a s t. (h : HandleNumber) × EntryHas s.core place h (OptionalDataKey.Some key)
    → ReleasesEntry (values_at g.E.Node.NodeSet g.E.Env g.E.Hash.KeyHash a.environment) s a.me place t}
    (rw c.in-Some.is at c.in_ok-entry_key.ensures.some)
    (acts_then c.in_ok-entry.ensures c.release-told.ensures (λ s mid t takes releases found.
    let (h, has) = found in
    let same : h ≡ c.in_ok-entry.entry = cc (takes.step.0, has.listed) in
    record {
      h = c.in_ok-entry.entry;
      key = key;
      has = rw same at has;
      mid = mid;
      takes = takes;
      refused = c.release-told.result;
      releases = releases;
    }))
    (λ s t has f. f has)
