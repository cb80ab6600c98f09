use Rattle.record_store.proofs.Handling.{ok-map}
use Rattle.record_store.specs.Stores.{OpensLast}
use Rattle.std.proofs.Common.{IsTrue, subst}
use Rattle.record_store.proofs.record_store.open_saved_root.Goals as goal

pub returns-in-Ok : goal.returns-in-Ok
returns-in-Ok g c = λ honest.
    let asked = subst (λ s. IsTrue (g.S.PagableStorage.is_honest s)) c.open_found.ensures.storage honest in
    ok-map c.open_found.result (λ last opens. record {
      mid = c.root.new.self;
      asks = c.in-Ok.ensures.asks;
      same = (c.in-Ok.ensures.same_names asked).0;
      opens = subst (λ k. OpensLast g.S.PagableStorage c.root.new.self k last c.open_found.new.pager) (c.in-Ok.ensures.ok asked) opens;
    }) c.open_found.ensures.opens
