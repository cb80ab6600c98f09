use Rattle.record_store.proofs.Handling.{honest-before, ok-map, opens-saved}
use Rattle.record_store.proofs.laws.open_what_was_saved.Goals as goal

pub returns : goal.returns
returns g c =
    let opened = rw c.into_storage.ensures at c.open.ensures in
    ok-map c.open.result (λ r opens honest.
    let o = opens honest in
    opens-saved _ g.S.PagableStorage.roots (c.in_ok-save.ensures.saves (honest-before _ g.S.PagableStorage.roots o honest)) o) opened
