use Rattle.record_store.proofs.record_store.RecordStore.open.Goals as goal

pub returns : goal.returns
returns g c = λ honest. record {
  first = c.new-pager.result;
  is_new = c.new-pager.ensures.empty;
  over = c.new-pager.ensures.storage;
  finds = c.in_ok-last.ensures honest;
}
