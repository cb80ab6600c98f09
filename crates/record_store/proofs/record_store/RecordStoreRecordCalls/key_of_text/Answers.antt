use Rattle.record_store.proofs.record_store.RecordStoreRecordCalls.key_of_text.Goals as goal

pub returns : goal.returns
returns g c = record {
  r = c.in_ok-record.record;
  refs = c.new.result;
  bare = c.new.ensures.items;
  is = c.in_ok-record.ensures;
  bytes = c.in_ok-bytes.bytes.items;
  form = c.in_ok-bytes.ensures.form;
  keyed = rw c.new-arcs.ensures.items at c.compute_key.ensures;
}
