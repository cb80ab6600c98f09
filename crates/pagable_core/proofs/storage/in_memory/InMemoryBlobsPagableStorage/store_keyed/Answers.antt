use Rattle.pagable_core.proofs.Adding.{all_named, keeps_same, taken}
use Rattle.pagable_core.specs.Data.{blob_of, stored_in}
use Rattle.pagable_core.proofs.storage.in_memory.InMemoryBlobsPagableStorage.store_keyed.Goals as goal

pub returns-in-Some-clause-refused : goal.returns-in-Some-clause-refused
returns-in-Some-clause-refused g c =
    let stored = stored_in c.args.self.now.blobs in (
      stored c.args.key,
      taken stored c.args.key (blob_of c.in-Some.found.now) (blob_of c.args.blob) c.is_same.result c.in-Some.ensures c.is_same.ensures
          c.if-is_same.false,
    )

pub invariant_of-self : goal.invariant_of-self
invariant_of-self g c = record {
  named = all_named (stored_in c.put.new.blobs) (blob_of c.args.blob) c.put.result c.requires c.args.self.now.named
      c.put.ensures.ok c.put.ensures.err;
}

pub returns-in_err-put-clause-keeps : goal.returns-in_err-put-clause-keeps
returns-in_err-put-clause-keeps g c = λ honest. keeps_same c.in_err-put.ensures.err
