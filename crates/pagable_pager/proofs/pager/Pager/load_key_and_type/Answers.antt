use Rattle.pagable_tables.proofs.SameViews.{failed}
use Rattle.pagable_tables.specs.Core.{load_in, no_blobs}
use Rattle.std.proofs.Common.{refl, sym}
use Rattle.pagable_pager.proofs.pager.Pager.load_key_and_type.Goals as goal

pub returns-clause-reads : goal.returns-clause-reads
returns-clause-reads g c = rw (← c.self.view_is) (record {
  load = load_in c.in_ok-row.row;
  owned = c.in_ok-row.ensures.own _;
  key_is = refl;
  type_is = sym c.cell_type.ensures;
})

pub returns-in_err-row-clause-fault : goal.returns-in_err-row-clause-fault
returns-in_err-row-clause-fault g c = rw (← c.self.view_is, failed c.from_residual.result c.from_residual.ensures.1) (c.in_err-row.ensures.fault no_blobs)
