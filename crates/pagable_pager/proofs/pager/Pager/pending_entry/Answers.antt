use Rattle.pagable_tables.specs.Core.{no_blobs}
use Rattle.std.proofs.lemmas.Option.{IfSome_then}
use Rattle.pagable_pager.proofs.pager.Pager.pending_entry.Goals as goal

pub returns-clause-found : goal.returns-clause-found
returns-clause-found g c = rw (← c.self.view_is) (IfSome_then c.pending_entry.result c.pending_entry.ensures.found
    (λ e f. f _))

pub returns-clause-keyed : goal.returns-clause-keyed
returns-clause-keyed g c = rw (← c.self.view_is) (IfSome_then c.pending_entry.result c.pending_entry.ensures.keyed (λ e f. f no_blobs))
