use Rattle.record_store.proofs.Handling.{opens-alone}
use Rattle.record_store.specs.Stores.{last-is-opened, nothing-was-saved}
use Rattle.record_store.proofs.record_store.open_found.Goals as goal

pub returns-in-None-clause-opens : goal.returns-in-None-clause-opens
returns-in-None-clause-opens g c = rw c.in-None.is nothing-was-saved

pub returns-in-Ok-clause-opens : goal.returns-in-Ok-clause-opens
returns-in-Ok-clause-opens g c = rw c.in-Some.is (last-is-opened _ _ _ c.in-Ok.ensures)

pub returns-in-Ok-clause-storage : goal.returns-in-Ok-clause-storage
returns-in-Ok-clause-storage g c = opens-alone c.in-Ok.ensures

pub returns-in-Err-clause-storage : goal.returns-in-Err-clause-storage
returns-in-Err-clause-storage g c = opens-alone c.in-Err.ensures
