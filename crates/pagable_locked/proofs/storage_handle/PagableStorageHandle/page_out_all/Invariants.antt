use Rattle.pagable_locked.proofs.storage_handle.PagableStorageHandle.page_out_all.Given as goal

abbrev pub ghosts-page_out_on : goal.ghosts-page_out_on
ghosts-page_out_on g a = record { name = a.parts.name; parts = a.parts.parts }
