use Rattle.pagable_file.proofs.opening.FileBlobs+E+HostDisk+S.open_from.Goals as goal

pub returns-clause-found : goal.returns-clause-found
returns-clause-found g c = c.open_disk.ensures.found _ c.in_ok-found.ensures.holds.shows.seen
