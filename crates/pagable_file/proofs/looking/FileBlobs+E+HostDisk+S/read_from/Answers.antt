use Rattle.pagable_file.proofs.looking.FileBlobs+E+HostDisk+S.read_from.Goals as goal

pub returns-clause-found : goal.returns-clause-found
returns-clause-found g c = c.look_at.ensures.found _ c.in_ok-found.ensures.shows.seen
