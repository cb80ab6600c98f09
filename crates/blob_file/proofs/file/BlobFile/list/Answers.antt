use Rattle.std.proofs.Common.{refl, sym, ◌+◌, ◌∙◌}
use Rattle.blob_file.specs.File.{body_now}
use Rattle.blob_file.proofs.Flushing.{here}
use Rattle.blob_file.proofs.Listings.{lists_blobs}
use Rattle.blob_file.proofs.Looks.{in_file}
use Rattle.blob_file.proofs.Placing.{as_long}
use Rattle.blob_file.proofs.Reopens.{if_ok_both}
use Rattle.blob_file.proofs.file.BlobFile.list.Goals as goal

pub returns-clause-each : goal.returns-clause-each
returns-clause-each g c =
    let it = c.args.self.now in
    if_ok_both c.list_places.result (λ listed all unique whole clean.
    let s = c.requires.settled in
    lists_blobs (body_now g.D.Disk it) it.index.places listed.items unique all λ key p found.
    record {
      children = refl;
      bytes = as_long (g.D.Disk.seen it.log.disk) it.bodies.items it.log.gate p
          (in_file (g.D.Disk.seen it.log.disk) it.rows.items (it.log.gate + 25) (s.open_log.formed whole clean) key p (sym (s.places whole clean key) ∙ found))
          (here g.D.Disk it c.requires.settled whole clean key p found);
    }) c.list_places.ensures.all c.list_places.ensures.unique
