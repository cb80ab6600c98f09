use Rattle.blob_file.specs.File.{stored}
use Rattle.blobctl.proofs.Showing.{lists_if}
use Rattle.blobctl.proofs.blobs.FileBlobsBlobs.list.Goals as goal

pub returns-clause-all : goal.returns-clause-all
returns-clause-all g c honest =
    let before = rw c.list.ensures.file at honest in
    lists_if c.list.result (λ all. all.items) c.args.self.now.closed (stored g.D.Disk c.args.self.now.file) (λ is_open. c.list.ensures.each is_open before)
