use Rattle.std.proofs.Common.{◌∙◌}
use Rattle.blob_file.specs.File.{body_now}
use Rattle.blob_file.proofs.Listings.{count_keys, count_names}
use Rattle.blob_file.proofs.file.BlobFile.counts.Goals as goal

pub returns-clause-blobs : goal.returns-clause-blobs
returns-clause-blobs g c keys lists = c.len.ensures.len ∙ count_keys
    (body_now g.D.Disk c.args.self.now) c.args.self.now.index.places keys c.len.ensures.unique lists

pub returns-clause-names : goal.returns-clause-names
returns-clause-names g c names lists = c.len-2.ensures.len ∙ count_names c.args.self.now.index.names names c.len-2.ensures.unique lists
