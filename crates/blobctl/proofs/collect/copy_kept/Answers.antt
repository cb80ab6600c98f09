use Rattle.blobctl.proofs.Keeping.{kept_all}
use Rattle.blobctl.proofs.collect.copy_kept.Goals as goal

pub returns : goal.returns
returns g c = record {
  kept = kept_all (g.B.Blobs.view c.args.from.now) (g.B.Blobs.view c.copy_versions.new.from) (g.B.Blobs.view c.root_names.new.self)
      (g.B.Blobs.view c.copy_roots.new.from) (g.B.Blobs.view c.copy_versions.new.to) (g.B.Blobs.view c.copy_roots.new.to) (g.B.Blobs.view c.list.new.self)
      c.args.versions.now c.in_ok-names.names.items c.in_ok-copy_versions.ensures.stays c.in_ok-names.ensures.stays c.in_ok-copy_roots.ensures.stays
      c.in_ok-list.ensures.stays c.in_ok-copy_versions.ensures.copied c.in_ok-names.ensures.each
      (λ from_honest to_honest. rw (← c.as_slice.ensures.value) (c.in_ok-copy_roots.ensures.copied from_honest to_honest)) c.in_ok-copy_roots.ensures.keeps
      c.in_ok-copy_roots.ensures.honest;
}
