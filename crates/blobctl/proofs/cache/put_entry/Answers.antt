use Rattle.blobctl.proofs.Caching.{put_entry}
use Rattle.std.proofs.Common.{◌∙◌}
use Rattle.blobctl.proofs.cache.put_entry.Goals as goal

pub returns : goal.returns
returns g c = record {
  put = λ honest. put_entry (g.B.Blobs.view c.store.new.self) (g.B.Blobs.view c.set_root.new.self) c.args.digest.now c.as_str.result.now c.in_ok-key.key _
      c.args.facts c.args.content.now (c.as_str.ensures.value ∙ c.in_ok-name.ensures.name)
      (c.in_ok-key.ensures.stored (c.in_ok-set_root.ensures.honest honest)) (c.in_ok-set_root.ensures.blobs honest)
      (c.in_ok-set_root.ensures.sets honest) c.in_ok-bytes.ensures;
}
