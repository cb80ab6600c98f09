use Rattle.std.proofs.Common.{sym, ◌∙◌, List, ℕ, length, subst}
use Rattle.blob_file.specs.Rows.{AreWhole}
use Rattle.blob_file.proofs.Looks.{all_batches, front_there}
use Rattle.blob_file.proofs.Settling.{idle_names, idle_places, idle_rows, idle_stored}
use Rattle.blob_file.proofs.file.BlobFile.new.Goals as goal

pub returns-clause-found : goal.returns-clause-found
returns-clause-found g c whole clean =
    let file = g.D.Disk.seen c.args.log.disk in
    let place = c.requires.open.place whole clean in
    let knows = c.requires.knows whole clean in
    record {
      blobs = λ key. idle_stored _ _ c.args.log.gate _ _ (front_there c.args.log.gate file place) place (all_batches file)
          (c.requires.open.formed whole clean) knows.places key;
      names = knows.names;
    }

pub returns-clause-settled : goal.returns-clause-settled
returns-clause-settled g c = record {
  open_log = c.requires.open;
  held = subst (λ (l : List ℕ). AreWhole (length l) c.new-2.result.items) (sym c.new.ensures.items) (idle_rows _ c.new-2.ensures.items);
  places = λ whole clean q. (c.requires.knows whole clean).places q ∙ sym (idle_places _ _ _ q c.new-2.ensures.items);
  names = λ whole clean name. (c.requires.knows whole clean).names name ∙ sym (idle_names _ _ name c.new-2.ensures.items);
}
