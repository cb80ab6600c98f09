-- What a flush leaves, as what the file has.
use Rattle.std.proofs.Common.{◌≡◌, ◌⊎◌, inl, inr, refl, sym, ◌∙◌, ap, subst, ℕ, ◌+◌, ◌<◌, ◌^◌, List, [], ◌∷◌, ◌++◌, length, arith, nat_eq}
use Rattle.std.specs.HashMap.{get}
use Rattle.std.specs.Prelude.{IsTrue}
use Rattle.sqlite_disk.specs.declared.Disk.{Ghosts}
use Rattle.sqlite_wal.specs.Reads.{IsClean}
use Rattle.blob_file.specs.Appending.{MayWrite}
use Rattle.blob_file.specs.File.{IsSettled, Same, content, content_of, flushed, stored}
use Rattle.blob_file.specs.Format.{recovered, AreSummed}
use Rattle.blob_file.specs.Log.{IsLeft, new_batch}
use Rattle.blob_file.specs.Opening.{CanOpen}
use Rattle.blob_file.specs.Rows.{AreFormed, named_in, stored_in}
use Rattle.blob_file.specs.declared.file.BlobFile.{BlobFile}
use Rattle.blob_file.specs.declared.log.Log.{Log}
use Rattle.blob_file.proofs.BatchFiles.{kept, less_below}
use Rattle.blob_file.proofs.Looks.{all_batches, front_there}
use Rattle.blob_file.proofs.Placing.{AllKnown, IsHere, all_here}
use Rattle.blob_file.proofs.Reopens.{left_formed, left_summed, same_made}
use Rattle.blob_file.proofs.Settling.{flushed_names, flushed_stored, idle_names, idle_places, idle_stored}

-- each place is in the file, or among what is held
pub here : {D : Type 0} (g : Ghosts D) (it : BlobFile D) → IsSettled g it → IsTrue it.log.is_whole → IsClean g it.log.disk
    → AllKnown (IsHere it.log.gate (length it.bodies.items)) (get nat_eq it.index.places)
here g it s whole clean key p found =
    all_here _ _ _ _ (s.open_log.place whole clean) (all_batches (g.seen it.log.disk)) (s.open_log.formed whole clean) s.held key p (sym (s.places whole clean key) ∙ found)

-- the same batches have the same
pub same_batches : (old new : List (List ℕ)) → new ≡ old → Same (content_of old) (content_of new)
same_batches old new same = record {
  blobs = λ key. ap (λ (l : List (List ℕ)). stored_in l key) same;
  names = λ name. ap
      (λ (l : List (List ℕ)). named_in l name) same;
}

-- the same log has the same
pub same_log : {D : Type 0} (g : Ghosts D) (it : BlobFile D) (log : Log D) → log ≡ it.log → Same (content g it) (content g (record it { log = log }))
same_log {D = D} g it log same = record {
  blobs = λ key. ap (λ (l : Log D). stored g (record it { log = l }) key) same;
  names = λ name. refl;
}

-- where nothing is held, all is flushed
pub idle_content : {D : Type 0} (g : Ghosts D) (it : BlobFile D) → IsSettled g it → IsTrue it.log.is_whole → IsClean g it.log.disk → it.rows.items ≡ []
    → Same (content g it) (flushed g it)
idle_content g it s whole clean none =
    let place = s.open_log.place whole clean in
    record {
      blobs = λ key. sym (idle_stored _ _ it.log.gate _ _ (front_there it.log.gate (g.seen it.log.disk) place) place (all_batches (g.seen it.log.disk))
          (s.open_log.formed whole clean) (λ q. s.places whole clean q ∙ idle_places _ _ _ q none) key);
      names = λ name. sym (s.names whole clean name ∙ idle_names _ _ name none);
    }

-- once the held batch counts, all is flushed
pub held_content : {D : Type 0} (g : Ghosts D) (it : BlobFile D) → IsSettled g it → MayWrite it.log → IsClean g it.log.disk
    → length it.bodies.items < 2 ^ 64 → length it.rows.items < 2 ^ 64
    → (bs : List (List ℕ)) → bs ≡ recovered (g.seen it.log.disk) ++ new_batch it.bodies.items it.rows.items ∷ [] → Same (content g it) (content_of bs)
held_content g it s may clean few short bs is =
    let rests = (s.open_log.ready may clean).rests in
    let whole = may.0 in
    record {
      blobs = λ key.
          ap (λ (l : List (List ℕ)). stored_in l key) is
          ∙ flushed_stored _ _ _ _ _ _ rests.front rests.place rests.whole (s.open_log.formed whole clean) s.held few short (s.places whole clean) key;
      names = λ name.
          ap (λ (l : List (List ℕ)). named_in l name) is
          ∙ sym (s.names whole clean name ∙ flushed_names (recovered (g.seen it.log.disk)) it.bodies.items it.rows.items name few short);
    }

-- whatever a crash leaves of a flush has what was flushed, or all
pub left_content : {D : Type 0} (g : Ghosts D) (it : BlobFile D) → IsSettled g it → MayWrite it.log → IsClean g it.log.disk
    → length it.bodies.items < 2 ^ 64 → length it.rows.items < 2 ^ 64
    → (c : List ℕ) → IsLeft it.log.gate (g.seen it.log.disk) (new_batch it.bodies.items it.rows.items) c
    → Same (flushed g it) (content_of (recovered c)) ⊎ Same (content g it) (content_of (recovered c))
left_content g it s may clean few short c left = elim left.stands [
  | inl old ↦ inl (same_batches _ _ old)
  | inr new ↦ inr (held_content g it s may clean few short (recovered c) new.0)
]

-- and can be opened
pub left_opens : {D : Type 0} (g : Ghosts D) (it : BlobFile D) → IsSettled g it → MayWrite it.log → IsClean g it.log.disk
    → (batch c : List ℕ) → IsLeft it.log.gate (g.seen it.log.disk) batch c → CanOpen c
left_opens g it s may clean batch c left = record {
  made = same_made it.log.gate _ c (s.open_log.ready may clean).rests left.below;
  summed = left_summed _ _ _ _ (s.open_log.summed may.0 clean) left;
  formed = left_formed _ _ _ _ (s.open_log.formed may.0 clean) left;
}

-- a crash between two calls leaves what is flushed, and that can be opened
pub rest_kept : {D : Type 0} (g : Ghosts D) (it : BlobFile D) → IsSettled g it → MayWrite it.log → IsClean g it.log.disk → (c : List ℕ)
    → g.may_leave it.log.disk c → recovered c ≡ recovered (g.seen it.log.disk)
rest_kept g it s may clean c left =
    let ready = s.open_log.ready may clean in
    kept _ _ _ ready.rests (ready.crash c left)

pub rest_opens : {D : Type 0} (g : Ghosts D) (it : BlobFile D) → IsSettled g it → MayWrite it.log → IsClean g it.log.disk → (c : List ℕ)
    → g.may_leave it.log.disk c → CanOpen c
rest_opens g it s may clean c left =
    let ready = s.open_log.ready may clean in
    let same = rest_kept g it s may clean c left in
    record {
      made = same_made it.log.gate _ c ready.rests (less_below it.log.gate (it.log.gate + 1) _ c (omega arith) (ready.crash c left));
      summed = subst AreSummed (sym same) (s.open_log.summed may.0 clean);
      formed = subst AreFormed (sym same) (s.open_log.formed may.0 clean);
    }
