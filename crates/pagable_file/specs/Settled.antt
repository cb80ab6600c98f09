-- A file of blobs is settled in one way only, so that a storage can keep the fact.
use Rattle.blob_file.specs.{File.IsSettled, Format.{AreBatches, AreSummed}, Rows.{AreFormed, AreTexts}, declared.file.BlobFile.BlobFile}
use Rattle.std.proofs.Props.{props}
use Rattle.sqlite_disk.specs.declared.Disk.{Ghosts}
use Rattle.std.specs.Prelude.{Bool, List, Option, ℕ, [], ◌&&◌, ◌∷◌}

-- no wrong answer of the disk was taken for true, and no fault of it has shut the file
abbrev pub is_honest_file : {D : Type 0} → Ghosts D → BlobFile D → Bool
is_honest_file g it = g.is_clean it.log.disk && it.log.is_whole

AreBatches-prop : (bs : List (List ℕ)) → IsProp (AreBatches bs)
AreBatches-prop [] = Prim.hlevel
AreBatches-prop (b ∷ bs) = Prim.hlevel (AreBatches-prop bs, props)

AreSummed-prop : (bs : List (List ℕ)) → IsProp (AreSummed bs)
AreSummed-prop [] = Prim.hlevel
AreSummed-prop (b ∷ bs) = Prim.hlevel (AreSummed-prop bs, props)

AreTexts-prop : (ns : List (List ℕ × Option ℕ)) → IsProp (AreTexts ns)
AreTexts-prop [] = Prim.hlevel
AreTexts-prop (n ∷ ns) = Prim.hlevel (AreTexts-prop ns, props)

AreFormed-prop : (bs : List (List ℕ)) → IsProp (AreFormed bs)
AreFormed-prop [] = Prim.hlevel
AreFormed-prop (b ∷ bs) = Prim.hlevel (AreFormed-prop bs, AreTexts-prop, props)

pub settled_prop : {D : Type 0} (g : Ghosts D) (it : BlobFile D) → IsProp (IsSettled g it)
settled_prop g it = Prim.hlevel (AreBatches-prop, AreSummed-prop, AreTexts-prop, AreFormed-prop, props)
