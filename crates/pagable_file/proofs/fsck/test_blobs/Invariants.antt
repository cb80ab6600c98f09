use Rattle.blob_file.specs.{File.{IsSettled, ListsBlobs, stored}, declared.listing.ListedBlob.ListedBlob as FileEntry}
use Rattle.pagable_file.specs.{Flaws.{IsFlawAt, IsOfSome, IsSoundAt, Stays, TellsFlaws}, Settled.is_honest_file}
use Rattle.pagable_value_spec.specs.Blob.{key_of}
use Rattle.std.proofs.Common.{IsTrue, take}
use Rattle.std.specs.List.{AllByRecursion}
use Rattle.pagable_file.proofs.fsck.test_blobs.Given as goal

-- the blobs so far were tested
abbrev pub invariant-loop-entry : goal.invariant-loop-entry
invariant-loop-entry g l =
    let bodies = stored g.D.Disk l.fn.file in
    let of = key_of g.H.KeyHash.digest in
    IsSettled g.D.Disk l.file × Stays g.D.Disk l.fn.file l.file × (IsTrue (is_honest_file g.D.Disk l.file)
    → ListsBlobs bodies l.entry-items
    × TellsFlaws (IsOfSome (λ (e : FileEntry). IsFlawAt of bodies e.key) (take l.entry-index l.entry-items)) l.fn.flaws.items l.flaws.items
    (AllByRecursion (λ e. IsSoundAt of bodies e.key) (take l.entry-index l.entry-items)))
