use Rattle.blob_file.specs.{File.{ListsBlobs, stored}, Rows.Body, declared.listing.ListedBlob.ListedBlob as FileEntry}
use Rattle.pagable_file.proofs.Flawed.{blobs_tested, bodies_same, each_next, each_tested, got, none_yet, passed, stays_self, stays_then}
use Rattle.pagable_file.specs.Flaws.{IsFlawAt, IsSoundAt, TellsFlaws}
use Rattle.pagable_value_spec.specs.Blob.{key_of}
use Rattle.std.proofs.{Common.{Option, get_or, subst, sym, ℕ, ◌∙◌}, lemmas.Bool.and_parts}
use Rattle.std.specs.Cmp.Derive.{both_true}
use Rattle.pagable_file.proofs.fsck.test_blobs.Goals as goal

pub loop-entry-init : goal.loop-entry-init
loop-entry-init g c = (
  c.requires.settled,
  stays_self g.D.Disk c.args.file.now,
  λ honest.
      let parts = and_parts (g.D.Disk.is_clean c.args.file.now.log.disk) c.args.file.now.log.is_whole honest in (
        subst (ListsBlobs (stored g.D.Disk c.args.file.now)) (sym c.deref-entry-items.ensures.value) (c.in_ok-entries.ensures.each parts.1 parts.0),
        passed (none_yet (λ (e : FileEntry). IsFlawAt (key_of g.H.KeyHash.digest) (stored g.D.Disk c.args.file.now) e.key)) tt,
      ),
)

pub loop-entry-preserved : goal.loop-entry-preserved
loop-entry-preserved g c =
    let l = c.loop-entry in
    let stays = c.test_blob.ensures.stays in
    let of = key_of g.H.KeyHash.digest in
    let bodies = stored g.D.Disk c.args.file.now in (
      c.test_blob.ensures.settled,
      stays_then g.D.Disk _ _ _ l.invariant.1 stays,
      λ honest.
          let parts = and_parts (g.D.Disk.is_clean c.test_blob.new.file.log.disk) c.test_blob.new.file.log.is_whole honest in
          let was = l.invariant.2 (both_true (stays.clean parts.0) (sym stays.whole ∙ parts.1)) in
          let entries = c.deref-entry-items.result.now in
          let none : FileEntry = record { key = 0; children = 0; bytes = 0 } in
          let entry = get_or entries l.entry-index none in
          let same = bodies_same g.D.Disk c.args.file.now l.file l.invariant.1.content in (
            was.0,
            each_next (λ (e : FileEntry). IsFlawAt of bodies e.key) (λ e. IsSoundAt of bodies e.key) entries l.entry-index entry c.loop-entry-test.true
                (got entries l.entry-index none entry c.loop-entry-test.true) was.1
                (subst (λ (now : ℕ → Option Body). TellsFlaws (IsFlawAt of now entry.key) l.flaws.items c.test_blob.new.flaws.items (IsSoundAt of now entry.key))
                same (c.in_ok-_children.ensures.tested parts.0)),
          ),
    )

pub returns-clause-tested : goal.returns-clause-tested
returns-clause-tested g c honest =
    let l = c.loop-entry in
    let bodies = stored g.D.Disk c.args.file.now in
    let of = key_of g.H.KeyHash.digest in
    let was = l.invariant.2 honest in
    blobs_tested of bodies _ was.0.keys (each_tested (λ (e : FileEntry). IsFlawAt of bodies e.key) (λ e. IsSoundAt of bodies e.key) _ l.entry-index
    c.loop-entry-test.false was.1)
