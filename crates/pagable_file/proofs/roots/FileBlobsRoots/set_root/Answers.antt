use Rattle.blob_file.specs.{File.{content_of, named, stored}, Format.recovered, declared.log.Log.Log}
use Rattle.pagable_core.specs.Roots.{Sets}
use Rattle.pagable_file.proofs.{Naming.{on_err, on_ok, sets_here}, Stored.{same_blobs, same_roots}}
use Rattle.pagable_file.specs.{Bodies.{blobs_of, roots_unless, unless}, Settled.is_honest_file}
use Rattle.std.proofs.Common.{List, Option, Some, ap, subst, sym, ℕ, ◌&&◌, ◌∙◌}
use Rattle.std.specs.Prelude.{IsTrue}
use Rattle.pagable_file.proofs.roots.FileBlobsRoots.set_root.Goals as goal

pub returns-in_ok-_found-in-Some-clause-sets : goal.returns-in_ok-_found-in-Some-clause-sets
returns-in_ok-_found-in-Some-clause-sets g c honest =
    let looks = c.fetch_data_blocking.ensures in
    let mid = c.fetch_data_blocking.new.self in
    let file = c.hold_root-in-Some.new.file in
    let whole : IsTrue (is_honest_file g.D.Disk file) = honest in
    let still : IsTrue (is_honest_file g.D.Disk mid.file) = sym (ap (λ (log : Log _). g.D.Disk.is_clean log.disk && log.is_whole) c.hold_root-in-Some.ensures.log) ∙ whole in
    on_ok c.hold_root-in-Some.result
    (λ comes. subst (λ (key : Option ℕ). Sets c.args.name.now key (roots_unless c.args.self.now.closed (named c.args.self.now.file)) (roots_unless mid.closed (named file)))
    (sym c.in-Some.is) (subst (λ (r : List ℕ → Option ℕ). Sets c.args.name.now (Some c.in-Some.wanted) r (roots_unless mid.closed (named file))) (looks.same_names still).0
    (sets_here mid.closed (named mid.file) (named file) c.args.name.now (Some c.in-Some.wanted) (looks.open ∙ c.if-self.false) comes))) c.hold_root-in-Some.ensures.sets

pub returns-in_ok-_found-in-Some-clause-err : goal.returns-in_ok-_found-in-Some-clause-err
returns-in_ok-_found-in-Some-clause-err g c honest =
    let mid = c.fetch_data_blocking.new.self in
    let file = c.hold_root-in-Some.new.file in
    let whole : IsTrue (is_honest_file g.D.Disk file) = honest in
    let still : IsTrue (is_honest_file g.D.Disk mid.file) = sym (ap (λ (log : Log _). g.D.Disk.is_clean log.disk && log.is_whole) c.hold_root-in-Some.ensures.log) ∙ whole in
    on_err c.hold_root-in-Some.result (λ same. same_roots mid.closed (named mid.file) (named file) same ∙ (c.fetch_data_blocking.ensures.same_names still).0)
    c.hold_root-in-Some.ensures.kept

pub returns-in_ok-_found-in-Some-clause-stays : goal.returns-in_ok-_found-in-Some-clause-stays
returns-in_ok-_found-in-Some-clause-stays g c honest =
    let mid = c.fetch_data_blocking.new.self in
    let file = c.hold_root-in-Some.new.file in
    let whole : IsTrue (is_honest_file g.D.Disk file) = honest in
    let still : IsTrue (is_honest_file g.D.Disk mid.file) = sym (ap (λ (log : Log _). g.D.Disk.is_clean log.disk && log.is_whole) c.hold_root-in-Some.ensures.log) ∙ whole in
    let looks = c.fetch_data_blocking.ensures.same still in (
      same_blobs mid.closed (stored g.D.Disk mid.file) (stored g.D.Disk file) c.hold_root-in-Some.ensures.blobs ∙ looks.0,
      ap (λ (log : Log _). unless mid.closed (blobs_of (content_of (recovered (g.D.Disk.seen log.disk))).blob)) c.hold_root-in-Some.ensures.log ∙ looks.1,
    )
