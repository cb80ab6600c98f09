use Rattle.std.proofs.Common.{sym, ◌∙◌, ap, subst, List, ℕ, ◌+◌, length}
use Rattle.std.proofs.lemmas.Bool.{or_right}
use Rattle.sqlite_wal.specs.Reads.{IsClean}
use Rattle.blob_file.specs.Format.{is_unmade, joined}
use Rattle.blob_file.specs.Rows.{Knows}
use Rattle.blob_file.proofs.Repairs.{none_formed, none_summed, recovered_small, unmade_small}
use Rattle.std.proofs.Common.{◌≡◌, true}
use Rattle.blob_file.proofs.opening.look_over.Goals as goal

pub returns-clause-looks : goal.returns-clause-looks
unfolding joined
returns-clause-looks g c =
    let file = g.D.Disk.seen c.args.disk.now in
    let seen = c.has_header.ensures.same.seen ∙ c.len.ensures.seen in
    let unmade = λ (clean : IsClean g.D.Disk c.was_never_made.new.disk).
    subst (λ (f : List ℕ). is_unmade f ≡ true) seen (sym (c.in_ok-was_never_made.ensures.found clean) ∙ c.if-not-branch.false) in
    let none = λ (clean : IsClean g.D.Disk c.was_never_made.new.disk). recovered_small file (unmade_small file (unmade clean)) in
    record {
      reads = record {
        seen = c.was_never_made.ensures.same.seen ∙ seen;
        clean = λ clean. c.len.ensures.clean (c.has_header.ensures.same.clean (c.was_never_made.ensures.same.clean clean));
        usable = c.was_never_made.ensures.same.usable;
        key = c.was_never_made.ensures.same.key ∙ c.has_header.ensures.same.key ∙ c.len.ensures.key;
        rot = c.was_never_made.ensures.same.rot ∙ c.has_header.ensures.same.rot ∙ c.len.ensures.rot;
        crash = λ left had. c.len.ensures.crash left (c.has_header.ensures.same.crash left (c.was_never_made.ensures.same.crash left had));
      };
      place = λ clean. sym (ap (λ (bs : List (List ℕ)). 16 + length (joined bs)) (none clean));
      summed = λ clean. none_summed file (unmade_small file (unmade clean));
      formed = λ clean. none_formed file (unmade_small file (unmade clean));
      knows = λ clean. subst (Knows c.args.index.now) (sym (none clean)) c.requires.empty;
      kind = λ clean. or_right _ _ (unmade clean);
    }
