use Rattle.std.proofs.Common.{◌≡◌, inl, inr, refl, sym, ◌∙◌, ap, ap₂, subst, ℕ, ◌+◌, ◌<◌, ◌^◌, List, [], ◌∷◌, ◌++◌, length, arith, nat_eq}
use Rattle.std.specs.Prelude.{option_map}
use Rattle.std.specs.HashMap.{get}
use Rattle.std.proofs.lemmas.Bool.Decides.{nat_tests}
use Rattle.std.proofs.lemmas.Bool.{cases_Bool}
use Rattle.std.proofs.lemmas.List.{nil_from_length}
use Rattle.blob_file.specs.File.{body_bytes}
use Rattle.blob_file.specs.Format.{recovered}
use Rattle.blob_file.specs.Log.{IsLeft, new_batch}
use Rattle.blob_file.specs.Rows.{AreWhole, named_in, nowhere, places_in}
use Rattle.blob_file.proofs.Flushing.{held_content, here, idle_content, left_content, left_opens, rest_kept, rest_opens, same_batches, same_log}
use Rattle.blob_file.proofs.Reopens.{on_err_any}
use Rattle.blob_file.proofs.Settling.{body_of, flushed_names, flushed_places, idle_names, idle_places, idle_rows, kept_stored}
use Rattle.blob_file.proofs.file.BlobFile.flush.Goals as goal

pub returns-then-is_empty-clause-flushed : goal.returns-then-is_empty-clause-flushed
returns-then-is_empty-clause-flushed g c whole clean =
    let size : length c.args.self.now.rows.items ≡ 0 = grind (arith, nat_tests) in
    idle_content g.D.Disk _ c.requires.settled whole clean (nil_from_length c.args.self.now.rows.items size)

pub returns-then-is_empty-clause-any_moment : goal.returns-then-is_empty-clause-any_moment
returns-then-is_empty-clause-any_moment g c may clean left had = inl (same_batches _ _ (rest_kept g.D.Disk _ c.requires.settled may clean left had))

pub returns-then-is_empty-clause-durable : goal.returns-then-is_empty-clause-durable
returns-then-is_empty-clause-durable g c may clean left had =
    let all = returns-then-is_empty-clause-flushed g c may.0 clean in
    let same = same_batches _ _ (rest_kept g.D.Disk _ c.requires.settled may clean left had) in
    record { blobs = λ key. same.blobs key ∙ all.blobs key; names = λ name. same.names name ∙ all.names name }

pub returns-then-is_empty-clause-opens_again : goal.returns-then-is_empty-clause-opens_again
returns-then-is_empty-clause-opens_again g c may clean left had = rest_opens g.D.Disk _ c.requires.settled may clean left had

pub returns-in_err-append-clause-same : goal.returns-in_err-append-clause-same
returns-in_err-append-clause-same g c whole clean =
    let s = c.requires.settled in
    let it = c.args.self.now in
    let first = c.append.ensures.was_whole whole in
    let was = c.append.ensures.clean clean in
    elim (cases_Bool it.log.may_write) [
      | inr looks ↦ same_log g.D.Disk it c.append.new.self (c.append.ensures.looks looks)
      | inl may ↦
          let rests = (s.open_log.ready (first, may) was).rests in
          let below = (c.append.ensures.any_moment (first, may) clean _ (g.met.D.Disk.seen_may_stay c.append.new.self.disk)).below in
          record {
            blobs = λ key.
                ap (λ (k : ℕ). option_map (body_of (body_bytes (g.D.Disk.seen c.append.new.self.disk) it.bodies.items (k + 25)))
                (get nat_eq it.index.places key)) c.in_err-append.ensures.gate_stays
                ∙ kept_stored _ _ _ it.log.gate _ (here g.D.Disk it s first was) (omega (arith, rests.within)) below key;
            names = λ name. refl;
          }
    ]

pub returns-in_err-append-clause-kept : goal.returns-in_err-append-clause-kept
returns-in_err-append-clause-kept g c = on_err_any c.from_residual.result λ whole clean. same_batches _ _ (c.in_err-append.ensures.kept whole clean)

pub returns-in_err-append-clause-any_moment : goal.returns-in_err-append-clause-any_moment
returns-in_err-append-clause-any_moment g c may clean left had =
    let it = c.args.self.now in
    let few : length it.bodies.items < 2 ^ 64 = omega (arith, c.deref.type_inv.0, ap (λ (l : List ℕ). length l) c.deref.ensures.value) in
    let short : length it.rows.items < 2 ^ 64 = omega (arith, c.deref-2.type_inv.0, ap (λ (l : List ℕ). length l) c.deref-2.ensures.value) in
    left_content g.D.Disk it c.requires.settled may (c.append.ensures.clean clean) few short left
    (subst (λ (b : List ℕ). IsLeft it.log.gate (g.D.Disk.seen it.log.disk) b left) (ap₂ new_batch c.deref.ensures.value c.deref-2.ensures.value)
    (c.append.ensures.any_moment may clean left had))

pub returns-in_err-append-clause-opens_again : goal.returns-in_err-append-clause-opens_again
returns-in_err-append-clause-opens_again g c may clean left had =
    left_opens g.D.Disk c.args.self.now c.requires.settled may (c.append.ensures.clean clean) _ left (c.append.ensures.any_moment may clean left had)

pub returns-clause-any_moment : goal.returns-clause-any_moment
returns-clause-any_moment g c may clean left had =
    let it = c.args.self.now in
    let few : length it.bodies.items < 2 ^ 64 = omega (arith, c.deref.type_inv.0, ap (λ (l : List ℕ). length l) c.deref.ensures.value) in
    let short : length it.rows.items < 2 ^ 64 = omega (arith, c.deref-2.type_inv.0, ap (λ (l : List ℕ). length l) c.deref-2.ensures.value) in
    left_content g.D.Disk it c.requires.settled may (c.append.ensures.clean clean) few short left
    (subst (λ (b : List ℕ). IsLeft it.log.gate (g.D.Disk.seen it.log.disk) b left) (ap₂ new_batch c.deref.ensures.value c.deref-2.ensures.value)
    (c.append.ensures.any_moment may clean left had))

pub returns-clause-opens_again : goal.returns-clause-opens_again
returns-clause-opens_again g c may clean left had =
    left_opens g.D.Disk c.args.self.now c.requires.settled may (c.append.ensures.clean clean) _ left (c.append.ensures.any_moment may clean left had)

pub returns-clause-flushed : goal.returns-clause-flushed
returns-clause-flushed g c whole clean =
    let it = c.args.self.now in
    let few : length it.bodies.items < 2 ^ 64 = omega (arith, c.deref.type_inv.0, ap (λ (l : List ℕ). length l) c.deref.ensures.value) in
    let short : length it.rows.items < 2 ^ 64 = omega (arith, c.deref-2.type_inv.0, ap (λ (l : List ℕ). length l) c.deref-2.ensures.value) in
    held_content g.D.Disk it c.requires.settled c.in_ok-append.ensures.may (c.append.ensures.clean clean) few short _
    (c.in_ok-append.ensures.appended clean ∙ ap₂ (λ (b r : List ℕ). recovered
    (g.D.Disk.seen it.log.disk) ++ new_batch b r ∷ []) c.deref.ensures.value c.deref-2.ensures.value)

pub returns-clause-settled : goal.returns-clause-settled
returns-clause-settled g c =
    let s = c.requires.settled in
    let it = c.args.self.now in
    let few : length it.bodies.items < 2 ^ 64 = omega (arith, c.deref.type_inv.0, ap (λ (l : List ℕ). length l) c.deref.ensures.value) in
    let short : length it.rows.items < 2 ^ 64 = omega (arith, c.deref-2.type_inv.0, ap (λ (l : List ℕ). length l) c.deref-2.ensures.value) in
    record {
      open_log = c.append.ensures.open;
      held = subst (λ (l : List ℕ). AreWhole (length l) c.clear-2.new.self.items) (sym c.clear.ensures.items) (idle_rows _ c.clear-2.ensures.items);
      places = λ whole clean q.
          let first = c.append.ensures.was_whole whole in
          let was = c.append.ensures.clean clean in
          let grown = c.in_ok-append.ensures.appended clean ∙ ap₂ (λ (b r : List ℕ). recovered
          (g.D.Disk.seen it.log.disk) ++ new_batch b r ∷ []) c.deref.ensures.value c.deref-2.ensures.value in
          s.places first was q ∙ flushed_places _ _ _ _ q (s.open_log.place first was) few short ∙ ap (λ (l : List (List ℕ)). places_in 16 l nowhere q) (sym grown)
          ∙ sym (idle_places _ _ _ q c.clear-2.ensures.items);
      names = λ whole clean name.
          let first = c.append.ensures.was_whole whole in
          let was = c.append.ensures.clean clean in
          let grown = c.in_ok-append.ensures.appended clean ∙ ap₂ (λ (b r : List ℕ). recovered
          (g.D.Disk.seen it.log.disk) ++ new_batch b r ∷ []) c.deref.ensures.value c.deref-2.ensures.value in
          s.names first was name ∙ flushed_names _ it.bodies.items it.rows.items name few short ∙ ap (λ (l : List (List ℕ)). named_in l name) (sym grown)
          ∙ sym (idle_names _ _ name c.clear-2.ensures.items);
    }

pub returns-clause-durable : goal.returns-clause-durable
returns-clause-durable g c may clean left had =
    let all = returns-clause-flushed g c may.0 clean in
    let same = same_batches _ _ (rest_kept g.D.Disk _ (returns-clause-settled g c) (c.in_ok-append.ensures.whole, c.append.ensures.same_may ∙ may.1)
    clean left had) in
    record { blobs = λ key. same.blobs key ∙ all.blobs key; names = λ name. same.names name ∙ all.names name }

pub returns-clause-same : goal.returns-clause-same
returns-clause-same g c whole clean =
    let all = returns-clause-flushed g c (c.append.ensures.was_whole whole) clean in
    let idle = idle_content g.D.Disk _ (returns-clause-settled g c) whole clean c.clear-2.ensures.items in
    record { blobs = λ key. sym (idle.blobs key) ∙ all.blobs key; names = λ name. sym (idle.names name) ∙ all.names name }
