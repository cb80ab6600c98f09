use Rattle.pagable_pager_spec.specs.{LoadCalls.begin_fault, World.key_at}
use Rattle.pagable_tables.proofs.{
  CallsKeepWhole.begin-whole,
  OwnedByLoad.{closed-still, does-by, later-less, later-opened, nothing-does, still-reaches},
  SameViews.{failed, handle-first, owner-same, same-cache, still},
  Views.{newer-alike, newer-handle, newer-then, roomy-whole, settles},
  Words.{Alike, BeginCall, Core, Err, Error, HandleNumber, HandleRow, Mode, None, OptionalDataKey, Owner, Owns, Some, ap, arith, basics, core_alone, core_of},
  Words.{false, find_row, greatest, if_there, inl, inr, is_here, is_loose, is_owner, of_cell, refl, rules, sym, true, type_at, with_handle, with_load, ◌+◌},
  Words.{◌<◌, ◌∙◌, ◌≡◌},
}
use Rattle.pagable_tables.proofs.load.load_begin.Goals as goal

pub returns-in_err-at : goal.returns-in_err-at
returns-in_err-at c = rw (failed _ c.from_residual.ensures.1) (nothing-does c.requires.whole
    (λ storage.
    let w = core_of c.args.t.now storage in
    record {
      begins = tt;
      refused = record {
        why = inl (handle-first w _ _ is_loose _ _ (c.in_err-at.ensures.fault storage is_loose)
            (λ f is. grind basics));
        stays = still w;
      };
    }))

unbegun : {w w' : Core} (me : Owner) (h : HandleNumber) (row : HandleRow) → find_row h.0 w.rows ≡ Some row → is_owner me row.owner ≡ true → is_loose row.mode
    ≡ true → is_here w row.node.0 ≡ false
    → w.last.load < greatest → w.last.handle < greatest → Alike w w' → BeginCall w me h (Err Error.OutOfMemory) w'
unbegun {w} me h row found own loose here loads handles stays =
    let before : begin_fault w me h ≡ None = grind basics in
    record {
      begins = tt;
      refused = record { why = inr (refl, before, ap (if_there (λ r. is_here w r.node.0) false) found ∙ here); stays = stays };
    }

pub returns-in_err-add_row : goal.returns-in_err-add_row
returns-in_err-add_row c = rw (failed _ c.from_residual-in_err-add_row.ensures.1) (does-by
    (λ storage. unbegun c.args.me c.args.handle c.in_ok-at.at.row c.in_ok-at.ensures.found c.in_ok-at.ensures.owner (search rules) (search rules) (omega arith)
    (omega arith)
    (grind (basics, same-cache, c.in_err-add_row.ensures.err)))
    c.requires.whole.steady (λ begins. settles (roomy-whole c.requires.whole.core) begins.refused.stays)
    (λ begins later. later-less later (newer-alike begins.refused.stays) refl (λ l load is. sym (c.in_err-add_row.ensures.err l) ∙ is) (still-reaches refl)))

pub returns-in-Err : goal.returns-in-Err
returns-in-Err c =
    let t = c.args.t.now in
    let left : t.ref_counts.last_handle < greatest = omega arith in
    let memory : c.in-Err.e ≡ Error.OutOfMemory = (let why = (c.in-Err.ensures.made (core_alone t)).refused.why in grind (basics, left)) in
    rw memory (does-by
    (λ storage.
    let a = (c.in-Err.ensures.made (core_of (record t { ref_counts = c.add_handle.new.t; loads = c.remove_row.new.rows }) storage)).refused.stays in
    unbegun c.args.me c.args.handle c.in_ok-at.at.row c.in_ok-at.ensures.found c.in_ok-at.ensures.owner (search rules) (search rules) (omega arith) left
    (grind (basics, c.requires.whole.core.loads.numbered, c.in_ok-add_row.ensures.others, c.remove_row.ensures.gone, c.remove_row.ensures.others)))
    c.add_handle.ensures.steady (λ begins. settles (roomy-whole c.requires.whole.core) begins.refused.stays)
    (λ begins later. later-less later (newer-alike begins.refused.stays) refl
    (closed-still c.remove_row.ensures.gone
    (λ q other. c.remove_row.ensures.others q other ∙ c.in_ok-add_row.ensures.others q other)) (still-reaches refl)))

pub returns : goal.returns
returns c =
    let t = c.args.t.now in
    let row = c.in_ok-at.at.row in
    let l = t.last_load + 1 in
    does-by
    (λ storage.
    let w = core_of t storage in
    let w' = core_of (record t { ref_counts = c.add_handle.new.t; loads = c.add_row.new.rows; last_load = l }) storage in
    let own : Owns w c.args.me c.args.handle is_loose row = record {
      live = c.in_ok-at.ensures.found;
      own = owner-same _ _ c.in_ok-at.ensures.owner;
      as_asked = search rules;
    } in
    let away : is_here w row.node.0 ≡ false = search rules in
    let key : key_at w row.node.0 ≡ OptionalDataKey.Some c.unwrap-key.result = grind (basics, c.key_in.ensures, c.unwrap-key.ensures) in
    let typed : type_at w row.node.0 ≡ Some c.unwrap.result.node_type = grind basics in
    let a = (c.in_default.ensures.made w').made.1 in
    let opened : Alike (with_load (with_handle w row.node Mode.LooseUnpinned (Owner.Load (record { 0 = l }))) c.unwrap-key.result
    (of_cell row.node c.unwrap.result.node_type row.number) c.args.me) w' =
    grind (basics, c.in_ok-add_row.ensures.here, c.in_ok-add_row.ensures.others) in
    record {
      begins = (
        row,
        own,
        (
          away,
          key,
          record { above = refl; is_left = omega arith },
          omega arith,
          (c.unwrap.result.node_type, typed, rw c.in_ok-at.ensures.number at opened),
        ),
      );
      refused = tt;
    })
    c.add_handle.ensures.steady (begin-whole _ _ c.requires.whole.core c.requires.owner)
    (λ begins later. let n = newer-then (newer-handle (core_alone t) _ _ _)
    (newer-alike begins.begins.2.4.2) in
    later-opened c.requires.whole.core later n l _ (grind basics)
    c.in_ok-add_row.ensures.here refl c.in_ok-add_row.ensures.others refl refl)
