use Rattle.pagable_tables.proofs.{
  CallsKeepWhole.schedule-goes,
  CascadeEnd.drops-still,
  CascadeStep.{begun-whole, closed-is},
  OwnedByLoad.{drops-with, lazily-so, nothing-release_at},
  SameViews.{alike, failed, owner-same, still},
  Views.{alike-goes, not-a-value},
  Words.{Err, Error, Ok, Owner, Owns, ScheduleCall, ap, arith, basics, core_alone, core_of, inl, inr, is_unpinned, is_value_owner, live, not, only_handle},
  Words.{refl, rows_of, rules, ◌∙◌},
  WorkCounts.work-moved,
}
use Rattle.pagable_tables.proofs.pending.schedule_for_paging.Goals as goal

pub returns-in_err-at : goal.returns-in_err-at
returns-in_err-at g c =
    rw (failed _ c.from_residual.ensures.1) (nothing-release_at c.requires.whole
    (λ storage e. record { moves = tt; refused = record { why = inl (c.in_err-at.ensures.fault storage is_unpinned); stays = still _ } }))

pub returns-then-not-lists : goal.returns-then-not-lists
returns-then-not-lists g c =
    let t = c.args.t.now in
    let row = c.in_ok-at.at.row in
    drops-with (lazily-so {lists = c.args.lists} {old = t} {new = record t { ref_counts = c.try_release_at.new.t }}
    {step = λ w w'. ScheduleCall w c.args.me c.args.handle (Ok tt) w'}
    (λ storage e.
    let w = core_of t storage in
    let falls = rw c.in_ok-at.ensures.number at (c.try_release_at.ensures.falls w w (begun-whole t storage _ c.requires.whole e) (omega arith)) in
    let own : Owns w c.args.me c.args.handle is_unpinned row =
    record { live = c.in_ok-at.ensures.found; own = owner-same _ _ c.in_ok-at.ensures.owner; as_asked = search rules } in
    record {
      moves = (
        row,
        own,
        inr (
          closed-is e ∙ ap not c.if-not-lists.true,
          record { told = c.try_release_at.result; falls = falls },
        ),
      );
      refused = tt;
    })
    c.try_release_at.ensures.steady (schedule-goes _ _ c.requires.whole.core c.requires.holder) refl refl refl)
    c.try_release_at.ensures.drops

pub returns : goal.returns
returns g c =
    let w = c.requires.whole.steady in
    let unvalued = ap is_value_owner (owner-same _ _ c.in_ok-at.ensures.owner)
    ∙ not-a-value (core_alone c.args.t.now) _ c.requires.holder in
    let steady = c.hand_over.ensures.keeps_sound (record c.args.t.now.ref_counts { list = c.push_back.new.self }) unvalued refl
    (work-moved _ (only_handle c.in_ok-at.at.row.number) Owner.List (rows_of c.args.t.now.ref_counts) refl
    w.worked)
    (record { sound = w.sound; next = w.next; fits = w.fits; worked = w.worked }) in
    let t = c.args.t.now in
    let new = record t { ref_counts = record t.ref_counts { list = c.push_back.new.self; handles = c.hand_over.new.handles } } in
    drops-with (lazily-so {lists = c.args.lists} {old = t} {new = new} {step = λ w w'. ScheduleCall w c.args.me c.args.handle (Ok tt) w'}
    (λ storage e.
    grind (
      basics,
      owner-same,
      closed-is,
      alike,
      c.in_ok-at.ensures.found,
      c.in_ok-at.ensures.owner,
      c.if-not-lists.false,
      c.hand_over.ensures.becomes.rows,
      c.in_ok-at.ensures.number,
    ))
    steady (schedule-goes _ _ c.requires.whole.core c.requires.holder) refl refl refl)
    (drops-still _ _ c.requires.whole.steady)

pub returns-in_err-reserve : goal.returns-in_err-reserve
returns-in_err-reserve g c =
    let t = c.args.t.now in
    let w = c.requires.whole.steady in
    let e = c.reserve.ensures in
    let new = record t { ref_counts = record t.ref_counts { list = c.reserve.new.self } } in
    rw (failed _ c.from_residual-in_err-reserve.ensures.1) (drops-with
    (lazily-so {lists = c.args.lists} {old = t} {new = new} {step = λ w w'. ScheduleCall w c.args.me c.args.handle (Err Error.OutOfMemory) w'}
    (λ storage e1. grind (
      basics,
      closed-is,
      alike,
      c.in_ok-at.ensures.found,
      c.in_ok-at.ensures.owner,
      c.if-not-lists.false,
      e.items,
      e.full,
      e.capacity,
    ))
    (record { sound = w.sound; next = w.next; fits = w.fits; worked = w.worked }) (λ call. alike-goes c.requires.whole.core call.refused.stays) refl refl refl)
    (drops-still _ _ w))
