use Rattle.pagable_pageout.proofs.{
  ItemLast.{refused-ends, written-ends},
  Joint.{both-second, both-stays},
  Stacks.advance-way,
  Words.{EachIsAwaited, None, advance, ap, arc_value, arith, back_of, length, subst, sym, tells_map, to_finish, todos, was_refused, written_of, ◌∙◌, ◌∷◌},
  WorkerTurns.{same-shelf, write-fails, write-turns},
}
use Rattle.pagable_pageout.proofs.turns.write.Goals as goal
use Rattle.pagable_pageout.specs.{Tasks.fails, Turns.just_open}

pub returns-in-Ok-clause-goes : goal.returns-in-Ok-clause-goes
returns-in-Ok-clause-goes g c =
    let node = just_open c.args.reference c.args.place c.args.through (written_of (arc_value c.in-Ok.told)) in
    let e = c.advance.ensures.todo ∙ ap (λ t. advance (t ∷ todos c.write_claimed.new.path.items)) c.in-Ok.ensures.open
    ∙ ap (λ ps. advance (to_finish node ∷ todos ps)) c.in-Ok.ensures.path in
    record {
      way = subst EachIsAwaited (sym e) (advance-way node (todos c.args.path.now.items) (omega arith) c.requires.0 (omega (arith, c.requires.1)));
      leads = let same = ap (λ ps. length (todos ps)) c.in-Ok.ensures.path in let less = c.advance.ensures.less in omega (arith, same, less);
    }

pub returns-in-Ok-clause-step : goal.returns-in-Ok-clause-step
returns-in-Ok-clause-step g c n =
    let w = written_of (arc_value c.in-Ok.told) in
    let e = c.advance.ensures.todo ∙ ap (λ t. advance (t ∷ todos c.write_claimed.new.path.items)) c.in-Ok.ensures.open
    ∙ ap (λ ps. advance (to_finish (just_open c.args.reference c.args.place c.args.through w) ∷ todos ps)) c.in-Ok.ensures.path in
    let noted = rw c.in-Ok.ensures.listed at c.note_written.ensures in
    rw c.referenced_identity-identity.ensures (both-second (tells_map (λ s h. c.in-Ok.ensures.forms s c.args.pin h) c.share-shared.ensures)
    (rw c.referenced_identity-identity.ensures at noted)
    (λ s x y forms same. write-turns c.advance.ensures.plain forms same e))

pub returns-in-Err-clause-step : goal.returns-in-Err-clause-step
returns-in-Err-clause-step g c n =
    let e = c.fail_with.ensures.todo ∙ ap (λ ps. fails (was_refused c.in-Err.e) (back_of None (todos ps))) c.in-Err.ensures.path in
    rw c.referenced_identity-identity.ensures (both-stays (tells_map (λ s h. c.in-Err.ensures.forms s c.args.pin h) c.share-shared.ensures)
    (λ s x forms. write-fails c.fail_with.ensures.plain forms (same-shelf x) e))

pub returns-in-Ok-clause-ends : goal.returns-in-Ok-clause-ends
returns-in-Ok-clause-ends g c =
    let node = just_open c.args.reference c.args.place c.args.through (written_of (arc_value c.in-Ok.told)) in
    let e = c.advance.ensures.todo ∙ ap (λ t. advance (t ∷ todos c.write_claimed.new.path.items)) c.in-Ok.ensures.open
    ∙ ap (λ ps. advance (to_finish node ∷ todos ps)) c.in-Ok.ensures.path in
    written-ends node (λ w h. h) e

pub returns-in-Err-clause-ends : goal.returns-in-Err-clause-ends
returns-in-Err-clause-ends g c = refused-ends c.fail_with.ensures.todo
