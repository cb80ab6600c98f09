use Rattle.pagable_tables.proofs.{OwnedByLoad.widens-does, SameViews.{failed, room-alike}, Words.{inr, refl, basics}}
use Rattle.pagable_tables.proofs.create.make_room_for_node.Goals as goal

pub returns-in_err-and-clause-does : goal.returns-in_err-and-clause-does
returns-in_err-and-clause-does c = widens-does c.requires c.reserve-handles.ensures.widens
    (λ n. rw (c.reserve-nodes.ensures.rows n) refl) (λ n. rw (c.reserve-nodes.ensures.rows n) refl) (λ n. rw (c.reserve-nodes.ensures.rows n) refl)
    (λ kind key. rw c.reserve-cache.ensures.entries refl)

pub returns-in_err-and-clause-refused : goal.returns-in_err-and-clause-refused
returns-in_err-and-clause-refused c storage = rw (failed _ c.from_residual.ensures.1)
    (record { why = inr (refl, grind basics, tt); stays = room-alike ((returns-in_err-and-clause-does c).does storage) })

pub returns-clause-does : goal.returns-clause-does
returns-clause-does c = widens-does c.requires c.reserve-handles.ensures.widens
    (λ n. rw (c.reserve-nodes.ensures.rows n) refl) (λ n. rw (c.reserve-nodes.ensures.rows n) refl) (λ n. rw (c.reserve-nodes.ensures.rows n) refl)
    (λ kind key. rw c.reserve-cache.ensures.entries refl)
