use Rattle.pagable_tables.proofs.{HandleTable.{ok-then, sound-push}, Words.{ap, refl, [], ◌++◌, ◌∙◌, ◌∷◌}}

pub returns-clause-sound : Rattle.pagable_tables.proofs.handle_table.push.Goals.returns-clause-sound
returns-clause-sound c =
    let widens = c.make_room.ensures.widens in
    sound-push _ _ _ widens.sound (widens.next c.args.row.number.0 c.requires.next)
    (ok-then _ _ (c.push.ensures.succeeds c.in_ok-make_room.ensures.ok) c.push.ensures.items
    ∙ ap (λ p. c.make_room.new.handles.places.items ++ p ∷ []) c.new.ensures) refl
