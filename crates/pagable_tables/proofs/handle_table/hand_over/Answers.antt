use Rattle.pagable_tables.proofs.{
  CascadeStep.owned-by,
  HandleTable.{changed-known, only-row},
  OwnedByLoad.moved-stands,
  RowCounts.at-most-sum,
  Words.{basics, is_handle, is_value_owner, one, only_handle, ◌&&◌},
}
use Rattle.pagable_tables.proofs.handle_table.hand_over.Goals as goal

pub returns-clause-becomes : goal.returns-clause-becomes
returns-clause-becomes c = rw (← changed-known c.args.handles.now.places.items c.args.at.place c.args.at.row c.requires.sound.ordered c.requires.place
    (owned-by c.args.owner)) c.replace_row.ensures.becomes

pub returns-clause-keeps_sound : goal.returns-clause-keeps_sound
returns-clause-keeps_sound c t plain owner work w =
    let x = c.args.at.row in
    let ss = c.args.handles.now.places.items in
    let valued = only-row (λ h. one (is_handle x.number.0 h && is_value_owner h.owner)) ss _ x c.requires.sound.ordered c.requires.place
    (λ h. grind basics) in
    moved-stands _ _ (only_handle x.number) _ w owner
    (λ y among is. let less = at-most-sum (λ h. one (is_handle x.number.0 h && is_value_owner h.owner)) _ y among in grind basics) work
    (returns-clause-becomes c)
