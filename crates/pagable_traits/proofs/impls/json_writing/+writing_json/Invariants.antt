use Rattle.pagable_traits.proofs.{Json.members-so-far, Words.{Error, Is, MeanAll, Ok, Result, Wrote, item_forms, json, json_causes, of_value, take}}
use Rattle.pagable_traits.proofs.impls.json_writing.+writing_json.Given as goal

abbrev pub invariant-write_items-loop-item : goal.invariant-write_items-loop-item
invariant-write_items-loop-item g l = Wrote g.E.Env g.S.PagableSerializer (item_forms (MeanAll (Is of_value) (take l.item-index l.item-items)) json) json_causes
    l.fn.serializer l.serializer (let r : Result (Unit {0}) Error = Ok tt in r)

abbrev pub invariant-write_members-loop-key : goal.invariant-write_members-loop-key
invariant-write_members-loop-key g l = Wrote g.E.Env g.S.PagableSerializer (members-so-far l.fn.members.entries l.key-iterator) json_causes l.fn.serializer
    l.serializer (let r : Result (Unit {0}) Error = Ok tt in r)
