use Rattle.pagable_traits.proofs.{
  JsonSteps.SoFar,
  Words.{Collected, Is, MeanAll, MeansPair, both, deepest, insert_entry, json, of_key, of_value, read, string_cmp, text, ◌*◌, ◌+◌, ◌-◌, ◌≡◌},
}
use Rattle.pagable_traits.proofs.impls.json_reading.+reading_json.Given as goal

abbrev pub decreases-read_value : goal.decreases-read_value
decreases-read_value g l = 4 * (deepest - g.D.PagableDeserializer.levels l.deserializer.now) + 1

abbrev pub decreases-read_array : goal.decreases-read_array
decreases-read_array g l = 4 * (deepest - g.D.PagableDeserializer.levels l.deserializer.now)

abbrev pub decreases-read_object : goal.decreases-read_object
decreases-read_object g l = 4 * (deepest - g.D.PagableDeserializer.levels l.deserializer.now)

abbrev pub decreases-read_items : goal.decreases-read_items
decreases-read_items g l = 4 * (deepest - g.D.PagableDeserializer.levels l.deserializer.now) + 3

abbrev pub decreases-fill_array : goal.decreases-fill_array
decreases-fill_array g l = 4 * (deepest - g.D.PagableDeserializer.levels l.deserializer.now) + 2

abbrev pub decreases-read_members : goal.decreases-read_members
decreases-read_members g l = 4 * (deepest - g.D.PagableDeserializer.levels l.deserializer.now) + 3

abbrev pub decreases-read_member : goal.decreases-read_member
decreases-read_member g l = 4 * (deepest - g.D.PagableDeserializer.levels l.deserializer.now) + 2

abbrev pub invariant-fill_array-loop-index : goal.invariant-fill_array-loop-index
invariant-fill_array-loop-index g l = SoFar g.E.Env g.D.PagableDeserializer (λ ms. MeanAll (Is of_value) l.values.items ms)
    (λ c. read c json) l.count l.index l.fn.deserializer l.deserializer

abbrev pub invariant-read_members-loop-index : goal.invariant-read_members-loop-index
invariant-read_members-loop-index g l =
    SoFar g.E.Env g.D.PagableDeserializer (λ ms. Collected (MeansPair (Is of_key) (Is of_value)) (λ es e fs. fs ≡ insert_entry string_cmp es e.0 e.1)
    l.members.entries ms) (λ c. read c (both text json)) l.count l.index l.fn.deserializer l.deserializer
