use Rattle.pagable_tables.proofs.{
  LeafLoad.pins-leaf,
  LoadEnd.has-come,
  Words.{Alike, Mode, ap, basics, core_of, counts_at, find_row, has_value_once_loaded, live, rows_of, subst, with_handle, with_mode, ◌+◌, ◌∙◌},
}
use Rattle.pagable_tables.specs.Core.{no_blobs}
use Rattle.pagable_tables.proofs.leaf.pin_loaded_leaf.Goals as goal

pub unreachable-requires : goal.unreachable-requires
unreachable-requires c =
    let left = c.requires.leaf.handles_left in
    let why = (c.in_default.ensures.does.does no_blobs).refused.why in
    grind (basics, c.requires.place, c.requires.whole.steady.sound, left, why)

pub returns-clause-pins : goal.returns-clause-pins
returns-clause-pins c storage =
    let row = c.args.leaf.row in
    let pinned = (c.in-Ok.ensures.does.does storage).pinned in
    let taken = c.take_numbers.ensures.does.does storage in
    pins-leaf _ _ storage c.requires.whole c.in-Ok.ensures.does.whole _ _ c.requires.leaf
    (subst (λ w. Alike (with_handle (with_mode w row.number Mode.LoosePinned) row.node Mode.Pinned c.args.me) (core_of c.pin_in_memory.new.t storage))
    taken pinned.1)
    (λ kind k. ap (λ t. (core_of t storage).cache kind k) (c.in-Ok.ensures.same)
    ∙ ap (λ t. (core_of t storage).cache kind k) c.take_numbers.ensures.same)
    _ (pinned.0.above ∙ ap (λ w. w.last.handle + 1) taken)

pub returns-clause-values : goal.returns-clause-values
returns-clause-values c n =
    let same = c.take_numbers.ensures.same in
    let row = c.args.leaf.row in
    has-come _ _ _ row _ (c.in-Ok.ensures.does.does no_blobs).pinned.1 c.take_numbers.ensures.does.whole
    c.in-Ok.ensures.does.whole (ap (λ u. find_row row.number.0 (rows_of u.ref_counts)) same ∙ c.requires.leaf.owned.live) n
    ∙ ap (λ u. has_value_once_loaded (counts_at u.ref_counts.nodes) row.node n) same
