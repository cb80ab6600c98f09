use Rattle.pagable_tables.proofs.{
  OwnedByLoad.{does-as, does-so},
  SameViews.{failed, same-cache},
  Views.alike-goes,
  Words.{Alike, RefCounts, Tables, arith, basics, refl, ◌+◌, ◌≡◌, ◌≤◌},
}
use Rattle.pagable_tables.specs.{Core.{Does, IsWhole}, HandleTable.Widens}
use Rattle.std.specs.VecDeque.{deque_capacity}
use Rattle.pagable_tables.proofs.tables.reserve.Goals as goal

-- there is room, and all else is as it was
grown : (t : Tables) (u : RefCounts) → IsWhole t → Widens t.ref_counts.handles u.handles → u.list.items ≡ t.ref_counts.list.items
    → deque_capacity t.ref_counts.list ≤ deque_capacity u.list
    → Does t Alike (record t { ref_counts = record t.ref_counts { handles = u.handles; list = u.list } })
grown t u w e items capacity = does-so (λ storage. grind (basics, same-cache, e.rows, items, e.capacity, capacity))
    (record {
      sound = e.sound;
      next = e.next (t.ref_counts.last_handle + 1) w.steady.next;
      fits = rw e.rows w.steady.fits;
      worked = rw e.rows w.steady.worked;
    })
    (alike-goes w.core) refl refl refl

pub returns-in_err-reserve : goal.returns-in_err-reserve
returns-in_err-reserve c = rw (failed _ c.from_residual.ensures.1)
    (does-as (grown c.args.t.now (record c.args.t.now.ref_counts { handles = c.reserve.new.handles }) c.requires c.reserve.ensures.widens refl (omega arith))
    (λ storage grown. record { stays = grown; enough = tt; wanting = (refl, grind (basics, c.in_err-reserve.ensures.err)) }))

pub returns-in_err-reserve_entries : goal.returns-in_err-reserve_entries
returns-in_err-reserve_entries c = rw (failed _ c.from_residual-in_err-reserve_entries.ensures.1)
    (does-as (grown c.args.t.now (record c.args.t.now.ref_counts { handles = c.reserve.new.handles; list = c.reserve_entries.new.list }) c.requires
    c.reserve.ensures.widens c.reserve_entries.ensures.items c.reserve_entries.ensures.capacity)
    (λ storage grown. record { stays = grown; enough = tt; wanting = (refl, grind (basics, c.in_err-reserve_entries.ensures.err)) }))

pub returns : goal.returns
returns c =
    does-as (grown c.args.t.now (record c.args.t.now.ref_counts { handles = c.reserve.new.handles; list = c.reserve_entries.new.list }) c.requires
    c.reserve.ensures.widens c.reserve_entries.ensures.items c.reserve_entries.ensures.capacity)
    (λ storage grown. record { stays = grown; enough = grind (basics, c.in_ok-reserve.ensures.ok, c.in_ok-reserve_entries.ensures.ok); wanting = tt })
