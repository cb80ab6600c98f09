use Rattle.pagable_tables.proofs.{OwnedByLoad.{does-by, later-on}, RowCounts.{is-in, keeps-whole, loads-stay, stays-old}, Words.{arith, false, inl, refl}}
use Rattle.pagable_tables.proofs.leaf_entry.take_worker_numbers.Goals as goal

pub returns : goal.returns
returns c =
    let s = c.requires.whole.steady in
    let w = c.requires.whole.core in
    does-by (λ storage. refl)
    (record { sound = s.sound; next = λ i d within. (omega (arith, s.next i d within)); fits = s.fits; worked = s.worked })
    (λ plain placed. keeps-whole w (record {
      on = record {
        last = (omega arith, omega arith, omega arith);
        ordered = w.handles.ordered;
        fresh = false;
        rows = λ h among. inl (stays-old among);
        live = w.handles.live;
        typed = λ n t few is. is;
        keyed = λ n like few none. none;
      };
      within = (omega arith, w.handles.within.1, omega arith);
      places = (placed.rows, placed.list);
      listed = w.owners_there.listed;
      owners = is-in w;
      loads = loads-stay w (λ v at. at);
      cache = w.cache;
      workers = λ v is. omega (arith, w.workers_numbered v is);
      stands_open = refl;
    }))
    (λ plain later. later-on later (record { last = omega arith; kept = λ o q gives own. inl own }) refl refl refl)
