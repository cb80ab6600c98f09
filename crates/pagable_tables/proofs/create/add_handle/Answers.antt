use Rattle.pagable_tables.proofs.{
  CascadeStep.{come-fits, counts-there},
  HandleTable.length-live-le,
  SameViews.alike,
  Words.{HandleRow, Some, arith, basics, cases_Bool, cases_eq, counts_at, is_pinning, one, refl, rows_of, rules, ◌+◌, ◌≡◌},
  WorkCounts.{work-few, work-push},
}

pub returns : Rattle.pagable_tables.proofs.create.add_handle.Goals.returns
returns c =
    let t = c.args.t.now in
    let m = c.args.node.0 in
    let there = counts-there (counts_at t.nodes m) c.requires.live in
    let y = there.0 in
    let is = there.1 in
    let x : HandleRow = record { number = record { 0 = t.last_handle + 1 }; node = c.args.node; mode = c.args.mode; owner = c.args.me } in
    let k = c.count_handle.ensures in
    let rows = rows_of t in
    let fits = c.requires.steady.fits in
    let here : counts_at c.count_handle.new.nodes m ≡ Some (record y { pins = y.pins + one (is_pinning x.mode); holds = y.holds + 1 }) =
    grind (basics, k.here y is, c.pins.ensures) in
    record {
      made = λ w. record {
        made = (
          record { above = refl; is_left = search rules },
          alike _ _ c.in_ok-push.ensures.rows (λ q. grind (basics, cases_eq q m, is, here, k.others q)) refl
              (record { handles = c.push.ensures.capacity; entries = omega arith }) refl,
        );
        refused = tt;
      };
      values = λ n some falls. grind (basics, cases_eq n m, cases_Bool (is_pinning c.args.mode), is, here, k.others n);
      steady = record {
        sound = c.push.ensures.sound;
        next = c.in_ok-push.ensures.next;
        fits = rw c.in_ok-push.ensures.rows (come-fits x y fits is here (λ q ne. k.others q ne) (λ q. k.refs q) c.requires.owner);
        worked = rw c.in_ok-push.ensures.rows
            (work-push rows x t.nodes _ c.requires.steady.worked (λ n. k.bounds n)
            (k.bound _ (grind (basics, work-few m rows, length-live-le t.handles.places.items))
            (omega (arith, c.requires.steady.worked m))));
      };
    }
