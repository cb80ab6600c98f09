use Rattle.pagable_traits.proofs.{Items.{each-refused, each-written, shows_slice}, JsonSteps.wrote-as, Words.some}

pub returns : Rattle.pagable_traits.proofs.impls.lists.write_items.Goals.returns
returns g c =
    let shows = shows_slice {N = g.T.Carried.means.of} c.iter.ensures.rest in
    wrote-as c.write_each.ensures (λ n old new w. each-written shows n _ old new w)
    (λ n e h k. each-refused shows (some g.T.Carried.means) n _ e h) (λ e h. h)
