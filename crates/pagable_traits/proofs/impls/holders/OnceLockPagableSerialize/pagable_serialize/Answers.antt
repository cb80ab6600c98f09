use Rattle.pagable_traits.proofs.{JsonSteps.wrote-as, Parts.{held_means, refused_along, some_along}}

pub returns : Rattle.pagable_traits.proofs.impls.holders.OnceLockPagableSerialize.pagable_serialize.Goals.returns
returns g c =
    let means = held_means g.T.Carried.means.of c.args.self.now c.value_in-held.result c.value_in-held.ensures in
    wrote-as c.pagable_serialize.ensures (λ n old new w. some_along n _ old new w means)
    (λ n e h k. refused_along n _ e h means) (λ e h. h)
