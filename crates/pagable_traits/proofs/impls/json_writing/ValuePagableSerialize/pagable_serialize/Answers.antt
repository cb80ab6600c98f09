use Rattle.pagable_traits.proofs.{JsonSteps.wrote-as, Parts.err_along}

pub returns : Rattle.pagable_traits.proofs.impls.json_writing.ValuePagableSerialize.pagable_serialize.Goals.returns
returns g c =
    let told = c.write_value.ensures in
    record {
      wrote = wrote-as told (λ n old new w. w) (λ n e l h. l.0) (λ e h. h);
      first_fault = err_along c.write_value.result told.refused (λ e l. l.1);
    }
