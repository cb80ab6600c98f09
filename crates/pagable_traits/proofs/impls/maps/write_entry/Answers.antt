use Rattle.pagable_traits.proofs.{
  JsonSteps.{wrote-err, wrote-then},
  Parts.{refuses_first, refuses_second, writes_pair},
  Words.{inl, inr, some},
}
use Rattle.pagable_traits.proofs.impls.maps.write_entry.Goals as goal

pub returns-in_err-pagable_serialize : goal.returns-in_err-pagable_serialize
returns-in_err-pagable_serialize g c = wrote-err c.from_residual.ensures.1 c.in_err-pagable_serialize.ensures
    (λ n l h. refuses_first _ _ (some g.V.Carried.means) _ n _ _ _ l) (λ h. inl h)

pub returns : goal.returns
returns g c =
    let key = c.in_ok-pagable_serialize.ensures in
    wrote-then key (rw key.same_env at c.pagable_serialize-2.ensures) (λ n old mid new f w. writes_pair _ _ _ n _ _ old mid new f w)
    (λ n e l h. refuses_second _ _ (some g.K.Carried.means) _ n _ _ e l) (λ e h. inr h)
