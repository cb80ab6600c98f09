use Rattle.std.proofs.Common.{inr, refl}

pub returns : Rattle.pagable_traits.proofs.arc.not_lent_error.Goals.returns
returns c = inr (_, refl)
