use Rattle.pagable_traits.proofs.{Items.{array_made, lists}, Lent.{items_hold, list_holds}, Words.{Ok, arith, read, read_with}}

pub unwrap-requires : Rattle.pagable_traits.proofs.impls.lists.ArrayPagableDeserialize.pagable_deserialize.Goals.unwrap-requires
unwrap-requires g c = array_made _ _ g.T.Carried.means.of c.in_ok-values.values _ _ _ _ c.try_from.result c.in_ok-values.ensures.reads.gives c.try_from.ensures

pub returns-clause-reads : Rattle.pagable_traits.proofs.impls.lists.ArrayPagableDeserialize.pagable_deserialize.Goals.returns-clause-reads
unfolding read read_with
returns-clause-reads g c = let values = c.in_ok-values.ensures.reads in record {
  gives = grind (arith, lists);
  moves = values.moves;
  same_env = values.same_env;
  same_levels = values.same_levels;
}

pub returns-clause-holds : Rattle.pagable_traits.proofs.impls.lists.ArrayPagableDeserialize.pagable_deserialize.Goals.returns-clause-holds
returns-clause-holds g c =
    let values = c.in_ok-values.values in
    let made = rw c.unwrap.ensures at c.try_from.ensures in
    let held = list_holds g.T.Carried.beside _ (λ v. v.items) (Ok values) c.in_ok-values.ensures.holds in
    items_hold g.T.Carried.beside (λ v. v.items) (λ xs. xs) made.0 held
