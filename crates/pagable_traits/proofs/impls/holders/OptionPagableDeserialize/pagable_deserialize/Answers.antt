use Rattle.pagable_traits.proofs.{Parts.reads, Words.{arith, read, read_with}}

pub returns-then-not-branch-clause-reads :
    Rattle.pagable_traits.proofs.impls.holders.OptionPagableDeserialize.pagable_deserialize.Goals.returns-then-not-branch-clause-reads
unfolding read read_with
returns-then-not-branch-clause-reads g c = let flag = c.in_ok-read_flag.ensures in
    record { gives = grind (arith, reads); moves = flag.moves; same_env = flag.same_env; same_levels = flag.same_levels }
