use Rattle.pagable_traits.proofs.{JsonSteps.reads-as, Lent.list_holds, Maps.reads_list}

pub returns-clause-reads : Rattle.pagable_traits.proofs.impls.lists.VecPagableDeserialize.pagable_deserialize.Goals.returns-clause-reads
returns-clause-reads g c = reads-as c.read_collected.ensures.reads (reads_list _ _ _ _ _ _ _ _)

pub returns-clause-holds : Rattle.pagable_traits.proofs.impls.lists.VecPagableDeserialize.pagable_deserialize.Goals.returns-clause-holds
returns-clause-holds g c = list_holds _ _ _ c.read_collected.result c.read_collected.ensures.holds
