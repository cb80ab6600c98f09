use Rattle.pagable_core.specs.Data.{blob_of}
use Rattle.pagable_load.proofs.{HeldByPins.read_holds, LoadSteps.reads_with}
use Rattle.std.proofs.Common.{ap, rules}
use Rattle.std.specs.Arc.{arc_value}

pub returns-clause-reads : Rattle.pagable_load.proofs.decoding.read_with_references.Goals.returns-clause-reads
returns-clause-reads g c = λ none. record {
  after = _;
  gives = reads_with (g.E.Node.NodeSet.read_causes c.args.node_type) g.E.Node.NodeSet.means g.E.Node.NodeSet.shape_of g.E.Env.parts c.args.node_type
      (g.A.Access.acting c.args.access.now).environment
      _ _ c.args.got.now _ _ (blob_of c.args.blob.now) _ _ _ c.read-read.result (rw none at c.new-deserializer.ensures.input_state)
      c.new-deserializer.ensures.levels (search rules) c.as_slice.ensures.value c.as_slice-2.ensures.value c.read-read.ensures.gives;
}

pub returns-clause-holds : Rattle.pagable_load.proofs.decoding.read_with_references.Goals.returns-clause-holds
returns-clause-holds g c = read_holds arc_value c.args.got.now c.args.lent.now _ (ap (λ st. st.lent) c.new-deserializer.ensures.input_state) _ _
    c.read-read.result
    c.requires.each c.read-read.ensures.holds
