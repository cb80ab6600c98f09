use Rattle.pagable_traits.proofs.Parts.{basic_written}
use Rattle.pagable_value_spec.specs.{Form.unsigned-form, Meaning.number, Shape.unsigned}
use Rattle.std.proofs.Common.{rules}
use Rattle.std.specs.Int.{w16}

pub returns-clause-wrote : Rattle.pagable_examples.proofs.ticket.TicketPagableEagerSerialize.eager_pagable_serialize.Goals.returns-clause-wrote
returns-clause-wrote g c =
    let law = g.met.S.PagableSerializer in
    let old = c.args.serializer.now in
    let bytes = c.write_u16.new.self in
    basic_written g.E.Env g.S.PagableSerializer c.write_u16.result (unsigned w16) number c.args.self.now.number _
    (unsigned-form _ w16 c.args.self.now.number (search rules)) c.serde.ensures.value
    (law.out_of_with old bytes) (law.environment_of_with old bytes) (law.levels_of_with old bytes) c.write_u16.ensures
