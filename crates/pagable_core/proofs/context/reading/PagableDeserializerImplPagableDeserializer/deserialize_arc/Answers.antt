use Rattle.pagable_core.proofs.Taking.{none_left, took, took_moves, took_one, used_of_none}
use Rattle.std.proofs.Common.{rules}

pub returns-in-Some-clause-gives :
    Rattle.pagable_core.proofs.context.reading.PagableDeserializerImplPagableDeserializer.deserialize_arc.Goals.returns-in-Some-clause-gives
returns-in-Some-clause-gives g c =
    took (g.R.References.answer c.args.self.now.references) (g.R.References.answer c.reference.new.self) (g.R.References.lends_at c.args.self.now.references)
    (g.R.References.lends_at c.reference.new.self) c.args.self.now.keys c.next_key.new.self (g.B.Reader.reader_state c.args.self.now.reader) c.in-Some.key
    c.reference.ensures.same_answers c.reference.ensures.same_lent c.in-Some.ensures.key c.in-Some.ensures.moved c.args.kind.0 c.position-place.result
    c.reference.result c.position-place.ensures.place c.reference.ensures.answer

pub returns-in-None-clause-gives :
    Rattle.pagable_core.proofs.context.reading.PagableDeserializerImplPagableDeserializer.deserialize_arc.Goals.returns-in-None-clause-gives
returns-in-None-clause-gives g c = search (rules, none_left)

pub returns-in-None-clause-used :
    Rattle.pagable_core.proofs.context.reading.PagableDeserializerImplPagableDeserializer.deserialize_arc.Goals.returns-in-None-clause-used
returns-in-None-clause-used g c = search (
  rules,
  used_of_none (g.R.References.answer c.args.self.now.references)
      (g.R.References.lends_at c.args.self.now.references),
)

pub returns-in-Some-clause-used :
    Rattle.pagable_core.proofs.context.reading.PagableDeserializerImplPagableDeserializer.deserialize_arc.Goals.returns-in-Some-clause-used
returns-in-Some-clause-used g c =
    took_one (g.R.References.answer c.args.self.now.references) (g.R.References.answer c.reference.new.self)
    (g.R.References.lends_at c.args.self.now.references) (g.R.References.lends_at c.reference.new.self)
    c.args.self.now.keys c.next_key.new.self (g.B.Reader.reader_state c.args.self.now.reader) c.in-Some.key c.reference.ensures.same_answers
    c.reference.ensures.same_lent c.in-Some.ensures.key c.in-Some.ensures.moved

pub returns-in-Some-clause-moves :
    Rattle.pagable_core.proofs.context.reading.PagableDeserializerImplPagableDeserializer.deserialize_arc.Goals.returns-in-Some-clause-moves
returns-in-Some-clause-moves g c =
    took_moves (g.R.References.answer c.args.self.now.references) (g.R.References.answer c.reference.new.self)
    (g.R.References.lends_at c.args.self.now.references) (g.R.References.lends_at c.reference.new.self)
    c.args.self.now.keys c.next_key.new.self (g.B.Reader.reader_state c.args.self.now.reader) c.in-Some.key c.reference.ensures.same_answers
    c.reference.ensures.same_lent c.in-Some.ensures.key c.in-Some.ensures.moved
    c.in-Some.ensures.within
