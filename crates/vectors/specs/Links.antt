-- How a value whose writer fails would be encoded: as no byte.
use Rattle.pagable_nodes.specs.Encoding.{Encoding, empty, fields}
use Rattle.pagable_value_spec.specs.Refusals.{may_refuse_writing}
use Rattle.std.specs.Prelude.{true, ◌≡◌}
use Rattle.vectors.specs.declared.links.Refusing.{Refusing}

abbrev pub seen : Encoding Refusing
seen = fields (λ r. r.nothing) empty

abbrev pub refusing : Encoding Refusing
refusing = record {
  shape = seen.shape;
  means = seen.means;
  single = seen.single;
  writes = record { are = λ e. may_refuse_writing e ≡ true; may = λ e h. h };
  reads = seen.reads;
  in_order = seen.in_order;
  one_form = seen.one_form;
  is_read = seen.is_read;
}
