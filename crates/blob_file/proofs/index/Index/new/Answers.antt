use Rattle.std.proofs.Common.{ap}
use Rattle.std.specs.Map.{lookup}
use Rattle.std.specs.Prelude.{nat_eq, string_bytes}
use Rattle.std.specs.Str.{bytes_eq}
use Rattle.blob_file.specs.Rows.{places_in, told_in}
use Rattle.blob_file.proofs.index.Index.new.Goals as goal

pub returns : goal.returns
unfolding places_in told_in
returns c = record {
  places = λ key. ap (lookup (nat_eq key)) c.new.ensures.empty;
  names = λ name. ap (lookup (λ k. bytes_eq name (string_bytes k))) c.new-2.ensures.empty;
}
