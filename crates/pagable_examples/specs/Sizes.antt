-- The size of a glass: how many tenths of a litre it holds, if it is a large one.
use Rattle.pagable_examples.specs.declared.size.Size.{Size}
use Rattle.std.specs.Prelude.{None, Option, Some, ℕ}
use Rattle.pagable_examples.specs.declared.size.Size.TheVariants as sizes

abbrev pub tenths_of : Size → Option ℕ
tenths_of sizes.Small = None
tenths_of (sizes.Large tenths) = Some tenths
