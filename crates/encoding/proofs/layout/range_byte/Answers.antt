-- `encoding::layout::range_byte` meets its contract: it reads the byte as the definition does.
use mathlib.Core.Path.{refl}
use Rattle.encoding.specs.Ranges.{range_byte}
use Rattle.encoding.proofs.layout.range_byte.Goals as goal

pub returns : goal.returns
unfolding range_byte
returns c = refl
