-- `encoding::layout::maximum_at` meets its contract: the byte read is the maximum.
use mathlib.Core.Path.{refl}
use Rattle.encoding.specs.Layout.{count_place, maximum}
use Rattle.encoding.proofs.Places.{count_there}
use Rattle.std.proofs.Common.{arith}
use Rattle.encoding.proofs.layout.maximum_at.Goals as goal

pub bounds-table-field : goal.bounds-table-field
unfolding count_place
bounds-table-field c = omega (arith, count_there c.args.table.now c.requires.0)

pub returns : goal.returns
unfolding maximum
returns c = refl
