-- `encoding::layout::start_of` meets its contract: the sums are those of the layout.
use mathlib.Core.Path.{refl}
use Rattle.encoding.specs.Layout.{count_place, header, record_size, start}
use Rattle.std.proofs.Common.{arith}
use Rattle.encoding.proofs.layout.start_of.Goals as goal

pub overflow_mul-result : goal.overflow_mul-result
unfolding count_place header record_size start
overflow_mul-result c = omega arith

pub overflow_add-result : goal.overflow_add-result
unfolding count_place header record_size start
overflow_add-result c = omega arith

pub returns : goal.returns
unfolding count_place header record_size start
returns c = refl
