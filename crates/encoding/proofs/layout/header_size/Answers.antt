-- `encoding::layout::header_size` meets its contract: the layout gives it.
use mathlib.Core.Path.{refl}
use Rattle.encoding.specs.Layout.{count_place, header}
use Rattle.encoding.proofs.layout.header_size.Goals as goal

pub returns : goal.returns
unfolding count_place header
returns c = refl
