-- `encoding::layout::count_place` meets its contract: the layout gives it.
use mathlib.Core.Path.{refl}
use Rattle.encoding.specs.Layout.{count_place}
use Rattle.encoding.proofs.layout.count_place.Goals as goal

pub returns : goal.returns
unfolding count_place
returns c = refl
