-- `encoding::layout::count_at` meets its contract: the number read is the count.
use Rattle.std.proofs.Common.{arith, ap}
use Rattle.encoding.specs.Layout.{word, count}
use Rattle.encoding.proofs.Places.{count_there}
use Rattle.encoding.proofs.layout.count_at.Goals as goal

pub word_at-requires : goal.word_at-requires
word_at-requires c = omega (arith, count_there c.args.table.now c.requires)

pub returns : goal.returns
unfolding count
returns c =
    let at_place = ap (word c.args.table.now) c.count_place-place.ensures in
    (omega (arith, at_place), omega arith)
