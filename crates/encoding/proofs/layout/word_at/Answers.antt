-- `encoding::layout::word_at` meets its contract: the bytes read are those of the number.
use Rattle.std.proofs.Common.{arith}
use Rattle.encoding.specs.Layout.{word}
use Rattle.encoding.proofs.layout.word_at.Goals as goal

pub returns : goal.returns
unfolding word
returns c = (omega arith, omega arith)
