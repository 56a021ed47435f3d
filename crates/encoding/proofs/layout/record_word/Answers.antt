-- `encoding::layout::record_word` meets its contract: the record lies in the table.
use mathlib.Core.Path.{ap, ◌∙◌}
use Prim.Native.Nat.{◌+◌}
use Rattle.encoding.specs.Layout.{word, record_word}
use Rattle.encoding.proofs.Places.{record_places}
use Rattle.std.proofs.Common.{arith}
use Rattle.encoding.proofs.layout.record_word.Goals as goal

pub start_of-requires : goal.start_of-requires
start_of-requires c = omega (arith, record_places c.args.table.now c.args.i c.requires.0)

pub overflow_add-start_of : goal.overflow_add-start_of
overflow_add-start_of c = omega (arith, record_places c.args.table.now c.args.i c.requires.0)

pub word_at-requires : goal.word_at-requires
word_at-requires c = omega (arith, record_places c.args.table.now c.args.i c.requires.0)

pub returns : goal.returns
unfolding record_word
returns c = (c.word_at.ensures.0 ∙ ap (λ p. word c.args.table.now (p + c.args.k)) c.start_of.ensures, c.word_at.ensures.1)
