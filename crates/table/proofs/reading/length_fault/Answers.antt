-- `table::reading::length_fault` meets its contract: it is refusal 1's test.
use Rattle.encoding.proofs.Places.{version_there}
use Rattle.table.proofs.Faults.{length_short, length_other}
use Rattle.std.proofs.Common.{arith, ◌∙◌}
use borrow.Author.Tests.{lt-ltb}
use Rattle.table.proofs.reading.length_fault.Goals as goal

pub word_at-requires : goal.word_at-requires
word_at-requires c = omega (arith, version_there c.args.table.now (omega arith))

pub returns-then-table-header_size : goal.returns-then-table-header_size
returns-then-table-header_size c = lt-ltb _ _ c.if-table-header_size.true ∙ length_short c.args.table.now (omega arith)

pub returns-else-table-header_size : goal.returns-else-table-header_size
returns-else-table-header_size c = length_other c.args.table.now c.from.result (c.from.ensures ∙ c.word_at.ensures.0) (omega arith)
