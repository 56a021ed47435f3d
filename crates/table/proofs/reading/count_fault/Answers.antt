-- `table::reading::count_fault` meets its contract: it is refusal 3's test.
use Rattle.encoding.proofs.Places.{start_fits}
use Rattle.table.specs.Reading.{count_fault}
use Rattle.std.proofs.Common.{sym, ◌∙◌}
use Rattle.table.proofs.reading.count_fault.Goals as goal

pub start_of-requires : goal.start_of-requires
start_of-requires c = start_fits c.args.table.now c.count_at-n.result c.count_at-n.ensures.1

pub returns-then-odd_count : goal.returns-then-odd_count
unfolding count_fault
returns-then-odd_count c = c.if-odd_count.true ∙ simp (sym c.count_at-n.ensures.0, sym c.odd_count.ensures ∙ c.if-odd_count.true)

pub returns-else-odd_count : goal.returns-else-odd_count
unfolding count_fault
returns-else-odd_count c = simp (sym c.count_at-n.ensures.0, sym c.odd_count.ensures ∙ c.if-odd_count.false, c.start_of.ensures)
