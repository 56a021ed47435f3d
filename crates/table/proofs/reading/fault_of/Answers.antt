-- `table::reading::fault_of` meets its contract: the first of refusals 5 to 8 that applies.
use mathlib.Core.Path.{sym, ◌∙◌}
use Rattle.answer.specs.Refusals.{settled}
use Rattle.table.proofs.Faults.{level_deep, level_allowed}
use Rattle.std.proofs.Common.{arith}
use Rattle.table.proofs.reading.fault_of.Goals as goal

pub returns-then-span_fault : goal.returns-then-span_fault
unfolding settled
returns-then-span_fault c = simp (sym c.span_fault.ensures ∙ c.if-span_fault.true)

pub returns-then-depth-ge-LEVELS : goal.returns-then-depth-ge-LEVELS
unfolding settled
returns-then-depth-ge-LEVELS c = simp
    (sym c.span_fault.ensures ∙ c.if-span_fault.false, level_deep c.args.table.now c.args.i c.args.depth c.requires.i_value (omega (arith, c.if-depth-ge-LEVELS.true)))

pub returns-then-ranges_fault : goal.returns-then-ranges_fault
unfolding settled
returns-then-ranges_fault c = simp
    (sym c.span_fault.ensures ∙ c.if-span_fault.false, level_allowed c.args.table.now c.args.i c.args.depth c.requires.i_value (omega (arith, c.if-depth-ge-LEVELS.false)), sym c.ranges_fault.ensures ∙ c.if-ranges_fault.true)

pub returns-then-card_fault : goal.returns-then-card_fault
unfolding settled
returns-then-card_fault c = simp
    (sym c.span_fault.ensures ∙ c.if-span_fault.false, level_allowed c.args.table.now c.args.i c.args.depth c.requires.i_value (omega (arith, c.if-depth-ge-LEVELS.false)), sym c.ranges_fault.ensures ∙ c.if-ranges_fault.false, sym c.card_fault.ensures ∙ c.if-card_fault.true)

pub returns-else-card_fault : goal.returns-else-card_fault
unfolding settled
returns-else-card_fault c = simp
    (sym c.span_fault.ensures ∙ c.if-span_fault.false, level_allowed c.args.table.now c.args.i c.args.depth c.requires.i_value (omega (arith, c.if-depth-ge-LEVELS.false)), sym c.ranges_fault.ensures ∙ c.if-ranges_fault.false, sym c.card_fault.ensures ∙ c.if-card_fault.false)
