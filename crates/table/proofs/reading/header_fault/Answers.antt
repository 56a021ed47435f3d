-- `table::reading::header_fault` meets its contract: the first of refusals 1 to 3 that applies.
use mathlib.Core.Path.{sym, ◌∙◌}
use Rattle.answer.specs.Refusals.{settled}
use Rattle.table.proofs.Faults.{length_passed}
use Rattle.table.proofs.reading.header_fault.Goals as goal

pub version_fault-requires : goal.version_fault-requires
version_fault-requires c = length_passed c.args.table.now (sym c.length_fault.ensures ∙ c.if-length_fault.false)

pub count_fault-requires : goal.count_fault-requires
count_fault-requires c = length_passed c.args.table.now (sym c.length_fault.ensures ∙ c.if-length_fault.false)

pub returns-then-length_fault : goal.returns-then-length_fault
unfolding settled
returns-then-length_fault c = simp (sym c.length_fault.ensures ∙ c.if-length_fault.true)

pub returns-then-version_fault : goal.returns-then-version_fault
unfolding settled
returns-then-version_fault c = simp (sym c.length_fault.ensures ∙ c.if-length_fault.false, sym c.version_fault.ensures ∙ c.if-version_fault.true)

pub returns-then-count_fault : goal.returns-then-count_fault
unfolding settled
returns-then-count_fault c = simp
    (sym c.length_fault.ensures ∙ c.if-length_fault.false, sym c.version_fault.ensures ∙ c.if-version_fault.false, sym c.count_fault.ensures ∙ c.if-count_fault.true)

pub returns-else-count_fault : goal.returns-else-count_fault
unfolding settled
returns-else-count_fault c = simp
    (sym c.length_fault.ensures ∙ c.if-length_fault.false, sym c.version_fault.ensures ∙ c.if-version_fault.false, sym c.count_fault.ensures ∙ c.if-count_fault.false)
