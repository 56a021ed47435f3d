-- `applying::fill_values` meets its contract: the sets of the values so far are in the row, each value as a run of its own.
use Rattle.applying.specs.Filled.{KeptPastMaximum}
use Rattle.encoding.specs.Layout.{maximum}
use Rattle.applying.proofs.Filling.{ValuesBelow}
use Rattle.applying.proofs.fill_values.Given as goal

abbrev pub invariant-loop-value : goal.invariant-loop-value
invariant-loop-value l = ValuesBelow l.table.bytes.now l.field l.row l.value × KeptPastMaximum (maximum l.table.bytes.now l.field) l.initial.row l.row
