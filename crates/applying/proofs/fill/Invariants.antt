-- `applying::fill` meets its contract: the rows of the fields so far have their sets.
use Rattle.applying.proofs.Filling.{FieldsBelow}
use Rattle.applying.proofs.fill.Given as goal

abbrev pub invariant-loop-field : goal.invariant-loop-field
invariant-loop-field l = FieldsBelow l.table.bytes.now l.initial.rows l.rows l.field
