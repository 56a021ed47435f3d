-- `applying::fill` meets its contract: the rows of the fields so far have their sets.
use Rattle.applying.proofs.Filling.{one_field}
use Rattle.std.proofs.Common.{arith}
use Rattle.applying.proofs.fill.Goals as goal

pub loop-field-preserved : goal.loop-field-preserved
loop-field-preserved c = one_field c.args.table.bytes.now c.args.rows.now c.loop-field.rows c.loop-field.field _ _ (omega arith) c.loop-field-test.true c.fill_field.ensures.field_filled c.fill_field.ensures.kept_past_maximum c.loop-field.invariant
