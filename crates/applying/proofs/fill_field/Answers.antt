-- `applying::fill_field` meets its contract: marking the runs keeps the sets.
use Rattle.applying.proofs.Filling.{with_runs}
use Rattle.std.proofs.Common.{arith}
use Rattle.applying.proofs.fill_field.Goals as goal

pub returns-clause-field_filled : goal.returns-clause-field_filled
returns-clause-field_filled c =
    with_runs c.args.table.bytes.now c.args.field c.fill_values.new.row c.from.result c.mark_runs.new.row (omega (arith, c.maximum_at.ensures)) c.mark_runs.array_long
    c.mark_runs.ensures.kept c.mark_runs.ensures.runs c.fill_values.ensures.values_filled
