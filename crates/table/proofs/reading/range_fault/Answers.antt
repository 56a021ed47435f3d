-- `table::reading::range_fault` meets its contract: it is refusal 7's test in the field.
use Rattle.encoding.proofs.Places.{node_header}
use Rattle.table.proofs.Faults.{range_low, range_high}
use Rattle.std.proofs.Common.{◌∙◌}
use borrow.Author.Tests.{lt-ltb}
use Rattle.table.proofs.reading.range_fault.Goals as goal

pub maximum_at-maximum-requires : goal.maximum_at-maximum-requires
maximum_at-maximum-requires c = (node_header c.args.table.now c.args.i c.requires.node_held, c.requires.field_lt_fields)

pub returns-then-maximum-low : goal.returns-then-maximum-low
returns-then-maximum-low c =
    lt-ltb _ _ c.if-maximum-low.true
    ∙ range_low c.args.table.now c.args.i c.args.field _ _ c.maximum_at-maximum.ensures c.range_at-low.ensures.0 c.if-maximum-low.true

pub returns-else-maximum-low : goal.returns-else-maximum-low
returns-else-maximum-low c =
    range_high c.args.table.now c.args.i c.args.field _ _ c.maximum_at-maximum.ensures c.range_at-low.ensures.0 _ c.range_at-low.ensures.1
    c.if-maximum-low.false
