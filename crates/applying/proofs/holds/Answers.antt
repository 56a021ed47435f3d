-- `applying::holds` meets its contract: the range test of ruling, from the word of node i's ranges.
use mathlib.Core.Path.{◌∙◌}
use Rattle.targets.proofs.TargetFromWord.{range_from}
use Rattle.applying.proofs.holds.Goals as goal

pub returns : goal.returns
returns c = c.in_range.ensures
    ∙ range_from c.args.table.now c.args.i c.ranges_at-ranges.result c.ranges_at-ranges.ensures.reads_back c.args.field c.range_of.result.low
    c.range_of.result.high c.args.value c.requires.1 c.range_of.ensures.0 c.range_of.ensures.1
