-- `targets::subjects_in` meets its contract, by whether the range wraps.
use Rattle.std.proofs.Common.{arith}
use Rattle.targets.proofs.SubjectsInRange.{set_unwrapped, set_wrapped}
use Rattle.targets.proofs.subjects_in.Goals as goal

pub returns-then-range : goal.returns-then-range
returns-then-range c =
    set_wrapped c.args.range.low c.args.range.high c.subjects_from-from_low.result c.subjects_up_to-up_to_high.result
    c.subjects_from-from_low.ensures c.subjects_up_to-up_to_high.ensures (omega arith)

pub returns-else-range : goal.returns-else-range
returns-else-range c =
    set_unwrapped c.args.range.low c.args.range.high c.subjects_from-from_low.result c.subjects_up_to-up_to_high.result
    c.subjects_from-from_low.ensures c.subjects_up_to-up_to_high.ensures (omega arith)
