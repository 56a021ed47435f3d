-- `targets::members_from` meets its contract: those in the range of subjects are left, where the other values lie in their ranges.
use Rattle.std.proofs.Common.{arith}
use Rattle.targets.proofs.SubjectsInRange.{left_none, left_some}
use Rattle.targets.proofs.members_from.Goals as goal

pub returns-then-not-others_hold_from : goal.returns-then-not-others_hold_from
returns-then-not-others_hold_from c =
    left_none c.args.ranges c.args.others.now c.args.members c.others_hold_from.result c.others_hold_from.ensures c.if-not-others_hold_from.true

pub returns : goal.returns
returns c =
    left_some c.args.ranges c.args.others.now c.args.members c.others_hold_from.result c.others_hold_from.ensures c.if-not-others_hold_from.false
    (omega arith) c.range_of.result.low c.range_of.result.high c.subjects_in.result c.range_of.ensures.0 c.range_of.ensures.1 c.subjects_in.ensures
