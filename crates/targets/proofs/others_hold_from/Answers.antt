-- `targets::others_hold_from` meets its contract: every field passed so far holds.
use Rattle.std.proofs.Common.{arith}
use Rattle.targets.proofs.FieldByField.{others_fail, others_next, others_all}
use Rattle.targets.proofs.others_hold_from.Goals as goal

pub returns-then-not-in_range : goal.returns-then-not-in_range
returns-then-not-in_range c =
    others_fail c.args.ranges c.args.others.now c.loop-other.other c.range_of.result.low c.range_of.result.high c.in_range.result
    (omega arith) c.range_of.ensures.0 c.range_of.ensures.1 c.in_range.ensures c.if-not-in_range.true

pub loop-other-preserved : goal.loop-other-preserved
loop-other-preserved c =
    others_next c.args.ranges c.args.others.now c.loop-other.other c.range_of.result.low c.range_of.result.high c.in_range.result
    c.range_of.ensures.0 c.range_of.ensures.1 c.in_range.ensures c.if-not-in_range.false c.loop-other.invariant

pub returns : goal.returns
returns c = others_all c.args.ranges c.args.others.now c.loop-other.other (omega arith) c.loop-other.invariant
