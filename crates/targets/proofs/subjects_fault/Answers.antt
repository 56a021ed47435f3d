-- `targets::subjects_fault` meets its contract: where a member is over the maximum, one is among those that are left.
use Rattle.std.proofs.Common.{refl, arith}
use Rattle.targets.proofs.SubjectsInRange.{empty_refused, next_refused, next_passed, all_passed}
use Rattle.std.proofs.Common.{arith}
use Rattle.targets.proofs.subjects_fault.Goals as goal

pub returns-then-subjects-eq0 : goal.returns-then-subjects-eq0
returns-then-subjects-eq0 c = empty_refused c.args.maximum c.args.subjects c.if-subjects-eq0.true

pub loop-left-init : goal.loop-left-init
loop-left-init c = refl

pub returns-then-from-member : goal.returns-then-from-member
returns-then-from-member c = next_refused c.args.maximum c.args.subjects c.loop-left.left c.loop-left.invariant (omega arith) (omega arith) c.least_at-member.result c.least_at-member.ensures.0
    c.least_at-member.ensures.1 (omega arith)

pub loop-left-preserved : goal.loop-left-preserved
loop-left-preserved c = next_passed c.args.maximum c.args.subjects c.loop-left.left c.loop-left.invariant c.least_at-member.result c.without_least-left.result
    (omega arith) (c.without_least-left.ensures.by_index c.least_at-member.result c.least_at-member.ensures.0)

pub returns : goal.returns
returns c = all_passed c.args.maximum c.args.subjects c.loop-left.left c.loop-left.invariant (omega arith) (omega arith) (omega arith)
