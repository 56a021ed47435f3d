-- A group's running decision takes in its children of the set, one after another. They stand later.
use Rattle.std.proofs.Common.{◌-◌, ◌≤◌}
use Rattle.sets.specs.Sets.{most, has}
use Rattle.deciding.proofs.MemberByMember.{Before}
use Rattle.deciding.proofs.+decide.Given as goal

abbrev pub decreases-decide : goal.decreases-decide
decreases-decide l = most - l.i

abbrev pub invariant-loop-child : goal.invariant-loop-child
invariant-loop-child l = (l.from ≤ l.end) × Before (has l.applying) l.table.bytes.now l.i l.end l.from l.running

abbrev pub decreases-loop-child : goal.decreases-loop-child
decreases-loop-child l = l.end - l.from
