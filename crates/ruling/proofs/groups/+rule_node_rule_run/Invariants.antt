-- The nodes left up to the end fall. Before each child those before it were taken in.
use Rattle.std.proofs.Common.{◌-◌, ◌+◌, ◌*◌}
use Rattle.targets.specs.Subjects.{applies_to_some}
use Rattle.ruling.specs.Walk.{MembersPass}
use Rattle.ruling.proofs.ChildByChild.{Before}
use Rattle.ruling.proofs.groups.+rule_node_rule_run.Given as goal

abbrev pub decreases-rule_node : goal.decreases-rule_node
decreases-rule_node l = 2 * (l.end - l.i)

abbrev pub decreases-rule_run : goal.decreases-rule_run
decreases-rule_run l = 2 * (l.end - l.first) + 1

abbrev pub invariant-rule_run-loop-i : goal.invariant-rule_run-loop-i
invariant-rule_run-loop-i l = record {
  before : Before (applies_to_some l.table.bytes.now l.members l.others) l.table.bytes.now l.kind l.first l.end l.before l.initial.cards l.i l.running l.count l.cards;
  passes : MembersPass l.table.bytes.now l.members l.others l.i;
}

abbrev pub decreases-rule_run-loop-i : goal.decreases-rule_run-loop-i
decreases-rule_run-loop-i l = l.end - l.i
