-- `targets::subjects_fault` meets its contract: where a member is over the maximum, one is among those that are left.
use Rattle.std.proofs.Common.{◌≡◌}
use Rattle.targets.proofs.SubjectsInRange.{some_over}
use Rattle.targets.proofs.subjects_fault.Given as goal

abbrev pub invariant-loop-left : goal.invariant-loop-left
invariant-loop-left l = some_over l.maximum l.left ≡ some_over l.maximum l.subjects

abbrev pub decreases-loop-left : goal.decreases-loop-left
decreases-loop-left l = l.left
