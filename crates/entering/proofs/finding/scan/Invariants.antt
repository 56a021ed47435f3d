-- `entering::finding::scan` meets its contract: no entry before the place is equal.
use Rattle.std.proofs.Common.{◌-◌, ◌≤◌}
use Rattle.entering.proofs.Seeking.{Seeks}
use Rattle.entering.proofs.finding.scan.Given as goal

abbrev pub invariant-loop-place : goal.invariant-loop-place
invariant-loop-place l = (l.place ≤ l.end) × Seeks l.diagram l.end l.entry l.place

abbrev pub decreases-loop-place : goal.decreases-loop-place
decreases-loop-place l = l.end - l.place
