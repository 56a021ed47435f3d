-- `applying::mark_runs` meets its contract: the runs of the values so far are marked in the row.
use Rattle.applying.proofs.Marking.{Marked}
use Rattle.applying.proofs.mark_runs.Given as goal

abbrev pub invariant-loop-value : goal.invariant-loop-value
invariant-loop-value l = Marked l.most l.initial.row l.row l.start l.value
