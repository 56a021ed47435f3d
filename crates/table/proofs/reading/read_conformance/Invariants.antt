-- `table::reading::read_conformance` meets its contract: before each node the pass has what `Passed` says.
use Rattle.table.proofs.Pass.{Passed}
use Rattle.table.proofs.reading.read_conformance.Given as goal

abbrev pub invariant-loop-i : goal.invariant-loop-i
invariant-loop-i l = Passed l.table l.ends l.rules l.conforming l.depth l.i
