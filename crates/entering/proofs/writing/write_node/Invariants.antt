-- `entering::writing::write_node` meets its contract: the edges so far are written.
use Rattle.entering.proofs.NumbersWritten.{Writing}
use Rattle.entering.proofs.writing.write_node.Given as goal

abbrev pub invariant-loop-j : goal.invariant-loop-j
invariant-loop-j l = Writing l.initial.room l.edges.last l.edges.child l.j l.room
