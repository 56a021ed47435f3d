-- `soundness::node_sound` meets its contract: the edges passed so far are right.
use Rattle.soundness.proofs.EdgeByEdge.{Checked}
use Rattle.soundness.proofs.node_sound.Given as goal

abbrev pub invariant-loop-last : goal.invariant-loop-last
invariant-loop-last l = Checked l.diagram l.place l.from l.last-index
