-- `lookup::descend` meets its contract: the values so far lead to an entry of the next level.
use Rattle.diagram.proofs.Descent.{Down}
use Rattle.lookup.proofs.descend.Given as goal

abbrev pub invariant-loop-value : goal.invariant-loop-value
invariant-loop-value l = Down l.diagram.numbers.now l.value-items l.place l.value-index
