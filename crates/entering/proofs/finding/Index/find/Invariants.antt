-- `entering::finding::Index::find` meets its contract: the slots tried so far hold places of other entries.
use Rattle.entering.proofs.Indexing.{Tried}
use Rattle.entering.proofs.finding.Index.find.Given as goal

abbrev pub invariant-loop-tried : goal.invariant-loop-tried
invariant-loop-tried l = Tried l.diagram l.self.end l.self.slots l.entry l.tried
