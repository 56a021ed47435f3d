-- `entering::finding::hash` meets its contract: the number is made from the numbers so far.
use Rattle.std.proofs.Common.{◌≡◌, ◌<◌, drop}
use Rattle.entering.specs.Index.{hashed}
use Rattle.entering.proofs.finding.hash.Given as goal

abbrev pub invariant-loop-x : goal.invariant-loop-x
invariant-loop-x l = (l.h < 65536) × (hashed 0 l.entry ≡ hashed l.h (drop l.x-index l.entry))
