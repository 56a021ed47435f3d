-- `table::levels::has_last_level` meets its contract: before each node the pass has what `Searched` says.
use Rattle.table.proofs.LevelByLevel.{Searched}
use Rattle.table.proofs.levels.has_last_level.Given as goal

abbrev pub invariant-loop-i : goal.invariant-loop-i
invariant-loop-i l = Searched l.table.bytes.now l.ends l.depth l.i
