-- `table::reading::depth_above` meets its contract: the levels passed so far have ended at or before node i.
use Rattle.std.proofs.Common.{◌≡◌}
use Rattle.table.specs.Open.{deepest}
use Rattle.table.proofs.reading.depth_above.Given as goal

abbrev pub invariant-loop-level : goal.invariant-loop-level
invariant-loop-level l = deepest l.ends l.i l.depth ≡ deepest l.ends l.i l.level
