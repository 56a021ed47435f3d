-- `combining::Running::ways` meets its contract: one test of the table's entries, which antt computes.
use Rattle.combining.proofs.Table.{combines}
use Rattle.combining.proofs.Running.ways.Goals as goal

pub invariant_of-result : goal.invariant_of-result
invariant_of-result c = record { combines = combines _ tt }
