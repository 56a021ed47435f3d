-- `standard::profile::check_profile` meets its contract: before each node, the pass has found what `FoundFrom` says of those after it.
use Rattle.standard.specs.Pass.{rules_on, groups_on, FoundFrom}
use Rattle.standard.proofs.profile.check_profile.Given as goal

abbrev pub invariant-loop-i : goal.invariant-loop-i
invariant-loop-i l = FoundFrom l.table.bytes.now l.i (rules_on l.rows) (groups_on l.rows) l.found
