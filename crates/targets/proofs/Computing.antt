-- What a case about which nodes of a given table apply computes with.
use Rattle.answer.specs.Below.{count_below}
use Rattle.sets.specs.Sets.{bit}
use Rattle.table.proofs.Computing.{table_computes}
use Rattle.targets.specs.Targets.{in_range, target_holds, applies}
use Rattle.targets.specs.Subjects.{applies_to_some, subjects_fault}

-- To unfold this is to unfold what reading the table computes with, and which nodes apply.
unfoldable pub targets_compute : Unit {0}
unfolding table_computes count_below bit in_range target_holds applies applies_to_some subjects_fault
targets_compute = tt
