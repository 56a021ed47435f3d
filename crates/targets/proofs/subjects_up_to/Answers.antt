-- `targets::subjects_up_to` meets its contract, by where the high end lies.
use Rattle.std.proofs.Common.{◌-◌, arith}
use Rattle.targets.proofs.SubjectsInRange.{all_up_to, set_up_to}
use Rattle.targets.proofs.subjects_up_to.Goals as goal

pub returns-then-from : goal.returns-then-from
returns-then-from c = all_up_to c.args.high (omega arith)

pub returns-else-from : goal.returns-else-from
returns-else-from c = set_up_to c.args.high (63 - c.from-else-from.result) (omega arith)
