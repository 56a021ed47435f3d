-- `targets::subjects_from` meets its contract, by where the low end lies.
use Rattle.std.proofs.Common.{arith}
use Rattle.targets.proofs.SubjectsInRange.{none_from, set_from}
use Rattle.targets.proofs.subjects_from.Goals as goal

pub returns-then-from-ge-WORD : goal.returns-then-from-ge-WORD
returns-then-from-ge-WORD c = none_from c.args.low (omega arith)

pub returns-else-from-ge-WORD : goal.returns-else-from-ge-WORD
returns-else-from-ge-WORD c = set_from c.args.low
