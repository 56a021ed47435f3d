-- `sets::least_at` meets its contract: the zeros below the least place that is set are counted.
use Rattle.sets.proofs.NextNumber.{least_next, least_within}
use Rattle.std.proofs.Common.{arith}
use Rattle.sets.proofs.least_at.Goals as goal

pub returns : goal.returns
returns c = (least_next c.args.word (omega arith) c.requires, least_within c.args.word (omega arith) c.requires)
