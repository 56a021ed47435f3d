-- `sets::without_least` meets its contract: one less than a word has all its places but the least.
use Rattle.sets.proofs.NextNumber.{least_out}
use Rattle.std.proofs.Common.{arith}
use Rattle.sets.proofs.without_least.Goals as goal

pub returns-clause-by_index : goal.returns-clause-by_index
returns-clause-by_index c = least_out c.args.word (omega arith) c.requires
