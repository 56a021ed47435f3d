-- `sets::ones_at` meets its contract.
use Rattle.sets.proofs.PlacesCounted.{ones_counted}
use Rattle.std.proofs.Common.{arith}
use Rattle.sets.proofs.ones_at.Goals as goal

pub returns : goal.returns
returns c = ones_counted 64 c.args.word (omega arith)
