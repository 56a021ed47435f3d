-- `sets::next_at` meets its contract: the least place of what stands from i up.
use Rattle.std.proofs.Common.{arith}
use Rattle.sets.proofs.NextNumber.{next_none, next_some, next_within}
use Rattle.sets.proofs.next_at.Goals as goal

pub returns-then-rest-eq0 : goal.returns-then-rest-eq0
returns-then-rest-eq0 c = next_none c.args.word c.args.i c.if-rest-eq0.true

pub returns-else-rest-eq0 : goal.returns-else-rest-eq0
returns-else-rest-eq0 c =
    let (least, l) = c.least_at.ensures in
    (next_some c.args.word c.args.i c.least_at.result (omega arith) least l, next_within c.args.word c.args.i c.least_at.result (omega arith) least l)
