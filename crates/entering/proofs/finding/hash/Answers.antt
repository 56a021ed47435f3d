-- `entering::finding::hash` meets its contract: the number is made from the numbers so far.
use Rattle.std.proofs.Common.{sym, ◌∙◌, arith}
use Rattle.entering.proofs.Indexing.{hashed_more, hashed_all}
use Rattle.entering.proofs.finding.hash.Goals as goal

pub loop-x-preserved : goal.loop-x-preserved
loop-x-preserved c =
    (omega arith, rw c.from.ensures (c.loop-x.invariant.1 ∙ hashed_more c.args.entry.now c.loop-x.h c.loop-x.x-index (omega arith)))

pub returns : goal.returns
returns c =
    (sym (c.loop-x.invariant.1 ∙ hashed_all c.args.entry.now c.loop-x.h c.loop-x.x-index (omega arith)), c.loop-x.invariant.0)
