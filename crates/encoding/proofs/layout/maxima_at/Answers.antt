-- `encoding::layout::maxima_at` meets its contract: the maxima before the field are written.
use Rattle.std.proofs.Common.{arith}
use Rattle.encoding.proofs.Maxima.{written_all}
use Rattle.encoding.proofs.layout.maxima_at.Goals as goal

pub returns : goal.returns
returns c = let l = c.loop-field in
    written_all c.args.table.now l.field l.maxima l.invariant.0 l.invariant.1 (omega arith)
