-- `encoding::layout::maxima_at` meets its contract: the maxima before the field are written.
use Rattle.std.proofs.Common.{◌≡◌, length}
use Rattle.answer.specs.Fields.{fields}
use Rattle.encoding.proofs.Maxima.{MaximaWritten}
use Rattle.encoding.proofs.layout.maxima_at.Given as goal

abbrev pub invariant-loop-field : goal.invariant-loop-field
invariant-loop-field l = (length l.maxima ≡ fields) × MaximaWritten l.table l.field l.maxima
