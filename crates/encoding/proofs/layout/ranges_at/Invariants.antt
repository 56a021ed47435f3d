-- `encoding::layout::ranges_at` meets its contract: the range bytes of the fields passed so far are gathered.
use Rattle.encoding.proofs.RangesReadBack.{RangesGathered}
use Rattle.encoding.proofs.layout.ranges_at.Given as goal

abbrev pub invariant-loop-field : goal.invariant-loop-field
invariant-loop-field l = RangesGathered l.table l.i l.field l.word
