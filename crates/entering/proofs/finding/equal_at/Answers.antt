-- `entering::finding::equal_at` meets its contract, on each way out.
use Rattle.std.proofs.Common.{arith}
use Rattle.entering.proofs.Seeking.{compared_same}
use Rattle.entering.proofs.Indexing.{not_before_end, past_end, as_compared}
use Rattle.entering.proofs.finding.equal_at.Goals as goal

pub returns-then-end-place : goal.returns-then-end-place
returns-then-end-place c = let s = c.args in
    not_before_end s.diagram.now s.end s.place s.entry.now c.if-end-place.true

pub returns-then-end-place-2 : goal.returns-then-end-place-2
returns-then-end-place-2 c = let s = c.args in
    past_end s.diagram.now s.end s.place s.entry.now c.if-end-place.false c.size_at-size.result c.size_at-size.ensures.0 c.if-end-place-2.true

pub returns : goal.returns
returns c = let s = c.args in
    as_compared s.diagram.now s.end s.place s.entry.now c.if-end-place.false c.size_at-size.result c.size_at-size.ensures.0 c.if-end-place-2.false _ (grind (arith, compared_same))
