-- `entering::finding::scan` meets its contract: no entry before the place is equal.
use Rattle.std.proofs.Common.{arith}
use Rattle.diagram.specs.Starts.{size_two}
use Rattle.entering.proofs.Seeking.{compared_same, seek_starts, seek_within, seek_found, seek_on, seek_ends}
use Rattle.entering.proofs.finding.scan.Goals as goal

pub loop-place-init : goal.loop-place-init
loop-place-init c = (c.requires.0, seek_starts c.args.diagram.now c.args.end c.args.entry.now)

pub returns-then-end-place-clause-value : goal.returns-then-end-place-clause-value
returns-then-end-place-clause-value c =
    seek_within c.args.diagram.now c.args.end c.args.entry.now c.loop-place.place c.loop-place.invariant.1 (omega arith)
    (omega (arith, c.size_at-size.ensures.0))

pub returns-then-eq-clause-value : goal.returns-then-eq-clause-value
returns-then-eq-clause-value c =
    seek_found c.args.diagram.now c.args.end c.args.entry.now c.loop-place.place c.loop-place.invariant.1 c.size_at-size.result
    c.size_at-size.ensures.0 (omega arith) (grind (arith, compared_same))

pub loop-place-smaller : goal.loop-place-smaller
loop-place-smaller c = omega (arith, size_two c.args.diagram.now c.loop-place.place, c.size_at-size.ensures.0)

pub loop-place-preserved : goal.loop-place-preserved
loop-place-preserved c = (
  omega arith,
  seek_on c.args.diagram.now c.args.end c.args.entry.now c.loop-place.place c.loop-place.invariant.1 c.size_at-size.result
      c.size_at-size.ensures.0 (omega arith) (grind (arith, compared_same)),
)

pub returns-clause-value : goal.returns-clause-value
returns-clause-value c =
    seek_ends c.args.diagram.now c.args.end c.args.entry.now c.loop-place.place c.loop-place.invariant.1 (omega arith)
