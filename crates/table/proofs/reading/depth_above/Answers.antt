-- `table::reading::depth_above` meets its contract: the levels passed so far have ended at or before node i.
use Rattle.std.proofs.Common.{◌≡◌, refl, sym, ap, ◌∙◌, arith}
use Rattle.table.specs.Open.{deepest}
use Rattle.table.proofs.Climb.{deepest_here, deepest_next}
use Rattle.table.proofs.reading.depth_above.Goals as goal

pub loop-level-init : goal.loop-level-init
loop-level-init c = refl

pub loop-level-preserved : goal.loop-level-preserved
loop-level-preserved c = c.loop-level.invariant ∙ deepest_next c.args.ends.now c.args.i c.loop-level.level (omega arith) (omega (arith, c.if-i-ends.false))

pub returns-then-i-ends : goal.returns-then-i-ends
returns-then-i-ends c = (
  sym (c.loop-level.invariant ∙ deepest_here c.args.ends.now c.args.i c.loop-level.level (omega arith) (omega (arith, c.if-i-ends.true))),
  omega (arith, c.loop-level.auto.level),
)

pub returns : goal.returns
returns c =
    let z : c.loop-level.level ≡ 0 = omega arith in
    (sym (c.loop-level.invariant ∙ ap (deepest c.args.ends.now c.args.i) z), omega arith)
