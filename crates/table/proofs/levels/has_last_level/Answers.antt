-- `table::levels::has_last_level` meets its contract: before each node the pass has what `Searched` says.
use Rattle.std.proofs.Common.{ℕ, refl, ap, ◌+◌, ◌<◌, arith}
use Rattle.encoding.specs.Layout.{count}
use Rattle.encoding.proofs.Places.{header_held, node_held}
use Rattle.table.proofs.LevelByLevel as pass
use Rattle.table.proofs.levels.has_last_level.Goals as goal
use Rattle.table.proofs.levels.has_last_level.Goals.{In-loop-i, then-span-gt1, else-span-gt1}

-- node i is one of the table
below : (c : In-loop-i) → c.loop-i.i < count c.args.table.bytes.now
below c = omega (arith, c.count_at-n.ensures.0, c.loop-i-test.true)

pub count_at-n-requires : goal.count_at-n-requires
count_at-n-requires c = header_held c.args.table.bytes.now c.args.table.accepted.records

pub loop-i-init : goal.loop-i-init
loop-i-init c = pass.start c.args.table.bytes.now _ refl

pub depth_above-depth-requires : goal.depth_above-depth-requires
depth_above-depth-requires c = c.loop-i.invariant.few

pub returns-then-depth-ge-LEVELS : goal.returns-then-depth-ge-LEVELS
returns-then-depth-ge-LEVELS c =
    pass.found c.args.table.bytes.now c.args.table.accepted c.loop-i.invariant (below (goal.at.returns-then-depth-ge-LEVELS c).In-loop-i) c.depth_above-depth.ensures.0
    (omega (arith, c.if-depth-ge-LEVELS.true))

pub span_at-span-requires : goal.span_at-span-requires
span_at-span-requires c = node_held c.args.table.bytes.now c.args.table.accepted.records c.loop-i.i (below (goal.at.span_at-span-requires c).In-loop-i)

pub loop-i-preserved : goal.loop-i-preserved
loop-i-preserved c =
    let l = below (goal.at.loop-i-preserved c).In-loop-i in
    elim c.if-span-gt1.branch [
      | then-span-gt1 w ↦
          rw (w.ends-is, w.depth-is)
          (pass.next_opened c.args.table.bytes.now c.args.table.accepted c.loop-i.invariant l c.depth_above-depth.ensures.0 (omega arith) _
          (ap (λ (k : ℕ). c.loop-i.i + k) c.span_at-span.ensures.0))
      | else-span-gt1 w ↦
          rw (w.ends-is, w.depth-is)
          (pass.next c.args.table.bytes.now c.args.table.accepted c.loop-i.invariant l c.depth_above-depth.ensures.0 (omega arith) (omega (arith, c.span_at-span.ensures.0, w.if-span-gt1.false)))
    ]

pub returns : goal.returns
returns c = pass.not_found c.args.table.bytes.now c.args.table.accepted c.loop-i.invariant (omega (arith, c.count_at-n.ensures.0, c.loop-i-test.false))
