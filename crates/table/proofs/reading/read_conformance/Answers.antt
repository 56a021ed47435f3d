-- `table::reading::read_conformance` meets its contract: before each node the pass has what `Passed` says.
use Rattle.std.proofs.Common.{ℕ, refl, ap, ◌+◌, ◌<◌, arith}
use Rattle.answer.specs.Refusals.{None}
use Rattle.encoding.specs.Layout.{NodeHeld, count}
use Rattle.encoding.proofs.Places.{node_held}
use Rattle.table.specs.Reading.{header_refusals, node_refusals}
use Rattle.table.proofs.Accepting.{header_passed, node_passed, header_refused}
use Rattle.table.proofs.Header.{headed}
use Rattle.table.proofs.Pass as pass
use Rattle.table.proofs.reading.read_conformance.Goals as goal
use Rattle.table.proofs.reading.read_conformance.Goals.{In_default, In-loop-i, In_default-node_fault, then-span-gt1, else-span-gt1}

-- the header passed
passed : (c : In_default) → None (header_refusals c.args.table.now)
passed c = header_passed c.args.table.now c.in_default.ensures

-- node i is one of the table, with its record
below : (c : In-loop-i) → c.loop-i.i < count c.args.table.now
below c = omega (arith, c.count_at-n.ensures.0, c.loop-i-test.true)

held : (c : In-loop-i) → NodeHeld c.args.table.now c.loop-i.i
held c =
    node_held c.args.table.now (headed c.args.table.now (header_passed c.args.table.now c.in_default.ensures)).records c.loop-i.i
    (omega (arith, c.count_at-n.ensures.0, c.loop-i-test.true))

-- node i passed
passes : (c : In_default-node_fault) → None (node_refusals c.args.table.now c.loop-i.i)
passes c = node_passed c.args.table.now c.loop-i.i c.in_default-node_fault.ensures

-- there is room for one level more
room : (c : In_default-node_fault) → c.depth_above-depth.result + 1 < 9
room c =
    omega (
      arith,
      pass.shallow c.loop-i.invariant (omega (arith, c.count_at-n.ensures.0, c.loop-i-test.true)) c.depth_above-depth.ensures.0
          (node_passed c.args.table.now c.loop-i.i c.in_default-node_fault.ensures),
    )

pub returns-in-Some-clause-value : goal.returns-in-Some-clause-value
returns-in-Some-clause-value c = rw c.at.ensures (header_refused c.args.table.now _ c.in-Some.ensures)

pub count_at-n-requires : goal.count_at-n-requires
count_at-n-requires c = (headed c.args.table.now (passed (goal.at.count_at-n-requires c).In_default)).long

pub loop-i-init : goal.loop-i-init
loop-i-init c = pass.start c.args.table.now _ _ refl refl c.count_at-n.ensures.0 refl

pub depth_above-depth-requires : goal.depth_above-depth-requires
depth_above-depth-requires c = c.loop-i.invariant.few

pub node_fault-requires : goal.node_fault-requires
node_fault-requires c =
    let f = pass.found c.loop-i.i c.loop-i.invariant (below (goal.at.node_fault-requires c).In-loop-i) c.depth_above-depth.ensures.0 in record {
      node_held = held (goal.at.node_fault-requires c).In-loop-i;
      end_above = (f.0, f.1);
    }

pub returns-in-Some-node_fault-clause-value : goal.returns-in-Some-node_fault-clause-value
returns-in-Some-node_fault-clause-value c =
    rw c.at-in-Some-node_fault.ensures
    (pass.stopped c.loop-i.i _ (passed (goal.at.returns-in-Some-node_fault-clause-value c).In_default) c.loop-i.invariant
    (below (goal.at.returns-in-Some-node_fault-clause-value c).In-loop-i) c.in-Some-node_fault.ensures)

pub rule_at-requires : goal.rule_at-requires
rule_at-requires c = held (goal.at.rule_at-requires c).In-loop-i

pub span_at-span-requires : goal.span_at-span-requires
span_at-span-requires c = held (goal.at.span_at-span-requires c).In-loop-i

pub bounds-ends-depth-then-span-gt1 : goal.bounds-ends-depth-then-span-gt1
bounds-ends-depth-then-span-gt1 c = room (goal.at.bounds-ends-depth-then-span-gt1 c).In_default-node_fault

pub asks_for_rules-requires : goal.asks_for_rules-requires
asks_for_rules-requires c = (
  held (goal.at.asks_for_rules-requires c).In-loop-i,
  node_held c.args.table.now (headed c.args.table.now (passed (goal.at.asks_for_rules-requires c).In_default)).records (c.loop-i.i + 1)
      (pass.next_held c.loop-i.invariant (below (goal.at.asks_for_rules-requires c).In-loop-i) c.depth_above-depth.ensures.0
      (passes (goal.at.asks_for_rules-requires c).In_default-node_fault) (omega (arith, c.span_at-span.ensures.0, c.if-span-gt1.true))),
)

pub bounds-rules-depth-then-span-gt1 : goal.bounds-rules-depth-then-span-gt1
bounds-rules-depth-then-span-gt1 c = room (goal.at.bounds-rules-depth-then-span-gt1 c).In_default-node_fault

pub loop-i-preserved : goal.loop-i-preserved
loop-i-preserved c =
    let l = below (goal.at.loop-i-preserved c).In-loop-i in
    let p = passes (goal.at.loop-i-preserved c).In_default-node_fault in
    elim c.if-span-gt1.branch [
      | then-span-gt1 w ↦
          rw (w.ends-is, w.rules-is, w.depth-is)
          (pass.next_opened c.loop-i.invariant l c.depth_above-depth.ensures.0 p c.rule_at.ensures _
          (ap (λ (k : ℕ). c.loop-i.i + k) c.span_at-span.ensures.0) _ w.asks_for_rules.ensures)
      | else-span-gt1 w ↦
          rw (w.ends-is, w.rules-is, w.depth-is)
          (pass.next c.loop-i.invariant l c.depth_above-depth.ensures.0 p c.rule_at.ensures (omega (arith, c.span_at-span.ensures.0, w.if-span-gt1.false)))
    ]

pub returns-clause-value : goal.returns-clause-value
returns-clause-value c =
    (pass.finished (passed (goal.at.returns-clause-value c).In_default) c.loop-i.invariant
    (omega (arith, c.count_at-n.ensures.0, c.loop-i-test.false, c.loop-i.auto.i-end))).0

pub returns-clause-conforming : goal.returns-clause-conforming
returns-clause-conforming c =
    (pass.finished (passed (goal.at.returns-clause-conforming c).In_default) c.loop-i.invariant
    (omega (arith, c.count_at-n.ensures.0, c.loop-i-test.false, c.loop-i.auto.i-end))).1
