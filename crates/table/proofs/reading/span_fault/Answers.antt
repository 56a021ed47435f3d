-- `table::reading::span_fault` meets its contract: each branch gives refusal 5's test.
use native.Mathlib.Nat.{pos_of_ne-zero}
use Rattle.encoding.proofs.Places.{number_small}
use Rattle.table.proofs.Faults.{span_odd, span_root, span_past, span_inside}
use Rattle.std.proofs.Common.{arith}
use Rattle.table.proofs.reading.span_fault.Goals as goal

pub overflow_add-i : goal.overflow_add-i
overflow_add-i c = omega (arith, number_small c.args.table.now c.args.i c.requires.node_held, c.span_at-span.ensures.1)

pub returns-then-odd_span : goal.returns-then-odd_span
returns-then-odd_span c = span_odd c.args.table.now c.args.i c.span_at-span.result c.args.rule c.span_at-span.ensures.0 c.requires.rule_value.0 c.odd_span.result
    c.odd_span.ensures c.if-odd_span.true

pub returns-then-above-i : goal.returns-then-above-i
returns-then-above-i c = span_past c.args.table.now c.args.i c.span_at-span.result c.args.rule c.span_at-span.ensures.0 c.requires.rule_value.0 c.odd_span.result
    c.odd_span.ensures c.if-odd_span.false c.args.above c.requires.rule_value.1 (omega (arith, c.if-above-i.true))

pub returns-then-i-eq0 : goal.returns-then-i-eq0
returns-then-i-eq0 c = span_root c.args.table.now c.args.i c.span_at-span.result c.args.rule c.span_at-span.ensures.0 c.requires.rule_value.0 c.odd_span.result
    c.odd_span.ensures c.if-odd_span.false c.args.above c.requires.rule_value.1 c.if-i-eq0.true

pub returns-else-i-eq0 : goal.returns-else-i-eq0
returns-else-i-eq0 c = span_inside c.args.table.now c.args.i c.span_at-span.result c.args.rule c.span_at-span.ensures.0 c.requires.rule_value.0 c.odd_span.result
    c.odd_span.ensures c.if-odd_span.false c.args.above c.requires.rule_value.1 (pos_of_ne-zero c.if-i-eq0.false) (omega (arith, c.if-above-i.false))
