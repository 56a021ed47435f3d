-- `ruling::groups::rule_node` and `rule_run`, which call each other, meet their contracts.
use Rattle.std.proofs.Common.{◌≡◌, ℕ, ◌+◌, ◌≤◌, ◌<◌, true, List, ◌∙◌, arith}
use Rattle.encoding.specs.Layout.{count, span, NodeHeld}
use Rattle.table.specs.Tree.{end_of}
use Rattle.table.specs.WellFormed.{WellFormed}
use Rattle.targets.specs.Subjects.{applies_to_some}
use Rattle.ruling.specs.Walk.{MembersPass, AppliesToEach}
use Rattle.ruling.proofs.Steps.{held, children, first}
use Rattle.ruling.proofs.NodeByKind.{by_rule, by_group}
use Rattle.ruling.proofs.MembersLeft.{members_down, members_after, left_each, left_applies, left_same, none_left}
use Rattle.ruling.proofs.RulingGoesByWhichApply.{ruled_same}
use Rattle.ruling.proofs.Decisions.{takes}
use Rattle.ruling.proofs.ChildByChild.{before_first, before_end, before_some, before_within, before_next, before_skipped}
use Rattle.ruling.proofs.groups.+rule_node_rule_run.Goals as goal
use Rattle.ruling.proofs.groups.+rule_node_rule_run.Goals.{rule_run-In-loop-i, rule_run-After-members_left-left}

-- rule_node

pub rule_node-kind_at-kind-requires : goal.rule_node-kind_at-kind-requires
rule_node-kind_at-kind-requires t c = held c.args.table.bytes.now c.args.table.accepted c.args.i c.requires.node.some

pub rule_node-rule_run-requires : goal.rule_node-rule_run-requires
rule_node-rule_run-requires t c =
    let w = c.args.table.accepted in
    let n = c.requires.node in (
      omega (arith, w.spans c.args.i n.some, n.ends, c.decreases),
      (
        (children (applies_to_some c.args.table.bytes.now c.args.members c.args.others.now) c.args.table.bytes.now w c.args.i c.args.end c.args.count n, omega arith),
        members_down c.args.table.bytes.now c.args.others.now c.args.members c.args.i c.requires.applies_to_each,
      ),
    )

pub rule_node-rule_match-requires : goal.rule_node-rule_match-requires
rule_node-rule_match-requires t c = (
  held c.args.table.bytes.now c.args.table.accepted c.args.i c.requires.node.some,
  omega (arith, c.requires.node.some, c.requires.node.few, c.args.table.accepted.few),
)

pub rule_node-returns-in-0-to-3 : goal.rule_node-returns-in-0-to-3
rule_node-returns-in-0-to-3 t c =
    let r = by_group (applies_to_some c.args.table.bytes.now c.args.members c.args.others.now) c.args.table.bytes.now c.args.table.accepted c.requires.node c.kind_at-kind.ensures (omega arith)
    c.rule_run.ensures.decision_value c.rule_run.ensures.gathered in
    record { decision_value = r.0; gathered = r.1 }

pub rule_node-returns-in_default : goal.rule_node-returns-in_default
rule_node-returns-in_default t c =
    let r = by_rule (applies_to_some c.args.table.bytes.now c.args.members c.args.others.now) c.args.table.bytes.now c.args.table.accepted c.requires.node c.kind_at-kind.ensures (omega arith)
    c.rule_match.ensures.decision_value.0 c.rule_match.ensures.decision_value.1 c.rule_match.ensures.cards_after in
    record { decision_value = r.0; gathered = r.1 }

-- rule_run: at a child

child_some : {t : ℕ} (c : rule_run-In-loop-i t) → c.loop-i.i < count c.args.table.bytes.now
child_some c = before_some c.args.table.accepted c.loop-i.invariant.before c.loop-i-test.true

child_held : {t : ℕ} (c : rule_run-In-loop-i t) → NodeHeld c.args.table.bytes.now c.loop-i.i
child_held c = held c.args.table.bytes.now c.args.table.accepted c.loop-i.i (child_some c)

child_spans : {t : ℕ} (c : rule_run-In-loop-i t) → 1 ≤ span c.args.table.bytes.now c.loop-i.i
child_spans c = c.args.table.accepted.spans c.loop-i.i (child_some c)

pub rule_run-loop-i-init : goal.rule_run-loop-i-init
rule_run-loop-i-init t c = record {
  before = before_first c.args.table.accepted c.requires.child_run.0 c.start-running.ensures;
  passes = c.requires.members_pass;
}

pub rule_run-short_span_at-requires : goal.rule_run-short_span_at-requires
rule_run-short_span_at-requires t c =
    let at = (goal.at.rule_run-short_span_at-requires t c).In-loop-i in
    let w = c.args.table.accepted in (child_held at, omega (arith, w.inside c.loop-i.i (child_some at), w.few))

pub rule_run-members_left-left-requires : goal.rule_run-members_left-left-requires
rule_run-members_left-left-requires t c = child_held (goal.at.rule_run-members_left-left-requires t c).In-loop-i

-- rule_run: once the members that are left at the child are known

module _ {t : ℕ} (c : rule_run-After-members_left-left t) where
  abbrev table : List ℕ
  table = c.args.table.bytes.now

  abbrev others : List ℕ
  others = c.args.others.now

  abbrev formed : WellFormed table
  formed = c.args.table.accepted

  abbrev left : ℕ
  left = c.members_left-left.result

  some : c.loop-i.i < count table
  some = before_some formed c.loop-i.invariant.before c.loop-i-test.true

  spans : 1 ≤ span table c.loop-i.i
  spans = formed.spans c.loop-i.i some

  spanned : c.short_span_at.result ≡ span table c.loop-i.i
  spanned = c.short_span_at.ensures.0

  left_applying : AppliesToEach table left others c.loop-i.i
  left_applying =
      left_each table others c.args.members left c.loop-i.i c.members_left-left.ensures spans c.loop-i.invariant.passes

  left_some : 0 < left → applies_to_some table left others c.loop-i.i ≡ true
  left_some l =
      left_applies table others c.args.members left c.loop-i.i c.members_left-left.ensures (omega arith) l left_applying

  -- under the child the two sets are alike
  alike : (j : ℕ) → c.loop-i.i ≤ j → j < end_of table c.loop-i.i →
      applies_to_some table c.args.members others j ≡ applies_to_some table left others j
  alike = left_same table others c.args.members left c.loop-i.i c.members_left-left.ensures

  within_table : end_of table c.loop-i.i ≤ count table
  within_table =
      omega (arith, before_within formed c.loop-i.invariant.before c.loop-i-test.true, c.loop-i.invariant.before.ahead.whole.inside)

  passed_on : MembersPass table c.args.members others (c.loop-i.i + c.short_span_at.result)
  passed_on =
      members_after table others formed c.args.members c.loop-i.i c.short_span_at.result some spanned c.loop-i.invariant.passes

pub rule_run-rule_node-child-requires : goal.rule_run-rule_node-child-requires
rule_run-rule_node-child-requires t c =
    let m = (goal.at.rule_run-rule_node-child-requires t c).After-members_left-left in
    let w = c.args.table.accepted in
    let b = c.loop-i.invariant.before in (
      omega (arith, before_within w b c.loop-i-test.true, b.later, spanned m, c.decreases),
      (
        first (applies_to_some c.args.table.bytes.now c.members_left-left.result c.args.others.now) c.args.table.bytes.now w c.loop-i.i c.args.end _ _ c.loop-i-test.true (omega (arith, spanned m))
            (left_some m (omega arith)) b.ahead,
        left_applying m,
      ),
    )

pub rule_run-take-running-requires : goal.rule_run-take-running-requires
rule_run-take-running-requires t c =
    takes (applies_to_some c.args.table.bytes.now c.members_left-left.result c.args.others.now) c.args.table.bytes.now c.loop-i.i c.loop-i.invariant.before.reachable
    c.rule_node-child.ensures.decision_value

pub rule_run-loop-i-smaller-then-left-ne0 : goal.rule_run-loop-i-smaller-then-left-ne0
rule_run-loop-i-smaller-then-left-ne0 t c =
    let m = (goal.at.rule_run-loop-i-smaller-then-left-ne0 t c).After-members_left-left in
    omega (arith, spans m, spanned m)

pub rule_run-loop-i-preserved-then-left-ne0 : goal.rule_run-loop-i-preserved-then-left-ne0
rule_run-loop-i-preserved-then-left-ne0 t c =
    let m = (goal.at.rule_run-loop-i-preserved-then-left-ne0 t c).After-members_left-left in
    let h = alike m c.loop-i.i (omega arith) (omega (arith, spans m)) ∙ left_some m (omega arith) in
    let r =
    ruled_same (applies_to_some c.args.table.bytes.now c.args.members c.args.others.now) (applies_to_some c.args.table.bytes.now c.members_left-left.result c.args.others.now)
    c.args.table.bytes.now c.args.table.accepted (within_table m) (alike m) (omega arith) (omega (arith, spans m, spanned m))
    (omega (arith, spanned m)) (omega (arith, spanned m)) (c.rule_node-child.ensures.decision_value, c.rule_node-child.ensures.gathered) in record {
      before = before_next c.args.table.accepted c.loop-i.invariant.before c.loop-i-test.true (spanned m) h r.0 c.take-running.ensures r.1;
      passes = passed_on m;
    }

pub rule_run-loop-i-preserved : goal.rule_run-loop-i-preserved
rule_run-loop-i-preserved t c =
    let m = (goal.at.rule_run-loop-i-preserved t c).After-members_left-left in record {
      before = before_skipped c.args.table.accepted c.loop-i.invariant.before c.loop-i-test.true (spanned m)
          (none_left c.args.table.bytes.now c.args.others.now c.args.members c.members_left-left.result c.loop-i.i c.members_left-left.ensures (omega arith));
      passes = passed_on m;
    }

pub rule_run-returns : goal.rule_run-returns
rule_run-returns t c =
    let r = before_end c.args.table.accepted c.loop-i.invariant.before c.loop-i-test.false in
    record { decision_value = r.0; gathered = r.1 }
