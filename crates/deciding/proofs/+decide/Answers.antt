-- `deciding::decide` meets its contract: a group's running decision takes in its children of the set, one after another.
use Rattle.std.proofs.Common.{ℕ, ◌+◌, refl, arith}
use Rattle.ruling.proofs.Decisions.{takes, ruled_rule}
use Rattle.sets.specs.Sets.{has}
use Rattle.deciding.proofs.MemberByMember.{BeforeChild, before_first, before_child, before_next, before_end}
use Rattle.deciding.proofs.+decide.Goals as goal
use Rattle.deciding.proofs.+decide.Goals.{In-Some}

pub loop-child-init : goal.loop-child-init
loop-child-init t c = (
  omega (arith, c.span_at.ensures.0, c.args.table.accepted.spans c.args.i c.requires.i_bound.0),
  before_first c.args.table.accepted c.requires.closed c.requires.i_bound c.kind_at-kind.ensures (omega arith) c.span_at.ensures.0 refl c.start-running.ensures,
)

child_in : {t : ℕ} (c : In-Some t) → BeforeChild (has c.args.applying) c.args.table.bytes.now c.args.i (c.args.i + c.span_at.result) c.in-Some.child c.loop-child.running
child_in c = before_child c.args.table.accepted c.requires.closed c.loop-child.invariant.1 c.in-Some.ensures

pub take-running-requires : goal.take-running-requires
take-running-requires t c =
    takes (has c.args.applying) c.args.table.bytes.now c.in-Some.child c.loop-child.invariant.1.reachable c.decide-decision.ensures

pub loop-child-preserved : goal.loop-child-preserved
loop-child-preserved t c =
    let w = c.args.table.accepted in
    let b = child_in (goal.at.loop-child-preserved t c).In-Some in (
      omega (arith, c.span_at-in-Some.ensures.0, b.before.whole.each c.in-Some.child (omega arith) c.in-Some.ensures.1),
      before_next w c.requires.closed b c.in-Some.ensures.1 c.decide-decision.ensures c.take-running.ensures (omega (arith, c.span_at-in-Some.ensures.0)),
    )

pub returns-in_default-next_below : goal.returns-in_default-next_below
returns-in_default-next_below t c = before_end c.args.table.accepted c.requires.closed c.loop-child.invariant.1 c.loop-child.invariant.0 c.in_default-next_below.ensures

pub returns-in_default : goal.returns-in_default
returns-in_default t c =
    ruled_rule (has c.args.applying) c.args.table.bytes.now c.args.i c.kind_at-kind.result c.effect_of.result c.requires.i_bound.1 c.kind_at-kind.ensures (omega arith)
    c.effect_of.ensures
