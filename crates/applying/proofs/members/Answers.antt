-- `applying::members` meets its contract: of the nodes passed so far, those that apply in the field are in the set.
use mathlib.Core.Path.{sym, ◌∙◌}
use Prim.Native.Nat.{◌<◌}
use Rattle.encoding.specs.Layout.{count}
use Rattle.applying.proofs.FieldAlone.{node_in, nodes_out}
use Rattle.std.proofs.Common.{arith}
use Rattle.applying.proofs.members.Goals as goal
use Rattle.applying.proofs.members.Goals.{In-loop-i}

there : (c : In-loop-i) → c.loop-i.i < count c.args.table.bytes.now
there c = omega (arith, c.count_at-count.ensures.0)

pub loop-i-preserved-then-holds : goal.loop-i-preserved-then-holds
loop-i-preserved-then-holds c =
    node_in c.args.table.bytes.now c.args.field c.args.value c.args.table.accepted c.loop-i.i (there (goal.at.loop-i-preserved-then-holds c).In-loop-i) c.loop-i.set
    c.with-set.result (sym c.holds.ensures ∙ c.if-holds.true) c.with-set.ensures c.loop-i.invariant

pub loop-i-preserved : goal.loop-i-preserved
loop-i-preserved c =
    nodes_out c.args.table.bytes.now c.args.field c.args.value c.args.table.accepted c.loop-i.i (there (goal.at.loop-i-preserved c).In-loop-i) c.loop-i.set
    _ (sym c.holds.ensures ∙ c.if-holds.false) (omega (arith, c.span_at-i.ensures.0)) c.loop-i.invariant
