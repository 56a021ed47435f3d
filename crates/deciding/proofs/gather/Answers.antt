-- `deciding::gather` meets its contract: the cards stored so far and those of the nodes left are all cards.
use mathlib.Core.Path.{◌≡◌, ◌∙◌}
use Prim.Native.Nat.{◌<◌}
use lib.ListN.{length}
use lib.Seq.{sets}
use Rattle.encoding.specs.Layout.{count}
use Rattle.ruling.specs.Meaning.{cards}
use Rattle.sets.specs.Sets.{has}
use Rattle.deciding.proofs.CardByCard.{before_member, after_rule, after_group, before_end, stored_few}
use Rattle.std.proofs.Common.{arith}
use Rattle.deciding.proofs.gather.Goals as goal
use Rattle.deciding.proofs.gather.Goals.{In_default, in-0-to-3, in_default-kind_at}

pub overflow_add-stored : goal.overflow_add-stored
overflow_add-stored c = omega (arith, stored_few c.loop-i.invariant.1, c.args.table.accepted.few)

pub loop-i-preserved : goal.loop-i-preserved
loop-i-preserved c =
    let n = c.in-Some.ensures.0 in
    let inside : c.in-Some.i < count c.args.table.bytes.now = omega (arith, c.count_at-count.ensures.0, c.in-Some.ensures.1) in
    let b = before_member c.loop-i.invariant.1 n.from (omega arith) n.between in (
      omega (arith, c.in-Some.ensures.1),
      elim c.if-kind_at-lt4.branch [
        | in-0-to-3 w ↦ after_group b inside c.kind_at.ensures (omega arith) w.stored-is w.list-is
        | in_default-kind_at w ↦ after_rule b inside (n.passes c.in-Some.ensures.1) c.kind_at.ensures (omega arith) w.card_at.ensures.0 w.stored-is (w.list-is ∙ w.put.ensures)
      ],
    )

all_stored : (c : In_default) → (c.loop-i.stored ≡ length (cards (has c.args.applying) c.args.table.bytes.now)) × (c.loop-i.list ≡ sets c.args.list.now 0 (cards (has c.args.applying) c.args.table.bytes.now))
all_stored c =
    before_end c.loop-i.invariant.1 (omega (arith, c.count_at-count.ensures.0, c.loop-i.invariant.0))
    (λ m p q. c.in_default.ensures m p (omega (arith, c.count_at-count.ensures.0)))

pub returns-clause-value : goal.returns-clause-value
returns-clause-value c = (all_stored c).0

pub returns-clause-list_after : goal.returns-clause-list_after
returns-clause-list_after c = (all_stored c).1
