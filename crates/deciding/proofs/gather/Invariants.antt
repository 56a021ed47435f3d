-- `deciding::gather` meets its contract: the cards stored so far and those of the nodes left are all cards.
use Prim.Native.Nat.{◌-◌, ◌≤◌}
use Rattle.sets.specs.Sets.{has}
use Rattle.deciding.proofs.CardByCard.{Before}
use Rattle.deciding.proofs.gather.Given as goal

abbrev pub invariant-loop-i : goal.invariant-loop-i
invariant-loop-i l = (l.from ≤ l.count) × Before (has l.applying) l.table.bytes.now l.initial.list l.from l.stored l.list

abbrev pub decreases-loop-i : goal.decreases-loop-i
decreases-loop-i l = l.count - l.from
