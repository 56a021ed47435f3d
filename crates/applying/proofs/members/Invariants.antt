-- `applying::members` meets its contract: of the nodes passed so far, those that apply in the field are in the set.
use Prim.Native.Nat.{◌-◌}
use Rattle.applying.proofs.FieldAlone.{MembersBelow}
use Rattle.applying.proofs.members.Given as goal

abbrev pub invariant-loop-i : goal.invariant-loop-i
invariant-loop-i l = MembersBelow l.table.bytes.now l.field l.value l.set l.i

abbrev pub decreases-loop-i : goal.decreases-loop-i
decreases-loop-i l = l.count - l.i
