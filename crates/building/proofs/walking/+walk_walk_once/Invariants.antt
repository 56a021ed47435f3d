-- Before a value, those below it are walked. The fields left fall.
use Rattle.std.proofs.Common.{◌≡◌, ◌+◌, ◌-◌, ◌*◌, ◌≤◌, ◌<◌, length, IfSome}
use Rattle.answer.specs.Fields.{fields}
use Rattle.sets.specs.Sets.{has}
use Rattle.encoding.specs.Layout.{maximum}
use Rattle.diagram.specs.Layout.{most_places}
use Rattle.entering.specs.Walking.{Held}
use Rattle.entering.proofs.ValueByValue.{Before}
use Rattle.building.specs.Walked.{Remembers, RemembersNear}
use Rattle.building.proofs.FieldByField.{level_by}
use Rattle.building.proofs.walking.+walk_walk_once.Given as goal

abbrev pub decreases-walk : goal.decreases-walk
decreases-walk l = 2 * (fields - l.field)

abbrev pub decreases-walk_once : goal.decreases-walk_once
decreases-walk_once l = 2 * (fields - l.field) + 1

-- what holds before a value of a field
abbrev pub invariant-walk-loop-value : goal.invariant-walk-loop-value
invariant-walk-loop-value l = record {
  inside : l.field < fields;
  most_is : l.most ≡ maximum l.table.bytes.now l.field;
  most_small : l.most ≤ 255;
  near_small : IfSome l.near (λ known. known.place < most_places);
  before : Before (level_by l.table.bytes.now l.field (has l.possible)) (Held (Remembers l.table.bytes.now l.initial.memory.seen) l.initial.diagram l.initial.memory.index.slots l.initial.memory.index.end)
      (RemembersNear l.table.bytes.now l.memory.seen (l.field + 1) l.near) (length l.initial.diagram) l.fn.memory.edges l.diagram l.memory.index.slots l.memory.edges
      l.memory.index.end l.value;
}

abbrev pub decreases-walk-loop-value : goal.decreases-walk-loop-value
decreases-walk-loop-value l = l.most + 1 - l.value
