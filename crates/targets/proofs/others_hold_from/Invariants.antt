-- `targets::others_hold_from` meets its contract: every field passed so far holds.
use Rattle.std.proofs.Common.{◌≡◌, true}
use Rattle.answer.specs.Below.{every_below}
use Rattle.targets.proofs.FieldByField.{other_holds}
use Rattle.targets.proofs.others_hold_from.Given as goal

abbrev pub invariant-loop-other : goal.invariant-loop-other
invariant-loop-other l = every_below l.other (other_holds l.ranges l.others) ≡ true
