-- `sets::Set::empty` meets its contract: no place of 0 is set.
use Rattle.sets.proofs.SetNumbers.{empty_has}
use Rattle.sets.proofs.Set.empty.Goals as goal

pub returns : goal.returns
returns c = empty_has
