-- `sets::Set::full` meets its contract: every place of the greatest word is set.
use Rattle.sets.proofs.SetNumbers.{full_has}
use Rattle.sets.proofs.Set.full.Goals as goal

pub returns : goal.returns
returns c = full_has
