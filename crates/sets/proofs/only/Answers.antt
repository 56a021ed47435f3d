-- `sets::only` meets its contract: a shifted 1 has one place set.
use Rattle.sets.proofs.WordPlaces.{bit_only}
use Rattle.sets.proofs.only.Goals as goal

pub returns : goal.returns
returns c = λ j. bit_only c.args.i j c.requires
