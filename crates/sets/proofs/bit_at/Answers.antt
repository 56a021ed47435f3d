-- `sets::bit_at` meets its contract: a shift and a mask read a place.
use Rattle.sets.proofs.WordPlaces.{bit_read}
use Rattle.sets.proofs.bit_at.Goals as goal

pub returns : goal.returns
returns c = bit_read c.args.word c.args.i
