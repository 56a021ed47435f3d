-- `sets::Set::meet` meets its contract: the operation on both words is one on the set.
use mathlib.Core.Bool.{◌&&◌}
use lib.Bits.{bit_and as word_and}
use Rattle.sets.proofs.WordPlaces.{bit_and}
use Rattle.sets.proofs.SetNumbers.{both}
use Rattle.sets.proofs.Set.meet.Goals as goal

pub returns : goal.returns
returns c = let s = c.args.self in
    let o = c.args.other in
    both (λ x y. x && y) s o (record { low = word_and s.low o.low; high = word_and s.high o.high }) (bit_and s.low o.low) (bit_and s.high o.high)
