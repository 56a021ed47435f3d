-- `encoding::writing::put_count` meets its contract: the header lies in the table.
use Rattle.encoding.proofs.Places.{count_there}
use Rattle.std.proofs.Common.{arith}
use Rattle.encoding.proofs.writing.put_count.Goals as goal

pub put_word-requires : goal.put_word-requires
put_word-requires c = let s = c in
    omega (arith, c.count_place-place.ensures, count_there s.args.table.now s.requires)
