-- `encoding::writing::put_bytes_after` meets its contract: the header lies in the table.
use Rattle.encoding.proofs.Places.{version_there}
use Rattle.std.proofs.Common.{arith}
use Rattle.encoding.proofs.writing.put_bytes_after.Goals as goal

pub put_word-requires : goal.put_word-requires
put_word-requires c = omega (arith, version_there c.args.table.now c.requires)
