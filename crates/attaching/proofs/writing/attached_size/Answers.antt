-- `attaching::writing::attached_size` meets its contract: the header is left out of the expansion.
use Rattle.encoding.proofs.Places.{header_held}
use Rattle.attaching.proofs.BytesFitted.{size_is, size_small}
use Rattle.std.proofs.Common.{arith}
use Rattle.attaching.proofs.writing.attached_size.Goals as goal

pub overflow_sub-result : goal.overflow_sub-result
overflow_sub-result c = omega (arith, c.header_size-header.ensures, header_held c.args.expansion.bytes.now c.args.expansion.accepted.records)

pub returns : goal.returns
returns c =
    let size = size_is c.args.base.bytes.now c.args.expansion.bytes.now in
    let small = size_small c.args.base.bytes.now c.args.expansion.bytes.now c.args.base.accepted c.args.expansion.accepted in
    (omega (arith, c.header_size-header.ensures, size), omega (arith, c.header_size-header.ensures, size, small))
