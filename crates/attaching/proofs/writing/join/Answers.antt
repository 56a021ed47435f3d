-- `attaching::writing::join` meets its contract: the base's bytes are copied, and then the part of the expansion after its header.
use Rattle.encoding.proofs.Places.{header_held}
use Rattle.attaching.proofs.Copied.{part_fits, base_fits, copied_both}
use Rattle.std.proofs.Common.{arith}
use Rattle.attaching.proofs.writing.join.Goals as goal

pub slice_bounds-store-start : goal.slice_bounds-store-start
slice_bounds-store-start c = omega (arith, c.header_size-header.ensures, header_held c.args.expansion.bytes.now c.args.expansion.accepted.records)

pub slice_bounds-store-count : goal.slice_bounds-store-count
slice_bounds-store-count c = omega (arith, c.header_size-header.ensures, header_held c.args.expansion.bytes.now c.args.expansion.accepted.records)

pub store-requires : goal.store-requires
store-requires c = base_fits _ _ _ c.requires

pub store-requires-2 : goal.store-requires-2
store-requires-2 c = part_fits _ _ _ c.header_size-header.ensures _ (omega (arith, c.requires, c.store.auto.list))

pub returns : goal.returns
returns c = copied_both _ _ _ c.header_size-header.ensures _ _ _ c.store.ensures c.store-2.ensures
