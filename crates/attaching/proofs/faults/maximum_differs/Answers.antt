-- `attaching::faults::maximum_differs` meets its contract: both headers are there.
use Rattle.encoding.proofs.Places.{header_held}
use Rattle.attaching.proofs.faults.maximum_differs.Goals as goal

pub maximum_at-requires : goal.maximum_at-requires
maximum_at-requires c = (header_held c.args.base.bytes.now c.args.base.accepted.records, c.requires)

pub maximum_at-requires-2 : goal.maximum_at-requires-2
maximum_at-requires-2 c = (header_held c.args.expansion.bytes.now c.args.expansion.accepted.records, c.requires)
