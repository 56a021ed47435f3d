-- `encoding::layout::record_byte` meets its contract: the record lies in the table.
use mathlib.Core.Path.{ap}
use Prim.Native.Nat.{◌+◌}
use Rattle.encoding.specs.Layout.{byte, record_byte}
use Rattle.encoding.proofs.Places.{record_places}
use Rattle.std.proofs.Common.{arith}
use Rattle.encoding.proofs.layout.record_byte.Goals as goal

pub start_of-requires : goal.start_of-requires
start_of-requires c = omega (arith, record_places c.args.table.now c.args.i c.requires.0)

pub overflow_add-result : goal.overflow_add-result
overflow_add-result c = omega (arith, record_places c.args.table.now c.args.i c.requires.0)

pub bounds-table-start_of : goal.bounds-table-start_of
bounds-table-start_of c = omega (arith, record_places c.args.table.now c.args.i c.requires.0)

pub returns : goal.returns
unfolding record_byte
returns c = ap (λ p. byte c.args.table.now (p + c.args.k)) c.start_of.ensures
