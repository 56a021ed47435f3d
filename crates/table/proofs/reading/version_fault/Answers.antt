-- `table::reading::version_fault` meets its contract: the byte compared is the version.
use mathlib.Core.Path.{refl}
use Rattle.table.specs.Reading.{version_fault}
use Rattle.encoding.proofs.Places.{version_there}
use Rattle.std.proofs.Common.{arith}
use Rattle.table.proofs.reading.version_fault.Goals as goal

pub bounds-table-2 : goal.bounds-table-2
bounds-table-2 c = omega (arith, version_there c.args.table.now c.requires)

pub returns : goal.returns
unfolding version_fault
returns c = refl
