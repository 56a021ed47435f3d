-- `table::reading::node_fault` meets its contract: refusal 4, or the first of refusals 5 to 8 that applies.
use Rattle.table.proofs.Faults.{fault_later, fault_kind}
use Rattle.answer.specs.Numbers.{number_or_zero}
use Rattle.std.proofs.Common.{arith}
use Rattle.table.proofs.reading.node_fault.Goals as goal

pub returns-in-0-to-3 : goal.returns-in-0-to-3
returns-in-0-to-3 c =
    fault_later c.args.table.now c.args.i c.kind_at.result (number_or_zero c.fault_of.result) c.kind_at.ensures (omega arith) c.fault_of.ensures

pub returns-in-4-to-5 : goal.returns-in-4-to-5
returns-in-4-to-5 c =
    fault_later c.args.table.now c.args.i c.kind_at.result (number_or_zero c.fault_of-in-4-to-5.result) c.kind_at.ensures (omega arith) c.fault_of-in-4-to-5.ensures

pub returns-in_default : goal.returns-in_default
returns-in_default c =
    fault_kind c.args.table.now c.args.i c.kind_at.result c.kind_at.ensures (omega arith)
