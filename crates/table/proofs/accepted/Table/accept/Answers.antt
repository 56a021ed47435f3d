-- `table::accepted::Table::accept` meets its contract: a table that was read without a refusal is accepted.
use Rattle.table.proofs.Accepting.{counted_accepted}
use Rattle.table.proofs.AcceptedIsWellFormed.{well_formed}
use Rattle.table.proofs.accepted.Table.accept.Goals as goal

pub invariant_of-result : goal.invariant_of-result
invariant_of-result c =
    record { accepted = well_formed c.args.bytes.now (counted_accepted c.args.bytes.now c.in_ok-read_conformance.ensures.value) }
