-- `table::reading::read` meets its contract: what `read_conformance` finds, as an answer.
use Rattle.table.proofs.Accepting.{accepted_header, counted_accepted}
use Rattle.table.proofs.Header.{headed}
use Rattle.table.proofs.reading.read.Goals as goal

pub count_at-requires : goal.count_at-requires
count_at-requires c = (headed c.args.table.now (accepted_header c.args.table.now (counted_accepted c.args.table.now c.in-Ok.ensures.value))).long
