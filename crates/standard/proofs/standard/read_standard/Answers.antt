-- `standard::standard::read_standard` meets its contract: what `accept_standard` finds, as an answer.
use Rattle.encoding.proofs.Places.{header_held}
use Rattle.table.proofs.AcceptedIsWellFormed.{well_formed}
use Rattle.standard.proofs.Accepting.{standard_accepted, counted_standard}
use Rattle.standard.proofs.standard.read_standard.Goals as goal

pub count_at-requires : goal.count_at-requires
count_at-requires c =
    let t = c.args.table.now in
    header_held t (well_formed t (standard_accepted t (counted_standard t c.in-Ok.ensures.value))).records
