-- `rulings::print_listing` is safe and ends: what is next is later.
use Rattle.std.proofs.Common.{ap, length, arith, rules}
use Rattle.listing.proofs.RequestsLeft.{fewer_next, request_next}
use Rattle.listing.proofs.Writing.{puts_long, written_long}
use Rattle.soundness.proofs.CheckedNumbers.{numbers_sound}
use Rattle.rulings.proofs.print_listing.Goals as goal

pub loop-next-init : goal.loop-next-init
loop-next-init g c = (omega (arith, puts_long c.fields_line.ensures.puts, c.fields_line.ensures.upper_bound, ap length c.new-text.ensures.bytes), search rules)

pub written-requires : goal.written-requires
written-requires g c = omega (arith, written_long c.fill-next.ensures.paged.written, c.fill-next.ensures.onward.1)

pub loop-next-smaller : goal.loop-next-smaller
loop-next-smaller g c =
    let request = rw c.in-Some.is at c.loop-next.invariant.1 in
    rw c.in-Some.is (fewer_next c.fill-next.result (numbers_sound c.args.diagram) request c.fill-next.ensures.onward.0)

pub loop-next-preserved : goal.loop-next-preserved
loop-next-preserved g c =
    (omega (arith, written_long c.fill-next.ensures.paged.written), request_next c.fill-next.result c.fill-next.ensures.onward.0)
