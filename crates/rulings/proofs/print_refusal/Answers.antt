-- `rulings::print_refusal` is safe: the line ends within the text.
use Rattle.std.proofs.Common.{ap, length, arith}
use Rattle.listing.proofs.Writing.{puts_long}
use Rattle.rulings.proofs.print_refusal.Goals as goal

pub written-requires : goal.written-requires
written-requires g c = omega (arith, puts_long c.refused_line.ensures.puts, c.refused_line.ensures.upper_bound, ap length c.new-text.ensures.bytes)
