-- `listing::lines::cards_of` meets its contract: numbers of 16 bits from the place on.
use Rattle.std.proofs.Common.{arith}
use Rattle.listing.proofs.LineFits.{small_part}
use Rattle.listing.proofs.lines.cards_of.Goals as goal

pub returns-clause-small : goal.returns-clause-small
returns-clause-small c = small_part c.args.diagram.now (λ i. omega (arith, c.type_inv.diagram i)) _ _
