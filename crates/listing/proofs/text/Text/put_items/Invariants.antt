-- `listing::text::Text::put_items` meets its contract: the numbers before the i-th are written.
use lib.ListN.{drop}
use Rattle.listing.proofs.Writing.{Partly}
use Rattle.listing.specs.Text.{items}
use Rattle.listing.proofs.text.Text.put_items.Given as goal

abbrev pub invariant-loop-number : goal.invariant-loop-number
invariant-loop-number l = Partly l.initial.self (items l.numbers) l.self (items (drop l.number-index l.numbers))
