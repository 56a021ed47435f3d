-- `listing::pages::fill` meets its contract: the lines up to the next request are written, and fewer requests are left.
use Rattle.listing.proofs.Filling.{Filling}
use Rattle.listing.proofs.RequestsLeft.{requests_left}
use Rattle.listing.proofs.pages.fill.Given as goal

abbrev pub invariant-loop-following : goal.invariant-loop-following
invariant-loop-following l = Filling l.diagram.numbers.now l.initial.request l.initial.text l.text l.request

abbrev pub decreases-loop-following : goal.decreases-loop-following
decreases-loop-following l = requests_left l.request
