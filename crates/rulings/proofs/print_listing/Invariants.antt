-- `rulings::print_listing` is safe and ends: what is next is later.
use Rattle.std.proofs.Common.{◌+◌, ◌≤◌, length, IfSome}
use Rattle.answer.specs.Order.{IsRequest}
use Rattle.diagram.specs.Layout.{maximum}
use Rattle.listing.proofs.RequestsLeft.{left_where}
use Rattle.listing.specs.Text.{most_line}
use Rattle.rulings.proofs.print_listing.Given as goal

abbrev pub invariant-loop-next : goal.invariant-loop-next
invariant-loop-next g l = (l.text.end + most_line ≤ length l.text.bytes.now) × IfSome l.next (λ q. IsRequest (maximum l.diagram.numbers.now) q)

abbrev pub decreases-loop-next : goal.decreases-loop-next
decreases-loop-next g l = left_where l.next
