-- `listing::text::Text::put_all` meets its contract: the bytes before the i-th are written.
use lib.ListN.{drop}
use Rattle.listing.proofs.Writing.{Partly}
use Rattle.listing.proofs.text.Text.put_all.Given as goal

abbrev pub invariant-loop-byte : goal.invariant-loop-byte
invariant-loop-byte l = Partly l.initial.self l.bytes l.self (drop l.byte-index l.bytes)
