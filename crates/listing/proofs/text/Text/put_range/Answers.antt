-- `listing::text::Text::put_range` meets its contract.
use Rattle.std.proofs.Common.{[], ◌∷◌}
use Rattle.listing.proofs.Writing.{room_first, puts_room, puts_between, puts_join}
use Rattle.listing.specs.Text.{decimal, dash, range}
use Rattle.listing.proofs.text.Text.put_range.Goals as goal

pub put_decimal-requires : goal.put_decimal-requires
unfolding range
put_decimal-requires c = room_first c.args.self.now.bytes.now c.args.self.now.end (decimal c.args.low) (dash ∷ decimal c.args.high) c.requires

pub put-requires : goal.put-requires
unfolding range
put-requires c = puts_between c.put_decimal.ensures (dash ∷ []) (decimal c.args.high) c.requires

pub put_decimal-requires-2 : goal.put_decimal-requires-2
unfolding range
put_decimal-requires-2 c =
    let high = decimal c.args.high in
    puts_room c.put.ensures high (puts_room c.put_decimal.ensures (dash ∷ high) c.requires)

pub returns : goal.returns
unfolding range
returns c =
    let high = decimal c.args.high in
    puts_join c.put_decimal.ensures (dash ∷ high) (puts_join c.put.ensures high c.put_decimal-2.ensures)
