-- `listing::text::Text::put_items` meets its contract: the numbers before the next are written.
use Rattle.std.proofs.Common.{ℕ, ◌+◌, refl, sym, ap, [], ◌∷◌, ◌++◌, drop, get_or}
use Rattle.listing.proofs.Items.{items_next, items_end}
use Rattle.listing.proofs.Writing.{Partly, partly_first, partly_more, partly_all, puts_as}
use Rattle.listing.specs.Text.{decimal, space, items}
use Rattle.listing.proofs.text.Text.put_items.Goals as goal
use Rattle.listing.proofs.text.Text.put_items.Goals.{After-put}

-- once the space before the next number is written
spaced : (c : After-put) → let n = c.args.numbers.now in
    Partly c.args.self.now (items n) c.put.new.self (decimal (get_or n c.loop-number.number-index 0) ++ items (drop (c.loop-number.number-index + 1) n))
spaced c = partly_more c.loop-number.invariant (items_next c.args.numbers.now c.loop-number.number-index c.loop-number-test.true) c.put.ensures

pub put-requires : goal.put-requires
put-requires c =
    partly_first c.loop-number.invariant (space ∷ []) _ (items_next c.args.numbers.now c.loop-number.number-index c.loop-number-test.true) c.requires

pub put_decimal-requires : goal.put_decimal-requires
put_decimal-requires c =
    let rest = items (drop (c.loop-number.number-index + 1) c.args.numbers.now) in
    partly_first (spaced (goal.at.put_decimal-requires c).After-put) (decimal c.from.result) rest (ap (λ (m : ℕ). decimal m ++ rest) (sym c.from.ensures)) c.requires

pub loop-number-preserved : goal.loop-number-preserved
loop-number-preserved c =
    partly_more (spaced (goal.at.loop-number-preserved c).After-put) refl (puts_as c.put_decimal.ensures (ap decimal c.from.ensures))

pub returns : goal.returns
returns c = partly_all c.loop-number.invariant (items_end c.args.numbers.now c.loop-number.number-index c.loop-number-test.false)
