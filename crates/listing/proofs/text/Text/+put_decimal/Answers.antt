-- `text::Text::put_decimal`, which calls itself, meets its contract.
use Rattle.std.proofs.Common.{refl, ℕ, [], arith}
use Rattle.listing.proofs.Decimal.{tenth_less, tenth_room, last_digit, digit_left, last_left}
use Rattle.listing.proofs.Writing.{Partly, partly_first, partly_more, partly_all}
use Rattle.listing.specs.Text.{decimal}
use Rattle.listing.proofs.text.Text.+put_decimal.Goals as goal
use Rattle.listing.proofs.text.Text.+put_decimal.Goals.{Joined-number-ge10, then-number-ge10, else-number-ge10}

-- the last digit is left to write
left : (t : ℕ) (c : Joined-number-ge10 t) → Partly c.args.self.now (decimal c.args.number) c.if-number-ge10.self (last_digit c.args.number)
left t c =
    elim c.if-number-ge10.branch [
      | then-number-ge10 w ↦ rw w.self-is (last_left c.args.number w.if-number-ge10.true w.put_decimal.ensures)
      | else-number-ge10 w ↦ rw w.self-is (digit_left c.args.number w.if-number-ge10.false)
    ]

pub put_decimal-requires : goal.put_decimal-requires
put_decimal-requires t c =
    let l = c.if-number-ge10.true in
    (omega (arith, tenth_less c.args.number l), tenth_room c.args.number c.args.self.now l c.requires)

pub put-requires : goal.put-requires
put-requires t c = partly_first (left t (goal.at.put-requires t c).Joined-number-ge10) (last_digit c.args.number) [] refl c.requires

pub returns : goal.returns
returns t c = partly_all (partly_more (left t (goal.at.returns t c).Joined-number-ge10) refl c.put.ensures) refl
