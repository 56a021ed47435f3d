-- `listing::lines::refused_line` meets its contract.
use Rattle.std.proofs.Common.{◌≤◌, refl, sym, ap, List, [], ◌∷◌, ◌++◌, ℕ, length, arith}
use Rattle.listing.specs.declared.text.Text.{Text}
use Rattle.listing.proofs.Lengths.{refused_line_short}
use Rattle.listing.proofs.Writing.{Partly, partly_none, partly_first, partly_more, partly_all, puts_as}
use Rattle.listing.specs.Written.{HasRoom, Puts}
use Rattle.listing.specs.Text.{decimal, refused_word, at_word, newline, refused_line, most_line}
use Rattle.listing.proofs.lines.refused_line.Goals as goal
use Rattle.listing.proofs.lines.refused_line.Goals.{Start, After-put_decimal}

-- what follows the number
abbrev after_number : ℕ → List ℕ
after_number place = at_word ++ (decimal place ++ newline ∷ [])

-- the line fits the text
module _ (c : Start) where
  fits : length (refused_line c.args.number c.args.place) ≤ most_line
  fits = refused_line_short c.args.number c.args.place (omega arith) (omega arith)

  room : HasRoom c.args.text.now (refused_line c.args.number c.args.place)
  room = omega (arith, c.requires, fits)

-- what is left of the line once its parts are written, one after another
module _ (number place : ℕ) {t u : Text} (first : Puts t u refused_word) where
  word-put : Partly t (refused_line number place) u (decimal number ++ after_number place)
  unfolding refused_line
  word-put = partly_more (partly_none refl) refl first

  module _ {v : Text} (second : Puts u v (decimal number)) where
    number-put : Partly t (refused_line number place) v (after_number place)
    number-put = partly_more word-put refl second

    module _ {x : Text} (third : Puts v x at_word) where
      at-put : Partly t (refused_line number place) x (decimal place ++ newline ∷ [])
      at-put = partly_more number-put refl third

      module _ {y : Text} (fourth : Puts x y (decimal place)) where
        place-put : Partly t (refused_line number place) y (newline ∷ [])
        place-put = partly_more at-put refl fourth

-- the number is written
module _ (c : After-put_decimal) where
  number-written : Puts c.put_all.new.self c.put_decimal.new.self (decimal c.args.number)
  number-written = puts_as c.put_decimal.ensures (ap decimal c.from.ensures)

pub put_decimal-requires : goal.put_decimal-requires
put_decimal-requires c =
    let n = c.args.number in
    let p = c.args.place in
    partly_first (word-put n p c.put_all.ensures) (decimal c.from.result) (after_number p) (ap (λ (m : ℕ). decimal m ++ after_number p) (sym c.from.ensures))
    (room (goal.at.put_decimal-requires c).Start)

pub put_all-requires-2 : goal.put_all-requires-2
put_all-requires-2 c =
    let p = c.args.place in
    let n = number-written (goal.at.put_all-requires-2 c).After-put_decimal in
    partly_first (number-put c.args.number p c.put_all.ensures n) at_word (decimal p ++ newline ∷ []) refl
    (room (goal.at.put_all-requires-2 c).Start)

pub put_decimal-requires-2 : goal.put_decimal-requires-2
put_decimal-requires-2 c =
    let p = c.args.place in
    let n = number-written (goal.at.put_decimal-requires-2 c).After-put_decimal in
    partly_first (at-put c.args.number p c.put_all.ensures n c.put_all-2.ensures) (decimal p) (newline ∷ []) refl
    (room (goal.at.put_decimal-requires-2 c).Start)

pub end_line-requires : goal.end_line-requires
end_line-requires c =
    let n = number-written (goal.at.end_line-requires c).After-put_decimal in
    partly_first (place-put c.args.number c.args.place c.put_all.ensures n c.put_all-2.ensures c.put_decimal-2.ensures) (newline ∷ []) [] refl
    (room (goal.at.end_line-requires c).Start)

pub returns : goal.returns
returns c =
    let n = number-written (goal.at.returns c).After-put_decimal in
    let put = place-put c.args.number c.args.place c.put_all.ensures n c.put_all-2.ensures c.put_decimal-2.ensures in
    let w = partly_all (partly_more put refl c.end_line.ensures) refl in
    record { puts = w; upper_bound = omega (arith, w.written.ends, fits (goal.at.returns c).Start) }
