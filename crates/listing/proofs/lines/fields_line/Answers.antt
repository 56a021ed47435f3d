-- `listing::lines::fields_line` meets its contract.
use Rattle.std.proofs.Common.{◌≤◌, refl, List, [], ◌∷◌, ◌++◌, ℕ, length, drop, get_or, arith}
use mir.Syntax.{w16}
use mir.Val.{Fits}
use lib.ListN.{length-take}
use Rattle.answer.specs.Fields.{fields}
use Rattle.listing.specs.declared.text.Text.{Text}
use Rattle.listing.proofs.LineFits.{small_part}
use Rattle.listing.proofs.Lengths.{fields_line_short}
use Rattle.listing.proofs.Writing.{Partly, partly_none, partly_first, partly_more, partly_all}
use Rattle.listing.specs.Paths.{maxima_of, first_line}
use Rattle.listing.specs.Written.{HasRoom, Puts}
use Rattle.listing.specs.Text.{items, newline, fields_word, fields_line, most_line}
use Rattle.listing.proofs.lines.fields_line.Goals as goal
use Rattle.listing.proofs.lines.fields_line.Goals.{Start}

-- the first line fits the text
module _ (c : Start) (small : (i : ℕ) → Fits w16 (get_or c.args.diagram.now i 0)) where
  fits : length (first_line c.args.diagram.now) ≤ most_line
  fits = let d = c.args.diagram.now in fields_line_short (maxima_of d) (small_part d (λ i. omega (arith, small i)) 2 fields) (omega (arith, length-take fields (drop 2 d)))

  room : HasRoom c.args.text.now (first_line c.args.diagram.now)
  room = omega (arith, c.requires.line_fits, fits)

-- what is left of a diagram's first line, once its word is written, and once the maxima are
module _ (d : List ℕ) {t u : Text} (w : Puts t u fields_word) where
  word-put : Partly t (first_line d) u (items (maxima_of d) ++ newline ∷ [])
  unfolding fields_line
  word-put = partly_more (partly_none refl) refl w

  module _ {v : Text} (x : Puts u v (items (maxima_of d))) where
    maxima-put : Partly t (first_line d) v (newline ∷ [])
    maxima-put = partly_more word-put refl x

pub put_items-requires : goal.put_items-requires
put_items-requires c =
    let d = c.args.diagram.now in
    partly_first (word-put d c.put_all.ensures) (items (maxima_of d)) (newline ∷ []) refl (room (goal.at.put_items-requires c).Start c.type_inv.diagram)

pub end_line-requires : goal.end_line-requires
end_line-requires c =
    partly_first (maxima-put c.args.diagram.now c.put_all.ensures c.put_items.ensures) (newline ∷ []) [] refl (room (goal.at.end_line-requires c).Start c.type_inv.diagram)

pub returns : goal.returns
returns c =
    let w = partly_all (partly_more (maxima-put c.args.diagram.now c.put_all.ensures c.put_items.ensures) refl c.end_line.ensures) refl in
    record { puts = w; upper_bound = omega (arith, w.written.ends, fits (goal.at.returns c).Start c.type_inv.diagram) }
