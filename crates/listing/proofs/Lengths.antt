-- How long the items of a line and the lines are at most.
use mathlib.Core.List.{List, [], ◌∷◌, ◌++◌}
use Prim.Native.Nat.{ℕ, zero, suc, ◌*◌, ◌^◌, ◌≤◌, ◌<◌}
use native.Mathlib.Omega.{arith}
use lib.ListN.{length, get_or, length-append}
use Rattle.answer.specs.Fields.{fields}
use Rattle.listing.specs.Text.{decimal, dash, newline, range, items, decision_word, at_word, fields_line, refused_line, most_line}
use Rattle.listing.proofs.Decimal.{decimal_short}

-- a range of values up to 255
pub range_short : (low high : ℕ) → low ≤ 255 → high ≤ 255 → length (range low high) ≤ 7
unfolding range
range_short low high a b =
    omega (arith, length-append (decimal low) (dash ∷ decimal high), decimal_short 2 low (omega arith), decimal_short 2 high (omega arith))

-- numbers of 16 bits
pub items_short : (ns : List ℕ) → ((i : ℕ) → get_or ns i 0 < 65536) → length (items ns) ≤ 6 * length ns
unfolding items
items_short [] h = omega arith
items_short (n ∷ ns) h =
    let r : length (items ns) ≤ 6 * length ns = items_short ns (λ i. h (suc i)) in
    omega (arith, length-append (decimal n) (items ns), decimal_short 4 n (omega (arith, h 0)))

pub word_short : (n : ℕ) → length (decision_word n) ≤ 7
word_short zero = omega arith
word_short (suc zero) = omega arith
word_short (suc (suc zero)) = omega arith
word_short (suc (suc (suc n))) = omega arith

pub fields_line_short : (ms : List ℕ) → ((i : ℕ) → get_or ms i 0 < 65536) → length ms ≤ fields → length (fields_line ms) ≤ most_line
unfolding fields_line
fields_line_short ms h l = omega (arith, length-append (items ms) (newline ∷ []), items_short ms h)

pub refused_line_short : (number place : ℕ) → number < 256 → place < 2 ^ 64 → length (refused_line number place) ≤ most_line
unfolding refused_line
refused_line_short number place a b =
    omega (
      arith,
      length-append (decimal number) (at_word ++ (decimal place ++ newline ∷ [])),
      length-append (decimal place) (newline ∷ []),
      decimal_short 2 number (omega arith),
      decimal_short 19 place (omega arith),
    )
