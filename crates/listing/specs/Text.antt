-- The text of a listing's lines, a number for each byte, as document 01 words it under "A small rulebook".
-- Assumes nothing: these are definitions.
use Rattle.std.specs.Prelude.{cond, List, [], ◌∷◌, ◌++◌, ℕ, zero, suc, ◌+◌, ◌*◌, ◌/◌, ◌%◌, ltb}
use Rattle.answer.specs.Fields.{fields}
use Rattle.answer.specs.Rulings.{Ruling}

-- the decimal digits of n, without leading zeros: its last digit follows those of a tenth of it; k bounds how many
unfoldable pub decimal_up_to : ℕ → ℕ → List ℕ
decimal_up_to zero n = []
decimal_up_to (suc k) n = cond (ltb n 10) ((48 + n) ∷ []) (decimal_up_to k (n / 10) ++ (48 + n % 10) ∷ [])

-- all decimal digits of n, of which there are no more than n + 1
unfoldable pub decimal : ℕ → List ℕ
decimal n = decimal_up_to (suc n) n

-- "One space parts two items."
abbrev pub space : ℕ
space = 32

abbrev pub dash : ℕ
dash = 45

-- the end of a line
abbrev pub newline : ℕ
newline = 10

-- "the word `fields`"
abbrev pub fields_word : List ℕ
fields_word = 102 ∷ 105 ∷ 101 ∷ 108 ∷ 100 ∷ 115 ∷ []

-- "as `refused 7 at 2`": what stands before the number
abbrev pub refused_word : List ℕ
refused_word = 114 ∷ 101 ∷ 102 ∷ 117 ∷ 115 ∷ 101 ∷ 100 ∷ space ∷ []

-- "as `refused 7 at 2`": what stands between the number and the place
abbrev pub at_word : List ℕ
at_word = space ∷ 97 ∷ 116 ∷ space ∷ []

-- "decision word (none, may, not, unclear)"
abbrev pub decision_word : ℕ → List ℕ
decision_word zero = 110 ∷ 111 ∷ 110 ∷ 101 ∷ []
decision_word (suc zero) = 109 ∷ 97 ∷ 121 ∷ []
decision_word (suc (suc zero)) = 110 ∷ 111 ∷ 116 ∷ []
decision_word (suc (suc (suc n))) = 117 ∷ 110 ∷ 99 ∷ 108 ∷ 101 ∷ 97 ∷ 114 ∷ []

-- the values of an edge, both ends included
pub record Range : Type 0 where
  pub low : ℕ
  pub high : ℕ

-- "each low-high"
unfoldable pub range : ℕ → ℕ → List ℕ
range low high = decimal low ++ dash ∷ decimal high

-- "three ranges (who, where, deed [..])", each with the space that parts it from what follows
unfoldable pub ranges : List Range → List ℕ
ranges [] = []
ranges (r ∷ rs) = range r.low r.high ++ space ∷ ranges rs

-- numbers, each after the space that parts it from what is before
unfoldable pub items : List ℕ → List ℕ
items [] = []
items (n ∷ ns) = space ∷ decimal n ++ items ns

-- "prints the word `fields` and the maxima"
unfoldable pub fields_line : List ℕ → List ℕ
fields_line ms = fields_word ++ (items ms ++ newline ∷ [])

-- "three ranges (who, where, deed, each low-high), decision word [..], cards"
unfoldable pub line : List Range → Ruling → List ℕ
line rs r = ranges rs ++ (decision_word r.decision ++ (items r.cards ++ newline ∷ []))

-- "A refusal prints one line, as `refused 7 at 2`"
unfoldable pub refused_line : ℕ → ℕ → List ℕ
refused_line number place = refused_word ++ (decimal number ++ (at_word ++ (decimal place ++ newline ∷ [])))

-- No line is longer: for each field a range of two values of three digits, the longest word, 127 cards of five digits, and the line's end.
abbrev pub most_line : ℕ
most_line = 8 * fields + 7 + 6 * 127 + 1
