-- When a table is refused, and what reading one answers: document 01's refusals 1 to 8, in the order of its table, 7 as paper 7 leaves it.
-- Assumes nothing: these are definitions.
use Rattle.std.specs.Prelude.{Bool, not, cond, ◌&&◌, ◌||◌, List, [], ◌∷◌, ◌++◌, ℕ, ◌+◌, eqb, ltb, length}
use Rattle.answer.specs.Below.{some_below}
use Rattle.answer.specs.Fields.{fields}
use Rattle.answer.specs.Answers.{refused, counted}
use Rattle.answer.specs.Refusals.{Refusal, row, upward, settled, None}
use Rattle.answer.specs.declared.Answer.{Answer}
use Rattle.combining.specs.Kinds.{deny_rule_kind}
use Rattle.encoding.specs.Layout.{bytes_after, version, maximum, count, header, start, kind, span, card, low, high}
use Rattle.table.specs.Tree.{is_rule, end_of, parent, level}

-- 1: "under 8 bytes, or slice length isn't bytes 0-1 plus 2"
unfoldable pub length_fault : List ℕ → Bool
length_fault t = ltb (length t) (header t) || not (eqb (length t) (bytes_after t + 2))

-- 2: "version isn't 1"
unfoldable pub version_fault : List ℕ → Bool
version_fault t = not (eqb (version t) 1)

-- 3: "node count 0 or over 128, or slice length isn't 8 + 11 × count"
unfoldable pub count_fault : List ℕ → Bool
count_fault t = eqb (count t) 0 || ltb 128 (count t) || not (eqb (length t) (start t (count t)))

-- 4: "kind over 5"
unfoldable pub kind_fault : List ℕ → ℕ → Bool
kind_fault t i = ltb deny_rule_kind (kind t i)

-- of 5: "span 0; rule's span not 1", of a span and whether its node is a rule
abbrev pub odd_span : ℕ → Bool → Bool
odd_span s rule = eqb s 0 || (rule && not (eqb s 1))

-- of 5: "root's span not the count; span past its parent's end"
abbrev pub wrong_end : List ℕ → ℕ → Bool
wrong_end t i = cond (eqb i 0) (not (eqb (span t i) (count t))) (ltb (end_of t (parent t i)) (end_of t i))

-- 5: "span 0; rule's span not 1; root's span not the count; span past its parent's end"
unfoldable pub span_fault : List ℕ → ℕ → Bool
span_fault t i = odd_span (span t i) (is_rule t i) || wrong_end t i

-- 6: "level 9 or deeper"
unfoldable pub level_fault : List ℕ → ℕ → Bool
level_fault t i = ltb 8 (level t i)

-- 7, of paper 7: "a low or high above the maximum", in field f
unfoldable pub range_fault : List ℕ → ℕ → ℕ → Bool
range_fault t i f = ltb (maximum t f) (low t i f) || ltb (maximum t f) (high t i f)

-- 7, of paper 7: "a low or high above the maximum", in some field
unfoldable pub ranges_fault : List ℕ → ℕ → Bool
ranges_fault t i = some_below fields (range_fault t i)

-- 8: "rule with card 0, or group with another card"
unfoldable pub card_fault : List ℕ → ℕ → Bool
card_fault t i = cond (is_rule t i) (eqb (card t i) 0) (not (eqb (card t i) 0))

-- "Order: 1, 2, 3": the refusals of the whole table
abbrev pub header_refusals : List ℕ → List Refusal
header_refusals t = row 1 0 (length_fault t) ∷ row 2 0 (version_fault t) ∷ row 3 0 (count_fault t) ∷ []

-- "lowest number first within a node": the refusals of node i after 4
abbrev pub refusals_after_kind : List ℕ → ℕ → List Refusal
refusals_after_kind t i =
    row 5 i (span_fault t i) ∷ row 6 i (level_fault t i) ∷ row 7 i (ranges_fault t i) ∷ row 8 i (card_fault t i) ∷ []

-- "lowest number first within a node": the refusals of node i
abbrev pub node_refusals : List ℕ → ℕ → List Refusal
node_refusals t i = row 4 i (kind_fault t i) ∷ refusals_after_kind t i

-- "Order: 1, 2, 3; then nodes upward, lowest number first within a node": refusals 1 to 8 of a table
unfoldable pub table_refusals : List ℕ → List Refusal
table_refusals t = header_refusals t ++ upward (node_refusals t) 0 (count t)

-- What reading a table answers: "a reading alone counts nodes".
abbrev pub reading : List ℕ → Answer
reading t = settled refused (counted (count t)) (table_refusals t)

-- "A table is accepted when none of refusals 1 to 8 applies to it"
abbrev pub Accepted : List ℕ → Type 0
Accepted t = None (table_refusals t)
