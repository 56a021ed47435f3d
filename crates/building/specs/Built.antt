-- What building a diagram answers, and what it leaves in the lent diagram, for every table and every room: refusals 1 to 8 and 11, in order.
-- Assumes nothing: these are definitions.
use Rattle.std.specs.Prelude.{◌||◌, List, [], ◌∷◌, ◌++◌, ℕ, ltb, length}
use Rattle.answer.specs.Answers.{refused, counted}
use Rattle.answer.specs.Refusals.{Refusal, row, settled}
use Rattle.answer.specs.Rulings.{listed_or}
use Rattle.answer.specs.declared.Answer.{Answer}
use Rattle.encoding.specs.Layout.{maxima}
use Rattle.table.specs.Reading.{table_refusals}
use Rattle.ruling.specs.Ruling.{groups}
use Rattle.diagram.specs.Layout.{most_places}
use Rattle.diagram.specs.Walk.{diagram}

-- "its used part [..] is the diagram that the walk gives": of the table's maxima, and of what its groups give
abbrev pub diagram_of : List ℕ → List ℕ
diagram_of t = diagram (maxima t) (groups t)

-- "11, 0 | the built diagram needs over 32,768 places or more than lent", which are n
abbrev pub room_refusal : List ℕ → ℕ → Refusal
room_refusal t n = row 11 0 (ltb most_places (length (diagram_of t)) || ltb n (length (diagram_of t)))

-- "Order: 1, 2, 3; then nodes upward, lowest number first within a node; then [..] 11 for a build": where n places are lent
abbrev pub build_refusals : List ℕ → ℕ → List Refusal
build_refusals t n = table_refusals t ++ (room_refusal t n ∷ [])

-- the answer: "a build counts places used"
abbrev pub built : List ℕ → ℕ → Answer
built t n = settled refused (counted (length (diagram_of t))) (build_refusals t n)

-- what the lent diagram then holds: the used part, and "Places past the used ones become 0"; "zeros in the whole [..] lent diagram" of a refusal
abbrev pub built_diagram : List ℕ → ℕ → List ℕ
built_diagram t n = listed_or (build_refusals t n) (diagram_of t) n
