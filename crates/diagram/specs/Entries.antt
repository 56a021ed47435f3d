-- The entries of a diagram as lists of numbers, as document 01 words them under "The diagram".
-- Assumes nothing: these are definitions.
use Rattle.std.specs.Prelude.{List, [], ◌∷◌, ℕ, length}
use Rattle.answer.specs.Rulings.{Ruling}

-- "label: 0, decision, number of cards, the cards": the terminal of a ruling
unfoldable pub terminal : Ruling → List ℕ
terminal r = 0 ∷ r.decision ∷ length r.cards ∷ r.cards

-- "for each edge its last value and its child's place"
pub record Edge : Type 0 where
  pub last : ℕ
  pub child : ℕ

abbrev pub edge_numbers : List Edge → List ℕ
edge_numbers [] = []
edge_numbers (e ∷ es) = e.last ∷ e.child ∷ edge_numbers es

-- "node: level (1 who, 2 where, 3 deed), number of edges, then for each edge [..]"
unfoldable pub node : ℕ → List Edge → List ℕ
node level es = level ∷ length es ∷ edge_numbers es
