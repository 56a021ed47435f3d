-- The diagram of the small rulebook T, as document 01 gives it: cases and examples speak of it.
-- Assumes nothing: these are definitions.
use Rattle.std.specs.Prelude.{List, [], ◌∷◌, ℕ}

-- "Its diagram has 63 places, root at 55.": an entry to a line
abbrev pub diagram_t : List ℕ
diagram_t =
    63 ∷ 55 ∷ 2 ∷ 1 ∷ 1
    ∷ 0 ∷ 1 ∷ 1 ∷ 10
    ∷ 0 ∷ 0 ∷ 0
    ∷ 3 ∷ 2 ∷ 0 ∷ 5 ∷ 1 ∷ 9
    ∷ 2 ∷ 1 ∷ 1 ∷ 12
    ∷ 0 ∷ 1 ∷ 1 ∷ 30
    ∷ 3 ∷ 2 ∷ 0 ∷ 5 ∷ 1 ∷ 22
    ∷ 2 ∷ 2 ∷ 0 ∷ 12 ∷ 1 ∷ 26
    ∷ 0 ∷ 2 ∷ 2 ∷ 10 ∷ 20
    ∷ 3 ∷ 2 ∷ 0 ∷ 38 ∷ 1 ∷ 9
    ∷ 2 ∷ 2 ∷ 0 ∷ 43 ∷ 1 ∷ 12
    ∷ 1 ∷ 3 ∷ 0 ∷ 18 ∷ 1 ∷ 32 ∷ 2 ∷ 49
    ∷ []
