-- Which nodes apply, one field at a time, and what the groups give where some nodes are still possible.
-- Assumes nothing: these are definitions.
use Rattle.std.specs.Prelude.{Bool, not, ◌&&◌, ◌||◌, List, [], ◌∷◌, ℕ, suc, ltb}
use Rattle.answer.specs.Rulings.{Ruling}
use Rattle.encoding.specs.Layout.{low, high, count}
use Rattle.table.specs.Tree.{end_of}
use Rattle.answer.specs.Below.{every_below}
use Rattle.targets.specs.Targets.{in_range}
use Rattle.ruling.specs.Meaning.{meaning}

-- "low and high [..], both ends included": value v lies in node i's range of field f
abbrev pub range_holds : List ℕ → ℕ → ℕ → ℕ → Bool
range_holds t f v i = in_range (low t i f) (high t i f) v

-- "its own target and every target above it hold", of field f alone: v lies in the ranges of node i and of every node above it
unfoldable pub applies_in : List ℕ → ℕ → ℕ → ℕ → Bool
applies_in t f v i = every_below (suc i) (λ j. not (ltb i (end_of t j)) || range_holds t f v j)

-- the nodes of the table that do
abbrev pub member : List ℕ → ℕ → ℕ → ℕ → Bool
member t f v i = ltb i (count t) && applies_in t f v i

-- of the nodes a, those that apply in the fields from f on too, where these have the values q
abbrev pub still : List ℕ → ℕ → (ℕ → Bool) → List ℕ → ℕ → Bool
still t f a [] = a
still t f a (v ∷ q) = still t (suc f) (λ i. a i && member t f v i) q

-- what the groups give where the fields before f leave the nodes a, and those from f on have the values q
abbrev pub ruling_from : List ℕ → ℕ → (ℕ → Bool) → List ℕ → Ruling
ruling_from t f a q = meaning (still t f a q) t
