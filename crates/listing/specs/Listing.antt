-- The whole listing of a diagram, and the part of it that a page holds.
-- Assumes nothing: these are definitions.
use Rattle.std.specs.Prelude.{◌≡◌, true, List, [], ◌∷◌, ◌++◌, ℕ, zero, suc, ◌+◌, ◌≤◌, ◌<◌, length}
use Rattle.answer.specs.Fields.{fields}
use Rattle.diagram.specs.Layout.{root, edges_at, child_at}
use Rattle.diagram.specs.LookUp.{ruling_at}
use Rattle.listing.specs.Text.{Range, line, most_line}
use Rattle.listing.specs.Written.{Written}
use Rattle.listing.specs.Paths.{After, range_at, line_of, first_line, follows, next_of, Later}

-- the lines of n edges, one after another in rising order, where `under j` are those of edge j
unfoldable pub in_order : (ℕ → List ℕ) → ℕ → List ℕ
in_order under zero = []
in_order under (suc n) = in_order under n ++ under n

-- "each path from the root in rising order": the lines of all paths from place p down through n fields, after the ranges rs
unfoldable pub lines_from : List ℕ → ℕ → ℕ → List Range → List ℕ
lines_from d zero p rs = line rs (ruling_at d p)
lines_from d (suc n) p rs = in_order (λ (j : ℕ). lines_from d n (child_at d p j) (rs ++ range_at d p j ∷ [])) (edges_at d p)

-- "prints the word `fields` and the maxima, then each path from the root in rising order"
unfoldable pub listing : List ℕ → List ℕ
listing d = first_line d ++ lines_from d fields (root d) []

-- The bytes are the lines from request q on, each followed by the line of the request that follows, up to but without what is next.
pub data Run (d q : List ℕ) : List ℕ → After → Type 0 where
  begun : Run d q [] (follows q)
  onward : (bytes q' : List ℕ) → Run d q bytes (follows q') → Run d q (bytes ++ line_of d q') (next_of d q')

-- A page holds such lines from place `at` up to place `end` of a text: all that begin where there is room for a longest line.
pub record Paged (d q before after : List ℕ) (at end : ℕ) (next : After) : Type 0 where
  -- the lines before the last, and the request of the last
  pub bytes : List ℕ
  pub last : List ℕ
  pub run : Run d q bytes (follows last)
  pub onto : next ≡ next_of d last
  pub written : Written before after at end (bytes ++ line_of d last)
  -- the last begins where there is room, and where one follows there is none
  pub begins : at + length bytes + most_line ≤ length before
  pub stops : next.more ≡ true → length before < end + most_line

-- The request that is next after a page is later than the page's first.
abbrev pub Onward : List ℕ → List ℕ → After → Type 0
Onward d q next = next.more ≡ true → Later d q next.values
