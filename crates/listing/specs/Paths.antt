-- The paths of a diagram: the ranges of the one that a request takes, its line, and the first request after it.
-- Assumes nothing: these are definitions.
use Rattle.std.specs.Prelude.{Bool, true, false, cond, Option, Some, None, List, [], ◌∷◌, ◌++◌, ℕ, zero, suc, ◌+◌, ltb, take, drop}
use Rattle.answer.specs.Fields.{fields}
use Rattle.answer.specs.Answers.{zeros}
use Rattle.answer.specs.Order.{IsRequest, Precedes}
use Rattle.diagram.specs.Layout.{root, maximum, edges_at, last_at}
use Rattle.diagram.specs.LookUp.{edge, child, ruled_by}
use Rattle.listing.specs.Text.{Range, fields_line, line}

-- "Edges rise; the first begins at 0, the next one after the last": the first value of edge j of the node at p
abbrev pub first_at : List ℕ → ℕ → ℕ → ℕ
first_at d p zero = 0
first_at d p (suc j) = last_at d p j + 1

-- all values of edge j of the node at p
abbrev pub range_at : List ℕ → ℕ → ℕ → Range
range_at d p j = record { low = first_at d p j; high = last_at d p j }

-- the ranges of the path that the values take from place p down
unfoldable pub path_from : List ℕ → ℕ → List ℕ → List Range
path_from d p [] = []
path_from d p (v ∷ q) = range_at d p (edge d p v) ∷ path_from d (child d p v) q

-- "each path from the root": that which request q takes
abbrev pub path_of : List ℕ → List ℕ → List Range
path_of d q = path_from d (root d) q

-- the line of the path that request q takes
abbrev pub line_of : List ℕ → List ℕ → List ℕ
line_of d q = line (path_of d q) (ruled_by d q)

-- "the word `fields` and the maxima": the maxima
abbrev pub maxima_of : List ℕ → List ℕ
maxima_of d = take fields (drop 2 d)

-- the first line of a listing
abbrev pub first_line : List ℕ → List ℕ
first_line d = fields_line (maxima_of d)

-- A request that follows, or none, with zeros for it.
pub record After : Type 0 where
  pub more : Bool
  pub values : List ℕ

-- a request that follows
abbrev pub follows : List ℕ → After
follows q = record { more = true; values = q }

-- no request follows; q is then zeros
abbrev pub ends : List ℕ → After
ends q = record { more = false; values = q }

-- what the code hands back where a request follows, or none
abbrev pub after : Option (List ℕ) → After
after None = ends (zeros fields)
after (Some q) = follows q

-- the request that some values make with those that follow, if any do
abbrev pub request_of : List ℕ → After → Option (List ℕ)
request_of before n = cond n.more (Some (before ++ n.values)) None

-- "in rising order", at the node at p: the values after v move on where they can; else v moves on to the next edge, if there is one, and they start at 0
unfoldable pub next_at : List ℕ → ℕ → ℕ → After → After
next_at d p v below =
    cond below.more (follows (v ∷ below.values))
    (cond (ltb (edge d p v + 1) (edges_at d p)) (follows (first_at d p (edge d p v + 1) ∷ below.values))
    (ends (0 ∷ below.values)))

-- the first values after all of the path that the values take from place p down
unfoldable pub next_from : List ℕ → ℕ → List ℕ → After
next_from d p [] = ends []
next_from d p (v ∷ q) = next_at d p v (next_from d (child d p v) q)

-- the first request after all of the path that request q takes from the root
abbrev pub next_of : List ℕ → List ℕ → After
next_of d q = next_from d (root d) q

-- "in rising order": a request q' that follows request q is one of the diagram's, and comes after q
pub record Later (d q q' : List ℕ) : Type 0 where
  pub request : IsRequest (maximum d) q'
  pub rises : Precedes q q'
