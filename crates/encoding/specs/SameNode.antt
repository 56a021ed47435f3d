-- What it is for a node of one table to be that of another, but for its span.
-- Assumes nothing: these are definitions.
use Rattle.std.specs.Prelude.{List, ◌≡◌, ℕ, ◌<◌}
use Rattle.answer.specs.Fields.{fields}
use Rattle.encoding.specs.Layout.{kind, card, low, high}

-- Node i of table t has the kind, the card and the ranges of node j of table u.
pub record SameNode (t : List ℕ) (i : ℕ) (u : List ℕ) (j : ℕ) : Type 0 where
  pub kinds : kind t i ≡ kind u j
  pub cards : card t i ≡ card u j
  pub lows : (f : ℕ) → f < fields → low t i f ≡ low u j f
  pub highs : (f : ℕ) → f < fields → high t i f ≡ high u j f
