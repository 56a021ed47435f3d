-- What a test of which nodes apply is like: for a request, for several subjects that ask together, and for the sets of nodes of a build.
-- Assumes nothing: these are definitions.
use Rattle.std.specs.Prelude.{◌≡◌, ℕ, ◌<◌, ◌≤◌, Bool, false, List}
use Rattle.encoding.specs.Layout.{count}
use Rattle.table.specs.Tree.{end_of}

-- "its own target and every target above it hold": a node that is out takes all nodes under it out
abbrev pub Closed : List ℕ → (ℕ → Bool) → Type 0
Closed t a = (i j : ℕ) → i < count t → i ≤ j → j < end_of t i → a i ≡ false → a j ≡ false
