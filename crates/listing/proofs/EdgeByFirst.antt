-- At a sound node each edge is the one of its first value, which is within the maximum.
use mathlib.Core.Path.{◌≡◌, ap}
use mathlib.Core.List.{List}
use Prim.Native.Nat.{ℕ, zero, suc, ◌≤◌, ◌<◌}
use native.Mathlib.Omega.{arith}
use native.Mathlib.Numerals.{add-one}
use Rattle.answer.specs.Fields.{fields}
use Rattle.diagram.specs.Layout.{used, maximum, edges_at, last_at}
use Rattle.diagram.specs.LookUp.{edge}
use Rattle.diagram.specs.Sound.{EntryBefore, next_level, SoundNode, Sound}
use Rattle.diagram.proofs.FirstEdge.{edge_is}
use Rattle.diagram.proofs.Descent.{node_here}
use Rattle.lookup.proofs.Halving.{last_rises}
use Rattle.listing.specs.Paths.{first_at}
use Rattle.listing.proofs.Edges.{last_most}

module _ (k : ℕ) (d : List ℕ) (p : ℕ) (n : SoundNode k d p) where
  -- an edge begins where those before it have ended, and before it ends
  first_after : (j i : ℕ) → j < edges_at d p → i < j → last_at d p i < first_at d p j
  first_after zero i h l = absurd (omega arith)
  first_after (suc j) i h l = omega (arith, last_rises k d p 0 n i j (omega arith) (omega arith))

  first_before : (j : ℕ) → j < edges_at d p → first_at d p j ≤ last_at d p j
  first_before zero h = omega arith
  first_before (suc j) h = omega (arith, n.rising j (omega arith), ap (last_at d p) (add-one j))

  edge_by_first : (j : ℕ) → j < edges_at d p → edge d p (first_at d p j) ≡ j
  edge_by_first j h = edge_is d p (first_at d p j) j (omega arith) (λ i l. first_after j i h l) (λ l. first_before j h)

module _ (d : List ℕ) (s : Sound fields d) (p f : ℕ) (e : EntryBefore fields d (used d) (next_level fields f) p) (l : f < fields) (j : ℕ) (h : j < edges_at d p) where
  pub edge_of_first : edge d p (first_at d p j) ≡ j
  edge_of_first = edge_by_first fields d p (node_here d s p f e l) j h

  pub first_within : first_at d p j ≤ maximum d f
  first_within = omega (arith, first_before fields d p (node_here d s p f e l) j h, last_most d s p f e l j h)
