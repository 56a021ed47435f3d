-- Laws of the first and last values of a node's edges.
use mathlib.Core.Path.{◌≡◌, ap}
use mathlib.Core.List.{List}
use Prim.Native.Nat.{ℕ, zero, suc, ◌+◌, ◌-◌, ◌≤◌, ◌<◌}
use native.Mathlib.Omega.{arith}
use native.Mathlib.Numerals.{add-one}
use Rattle.answer.specs.Fields.{fields}
use Rattle.diagram.specs.Layout.{used, maximum, edges_at, last_at}
use Rattle.diagram.specs.LookUp.{edge}
use Rattle.diagram.specs.Sound.{EntryBefore, next_level, SoundNode, Sound}
use Rattle.diagram.proofs.FirstEdge.{edge_before}
use Rattle.diagram.proofs.ValueTakesARealEdge.{value_takes_a_real_edge}
use Rattle.diagram.proofs.Descent.{node_here, maximum_here, value_most}
use Rattle.lookup.proofs.Halving.{last_rises}
use Rattle.listing.specs.Paths.{first_at}

-- the edge of a value does not begin above it
pub first_most : (d : List ℕ) (p v j : ℕ) → j ≡ edge d p v → first_at d p j ≤ v
first_most d p v zero e = omega arith
first_most d p v (suc j) e = omega (arith, edge_before d p v j (omega arith))

-- at the place of a field f, in a sound diagram
module _ (d : List ℕ) (s : Sound fields d) (p f : ℕ) (e : EntryBefore fields d (used d) (next_level fields f) p) (l : f < fields) where
  -- an edge does not end above the maximum
  pub last_most : (j : ℕ) → j < edges_at d p → last_at d p j ≤ maximum d f
  last_most j h =
      let n : SoundNode fields d p = node_here d s p f e l in
      omega (arith, last_rises fields d p 0 n j (edges_at d p - 1) (omega arith) (omega arith), n.ending, maximum_here d s p f e l)

  pub real_edge : (v : ℕ) → v ≤ maximum d f → edge d p v < edges_at d p
  real_edge v m = (value_takes_a_real_edge fields d p v (node_here d s p f e l) (value_most d s p f e l v m)).real

  -- an edge that follows another begins within the maximum
  pub next_first_most : (j : ℕ) → j + 1 < edges_at d p → first_at d p (j + 1) ≤ maximum d f
  next_first_most j h =
      let z : first_at d p (j + 1) ≡ last_at d p j + 1 = ap (first_at d p) (add-one j) in
      omega (arith, (node_here d s p f e l).rising j h, last_most (j + 1) h)
