-- At a sound node a value within the maximum takes a real edge, whose child is the start of an earlier entry of the next level.
use mathlib.Core.List.{List}
use Prim.Native.Nat.{ℕ, ◌-◌, ◌≤◌, ◌<◌}
use native.Mathlib.Omega.{arith}
use Rattle.diagram.specs.Layout.{maximum, level_at, edges_at, last_at}
use Rattle.diagram.specs.LookUp.{edge, child}
use Rattle.diagram.specs.Sound.{EntryBefore, next_level, SoundNode}
use Rattle.diagram.proofs.FirstEdge.{edge_reaches, edge_first}

-- what holds of the edge that value v takes at the node at p, and of its child
pub record RealEdge (k : ℕ) (d : List ℕ) (p v : ℕ) : Type 0 where
  pub real : edge d p v < edges_at d p
  pub reaches : v ≤ last_at d p (edge d p v)
  pub entry : EntryBefore k d p (next_level k (level_at d p)) (child d p v)

-- at every sound node, for every value within the maximum of its field
pub value_takes_a_real_edge : (k : ℕ) (d : List ℕ) (p v : ℕ) → SoundNode k d p → v ≤ maximum d (level_at d p - 1) → RealEdge k d p v
value_takes_a_real_edge k d p v s h =
    let r : edge d p v < edges_at d p = omega (arith, edge_first d p v (edges_at d p - 1) (omega (arith, s.ending)), s.some_edge) in
    record {
      real = r;
      reaches = edge_reaches d p v r;
      entry = s.children (edge d p v) r;
    }
