-- Laws of the edge of a value: the first of a node's edges whose last value is not below it.
use mathlib.Core.Path.{◌≡◌}
use mathlib.Core.Logic.{⊎_elim}
use mathlib.Core.List.{List}
use Prim.Native.Nat.{ℕ, ◌≤◌, ◌<◌}
use native.Mathlib.Omega.{arith}
use borrow.Author.Tests.{leb-true, leb-false}
use Rattle.answer.proofs.FirstField.{first_none, first_least, first_passes}
use Rattle.diagram.specs.Layout.{edges_at, last_at}
use Rattle.diagram.specs.LookUp.{reaches, edge}
use Rattle.diagram.specs.Decided.{lt?}

module _ (d : List ℕ) (p v : ℕ) where
  -- the edges before that of a value end below the value
  pub edge_before : (i : ℕ) → i < edge d p v → last_at d p i < v
  unfolding edge
  edge_before i l = leb-false v (last_at d p i) ((first_least (reaches d p v) (edges_at d p) 0).1 i (omega arith) l)

  -- the edge of a value, where the node has it, does not end below the value
  pub edge_reaches : edge d p v < edges_at d p → v ≤ last_at d p (edge d p v)
  unfolding edge
  edge_reaches l = leb-true v (last_at d p (edge d p v)) (first_passes (reaches d p v) (edges_at d p) 0 (omega arith))

  -- the edge of a value is one of the node's, or the number of them
  pub edge_most : edge d p v ≤ edges_at d p
  unfolding edge
  edge_most =
      ⊎_elim
      (λ (l : edges_at d p < edge d p v).
      omega (arith, first_none (reaches d p v) (edges_at d p) 0 (λ j a b. (first_least (reaches d p v) (edges_at d p) 0).1 j a (omega arith))))
      (λ n. omega (arith, n))
      (lt? (edges_at d p) (edge d p v))

  -- an edge that does not end below the value is no earlier than the value's
  pub edge_first : (j : ℕ) → v ≤ last_at d p j → edge d p v ≤ j
  edge_first j h =
      ⊎_elim
      (λ (l : j < edge d p v). absurd (omega (arith, edge_before j l)))
      (λ n. omega (arith, n))
      (lt? j (edge d p v))

  -- the edge of a value is where a search stops that passes only edges that end below the value, and stops at one that does not or at the end
  pub edge_is : (j : ℕ) → j ≤ edges_at d p → ((i : ℕ) → i < j → last_at d p i < v) → (j < edges_at d p → v ≤ last_at d p j) → edge d p v ≡ j
  edge_is j most before stops =
      ⊎_elim
      (λ (l : edge d p v < j). absurd (omega (arith, before (edge d p v) l, edge_reaches (omega arith))))
      (λ n.
      ⊎_elim
      (λ (l : j < edge d p v). absurd (omega (arith, edge_first j (stops (omega (arith, edge_most))))))
      (λ m. omega (arith, n, m))
      (lt? j (edge d p v)))
      (lt? (edge d p v) j)
