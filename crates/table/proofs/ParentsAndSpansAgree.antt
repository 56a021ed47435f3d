-- In an accepted table, following parents from a node reaches exactly the nodes whose spans reach over it.
use mathlib.Core.Path.{◌≡◌, ap}
use mathlib.Core.Logic.{⊎_elim, ◌↔◌}
use mathlib.Core.List.{List}
use Prim.Native.Nat.{ℕ, zero, suc, ◌≤◌, ◌<◌}
use native.Mathlib.Nat.{eq-or-lt_of_le}
use native.Mathlib.Omega.{arith}
use Rattle.encoding.specs.Layout.{span, count}
use Rattle.table.specs.Tree.{end_of, parent, Above, itself, further}
use Rattle.table.specs.WellFormed.{WellFormed}
use Rattle.table.proofs.Tree.{parent_below, parent_reaches}

module _ (t : List ℕ) (w : WellFormed t) where
  -- the parent of a node other than the root reaches over it
  pub parent_over : (i : ℕ) → 0 < i → i < count t → i < end_of t (parent t i)
  parent_over i l h = (parent_reaches t i 0 l (omega (arith, w.root))).1

  -- a node that reaches over one reaches over all that this one reaches over
  pub reaches_through : (j i m : ℕ) → j < count t → j ≤ i → i < end_of t j → m < end_of t i → m < end_of t j
  reaches_through j i m h a b o =
      ⊎_elim
      (λ (e : j ≡ i). omega (arith, ap (span t) e))
      (λ (e : j < i). omega (arith, w.nested j i h e b))
      (eq-or-lt_of_le a)

  pub above_reaches : {i j : ℕ} → i < count t → Above t i j → (j ≤ i) × (i < end_of t j)
  above_reaches {i} h itself = (omega arith, omega (arith, w.spans i h))
  above_reaches {i} {j} h (further l u) =
      let p = parent_below t i l in
      let r = above_reaches (omega (arith, p, h)) u in
      let o = parent_over i l h in
      (omega (arith, r.0, p), reaches_through j (parent t i) i (omega (arith, r.0, p, h)) r.0 r.1 o)

  reaches_by : (m i j : ℕ) → i < m → i < count t → j ≤ i → i < end_of t j → Above t i j
  reaches_by zero i j l h a b = absurd (omega arith)
  reaches_by (suc m) i j l h a b =
      ⊎_elim
      (λ (e : j ≡ i). rw e itself)
      (λ (e : j < i).
      let p = parent_reaches t i j e b in
      let q = parent_below t i (omega arith) in
      let n : parent t i < end_of t j = omega arith in
      further (omega arith) (reaches_by m (parent t i) j (omega arith) (omega arith) p.0 n))
      (eq-or-lt_of_le a)

  -- node j is node i or above it by parents exactly where it is no later and its span reaches over node i
  pub agree : (i j : ℕ) → i < count t → Above t i j ↔ ((j ≤ i) × (i < end_of t j))
  agree i j h = (above_reaches h, λ r. reaches_by (suc i) i j (omega arith) h r.0 r.1)
