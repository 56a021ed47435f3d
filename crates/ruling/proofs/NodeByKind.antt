-- What a node that applies gives and gathers, by its kind, for any test of which nodes apply: one law for each way through the code.
use mathlib.Core.Path.{◌≡◌}
use mathlib.Core.Bool.{Bool}
use mathlib.Core.List.{List}
use Prim.Native.Nat.{ℕ, ◌+◌, ◌≤◌, ◌<◌}
use native.Mathlib.Omega.{arith}
use lib.ListN.{set}
use Rattle.combining.specs.Ways.{way}
use Rattle.encoding.specs.Layout.{kind, card}
use Rattle.table.specs.WellFormed.{WellFormed}
use Rattle.ruling.specs.Forest.{run}
use Rattle.ruling.specs.Meaning.{effect, children, decision}
use Rattle.ruling.specs.Walk.{Node, Gathered}
use Rattle.ruling.proofs.Decisions.{ruled_rule, ruled_group}
use Rattle.ruling.proofs.Steps.{gathered_rule, gathered_group}

module _ (a : ℕ → Bool) (t : List ℕ) (w : WellFormed t) {i end k : ℕ} (node : Node a t i end k) {kd : ℕ} (ek : kd ≡ kind t i) where
  -- the node gives d; the cards from it up to its end were counted up to n, and stored
  abbrev Ruled : ℕ → ℕ → List ℕ → List ℕ → Type 0
  Ruled d n before after = (d ≡ decision a t i) × Gathered a t i end k n before after

  pub by_rule : {d n : ℕ} {before after : List ℕ} → 4 ≤ kd → d ≡ effect kd → n ≡ k + 1 → after ≡ set before k (card t i) → Ruled d n before after
  by_rule {d} {n} {before} {after} l ed en e = (
    ruled_rule a t i kd d node.applies ek l ed,
    gathered_rule a t w i end k n before after node (omega arith) en e,
  )

  pub by_group : {d n : ℕ} {before after : List ℕ} → kd < 4 → d ≡ way kd (children a t (run t (i + 1) end)) →
      Gathered a t (i + 1) end k n before after → Ruled d n before after
  by_group {d} {n} {before} {after} l ed g = (
    ruled_group a t i end kd d node.applies ek l node.ends ed,
    gathered_group a t w i end k n before after node (omega arith) g,
  )
