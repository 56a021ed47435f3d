-- Laws of a node that applies.
use Rattle.std.proofs.Common.{◌≡◌, ℕ, ◌+◌, ◌<◌, ◌≤◌, true, false, List}
use Rattle.encoding.specs.Layout.{span, count}
use Rattle.table.specs.Tree.{end_of}
use Rattle.table.specs.WellFormed.{WellFormed}
use Rattle.targets.specs.Targets.{target_holds, applies}
use Rattle.targets.specs.Targets.{HoldAbove}
use Rattle.targets.proofs.Throughout.{throughout_where, throughout_each, throughout_under, throughout_is, throughout_down, pass_down, pass_after}

module _ (t q : List ℕ) where
  -- a node applies exactly where the target of each node that reaches over it holds

  pub applies_where : (i : ℕ) → ((j : ℕ) → j ≤ i → i < end_of t j → target_holds t q j ≡ true) → applies t q i ≡ true
  unfolding applies
  applies_where = throughout_where t (target_holds t q)

  pub applies_each : (i : ℕ) → applies t q i ≡ true → (j : ℕ) → j ≤ i → i < end_of t j → target_holds t q j ≡ true
  unfolding applies
  applies_each = throughout_each t (target_holds t q)

  -- no node under a node whose target fails applies
  pub applies_under_lem : (i m : ℕ) → i ≤ m → m < end_of t i → target_holds t q i ≡ false → applies t q m ≡ false
  unfolding applies
  applies_under_lem = throughout_under t (target_holds t q)

  -- where every target above a node holds, it applies where its own does
  pub applies_is : (i : ℕ) → HoldAbove t (target_holds t q) i → 1 ≤ span t i → applies t q i ≡ target_holds t q i
  unfolding applies
  applies_is = throughout_is t (target_holds t q)

  -- where a node applies, every target above its first child holds
  pub applies_above : (i : ℕ) → applies t q i ≡ true → HoldAbove t (target_holds t q) (i + 1)
  unfolding applies
  applies_above = pass_down t (target_holds t q)

  -- where the targets above a node hold, so do those above the node after all under it
  pub above_after : WellFormed t → (i s : ℕ) → i < count t → s ≡ span t i → HoldAbove t (target_holds t q) i → HoldAbove t (target_holds t q) (i + s)
  above_after w i s l e h = rw e (pass_after t (target_holds t q) i w l h)

  -- where a node does not apply, nothing under it does
  pub applies_down : WellFormed t → (i m : ℕ) → i < count t → i ≤ m → m < end_of t i → applies t q i ≡ false → applies t q m ≡ false
  unfolding applies
  applies_down = throughout_down t (target_holds t q)
