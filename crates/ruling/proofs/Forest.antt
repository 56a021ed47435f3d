-- Laws of the nodes from one number up to another: no nodes, and one node more. The bound on the steps is gone from them.
use mathlib.Core.Path.{◌≡◌, refl, sym, ap, ◌∙◌}
use mathlib.Core.Bool.{Bool, true, false}
use mathlib.Core.Logic.{⊎_elim}
use mathlib.Core.List.{List}
use Prim.Native.Nat.{ℕ, zero, suc, ◌+◌, ◌-◌, ◌≤◌, ◌<◌}
use native.Mathlib.Omega.{arith}
use borrow.Author.Tests.{lt-ltb, le-ltb}
use Rattle.answer.proofs.Tests.{lt_or_ge}
use Rattle.encoding.specs.Layout.{span, count}
use Rattle.table.specs.Tree.{end_of}
use Rattle.table.specs.WellFormed.{WellFormed}
use Rattle.ruling.specs.Forest.{Forest, empty, node, forest_within, run, under}
use Rattle.ruling.specs.Walk.{SpansInside}

-- a forest, by whether a node is left
abbrev grown : List ℕ → ℕ → ℕ → ℕ → Bool → Forest
grown t n i end b =
    elim b [
      | true ↦ node i (forest_within n t (i + 1) (end_of t i)) (forest_within n t (end_of t i) end)
      | false ↦ empty
    ]

pub within_none : (n : ℕ) (t : List ℕ) (i end : ℕ) → end ≤ i → forest_within n t i end ≡ empty
unfolding forest_within
within_none zero t i end h = refl
within_none (suc n) t i end h = ap (grown t n i end) (le-ltb i end h)

pub within_more : (n : ℕ) (t : List ℕ) (i end : ℕ) → i < end →
    forest_within (suc n) t i end ≡ node i (forest_within n t (i + 1) (end_of t i)) (forest_within n t (end_of t i) end)
unfolding forest_within
within_more n t i end h = ap (grown t n i end) (lt-ltb i end h)

module _ (t : List ℕ) (w : WellFormed t) where
  -- the nodes under a node, and those after them

  pub whole_under : (i : ℕ) → i < count t → SpansInside t (i + 1) (end_of t i)
  whole_under i h = record { inside = w.inside i h; each = λ j a b. w.nested i j h (omega arith) b }

  pub whole_after : (i end : ℕ) → SpansInside t i end → SpansInside t (end_of t i) end
  whole_after i end r = record { inside = r.inside; each = λ j a b. r.each j (omega arith) b }

  -- any bound that is enough gives the same forest
  enough : (m n i end : ℕ) → SpansInside t i end → end - i ≤ m → end - i ≤ n → forest_within m t i end ≡ forest_within n t i end
  enough zero n i end r a b = within_none zero t i end (omega arith) ∙ sym (within_none n t i end (omega arith))
  enough (suc m) zero i end r a b =
      within_none (suc m) t i end (omega arith) ∙ sym (within_none zero t i end (omega arith))
  enough (suc m) (suc n) i end r a b =
      ⊎_elim
      (λ h.
      let c : i < count t = omega (arith, r.inside) in
      let one : 1 ≤ span t i = w.spans i c in
      let all : end_of t i ≤ end = r.each i (omega arith) h in
      within_more m t i end h
      ∙ ap (λ u. node i u (forest_within m t (end_of t i) end))
      (enough m n (i + 1) (end_of t i) (whole_under i c) (omega arith) (omega arith))
      ∙ ap (node i (forest_within n t (i + 1) (end_of t i)))
      (enough m n (end_of t i) end (whole_after i end r) (omega arith) (omega arith))
      ∙ sym (within_more n t i end h))
      (λ h. within_none (suc m) t i end h ∙ sym (within_none (suc n) t i end h))
      (lt_or_ge i end)

  pub run_none : (i end : ℕ) → end ≤ i → run t i end ≡ empty
  run_none i end h = within_none (end - i) t i end h

  pub run_more : (i end : ℕ) → SpansInside t i end → i < end → run t i end ≡ node i (under t i) (run t (end_of t i) end)
  run_more i end r h =
      let c : i < count t = omega (arith, r.inside) in
      let one : 1 ≤ span t i = w.spans i c in
      let all : end_of t i ≤ end = r.each i (omega arith) h in
      enough (end - i) (suc (end - i)) i end r (omega arith) (omega arith)
      ∙ within_more (end - i) t i end h
      ∙ ap (λ u. node i u (forest_within (end - i) t (end_of t i) end))
      (enough (end - i) (end_of t i - (i + 1)) (i + 1) (end_of t i) (whole_under i c) (omega arith) (omega arith))
      ∙ ap (node i (under t i))
      (enough (end - i) (end - end_of t i) (end_of t i) end (whole_after i end r) (omega arith) (omega arith))
