-- In an accepted table, a node's decision is what it gives of the decisions of the nodes whose parent it is, for any test of which nodes apply.
use mathlib.Core.Path.{◌≡◌, refl, ap, ◌∙◌}
use mathlib.Core.Bool.{Bool}
use mathlib.Core.List.{List, [], ◌∷◌, map}
use Prim.Native.Nat.{ℕ, ◌<◌}
use Rattle.encoding.specs.Layout.{count}
use Rattle.table.specs.Reading.{Accepted}
use Rattle.ruling.specs.Forest.{under, children_of, trees}
use Rattle.ruling.specs.Meaning.{gives, child_of, children, decision}
use Rattle.ruling.proofs.ChildrenByParents.{children_by_parents}

module _ (a : ℕ → Bool) (t : List ℕ) where
  each_child_lem : (is : List ℕ) → children a t (trees t is) ≡ map (λ j. child_of a j (decision a t j)) is
  each_child_lem [] = refl
  each_child_lem (i ∷ is) = ap (λ cs. child_of a i (decision a t i) ∷ cs) (each_child_lem is)

  -- the children of a node, in table order
  pub children_decide : Accepted t → (i : ℕ) → i < count t → children a t (under t i) ≡ map (λ j. child_of a j (decision a t j)) (children_of t i)
  children_decide c i l = ap (children a t) (children_by_parents t c i l) ∙ each_child_lem (children_of t i)

  pub decision_by_children : Accepted t → (i : ℕ) → i < count t →
      decision a t i ≡ gives a t i (map (λ j. child_of a j (decision a t j)) (children_of t i))
  decision_by_children c i l = ap (gives a t i) (children_decide c i l)
