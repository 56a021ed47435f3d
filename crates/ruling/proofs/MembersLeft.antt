-- Members of a set on their way down: those for which every target above a node holds, and those that are left of them at the node.
use mathlib.Core.Path.{◌≡◌, refl, sym, ap, ◌∙◌}
use mathlib.Core.Bool.{Bool, true, false, ◌&&◌}
use mathlib.Core.List.{List, ◌∷◌}
use Prim.Native.Nat.{ℕ, ◌+◌, ◌^◌, ◌≤◌, ◌<◌}
use Rattle.answer.proofs.Below.{some_where, some_one, some_none, some_same}
use Rattle.answer.proofs.Tests.{both, and_true, and_false}
use Rattle.sets.proofs.WordPlaces.{bit_none}
use Rattle.encoding.specs.Layout.{span, count}
use Rattle.table.specs.Tree.{end_of}
use Rattle.table.specs.WellFormed.{WellFormed}
use Rattle.targets.specs.Targets.{target_holds, applies}
use Rattle.targets.specs.Subjects.{most_subjects, member, applies_to_some}
use Rattle.ruling.specs.Walk.{MembersPass, AppliesToEach}
use Rattle.targets.proofs.Applies.{applies_is, applies_under_lem, applies_above, above_after}
use Rattle.targets.proofs.Throughout.{pass_root}
use Rattle.targets.proofs.SubjectsInRange.{some_in}

module _ (t others : List ℕ) where
  -- for each member, every target holds above the root, above the first child of a node that applies to it, and above the node after all under one

  pub members_root : (s : ℕ) → MembersPass t s others 0
  members_root s k m = pass_root t (target_holds t (k ∷ others))

  pub members_down : (s i : ℕ) → AppliesToEach t s others i → MembersPass t s others (i + 1)
  members_down s i a k m = applies_above t (k ∷ others) i (a k m)

  pub members_after : WellFormed t → (s i n : ℕ) → i < count t → n ≡ span t i → MembersPass t s others i → MembersPass t s others (i + n)
  members_after w s i n l e p k m = above_after t (k ∷ others) w i n l e (p k m)

  -- of the members that come to node i, those are left for which its target holds
  module _ (s left i : ℕ) (is : (k : ℕ) → member left k ≡ member s k && target_holds t (k ∷ others) i) where
    -- it applies to each of them
    pub left_each : 1 ≤ span t i → MembersPass t s others i → AppliesToEach t left others i
    left_each l p k m =
        let h = both (member s k) (target_holds t (k ∷ others) i) (sym (is k) ∙ m) in applies_is t (k ∷ others) i (p k h.0) l ∙ h.1

    -- and so to some, where there are any
    pub left_applies : left < 2 ^ 64 → 0 < left → AppliesToEach t left others i → applies_to_some t left others i ≡ true
    unfolding applies_to_some
    left_applies l p a =
        let x = some_one (member left) most_subjects (some_in left l p) in
        some_where (λ k. member left k && applies t (k ∷ others) i) most_subjects x.0 x.1.0
        (ap (λ b. b && applies t (x.0 ∷ others) i) x.1.1 ∙ a x.0 x.1.1)

    -- a node under node i applies to some of those that came exactly where it applies to some of those that are left
    pub left_same : (j : ℕ) → i ≤ j → j < end_of t i → applies_to_some t s others j ≡ applies_to_some t left others j
    unfolding applies_to_some
    left_same j l r =
        some_same (λ k. member s k && applies t (k ∷ others) j) (λ k. member left k && applies t (k ∷ others) j) most_subjects (λ k _. by k (target_holds t (k ∷ others) i) refl)
      where
        by : (k : ℕ) (b : Bool) → target_holds t (k ∷ others) i ≡ b → (member s k && applies t (k ∷ others) j) ≡ (member left k && applies t (k ∷ others) j)
        by k true e = ap (λ b. b && applies t (k ∷ others) j) (sym (is k ∙ ap (λ b. member s k && b) e ∙ and_true (member s k)))
        by k false e =
            let out = applies_under_lem t (k ∷ others) i j l r e in
            ap (λ b. member s k && b) out ∙ and_false (member s k) ∙ sym (ap (λ b. member left k && b) out ∙ and_false (member left k))

    -- where none is left, no node under node i applies
    pub none_left : left ≡ 0 → (j : ℕ) → i ≤ j → j < end_of t i → applies_to_some t s others j ≡ false
    unfolding applies_to_some
    none_left e j l r =
        left_same j l r
        ∙ some_none (λ k. member left k && applies t (k ∷ others) j) most_subjects (λ k _. ap (λ b. b && applies t (k ∷ others) j) (bit_none left k e))
