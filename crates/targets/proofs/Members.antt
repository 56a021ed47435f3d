-- Laws of a test of the members of a set of subjects, and of whether a node applies to some of them.
use Rattle.std.proofs.Common.{◌≡◌, ℕ, ◌<◌, Bool, true, false, ◌&&◌, ◌↔◌, List, ◌∷◌, sym, refl, ap, ◌∙◌, ap₂, true≢false}
use Rattle.answer.proofs.Tests.{both}
use Rattle.answer.proofs.Below.{some_where, some_none, some_one, none_each}
use Rattle.targets.specs.Targets.{applies}
use Rattle.targets.specs.Subjects.{most_subjects, member, some_member, applies_to_some}

module _ (s : ℕ) (p : ℕ → Bool) where
  -- the test of one subject
  abbrev passes : ℕ → Bool
  passes k = member s k && p k

  -- some member passes exactly where one is found that does
  pub some_member_lem : (some_member s p ≡ true) ↔ ((k : ℕ) × ((k < most_subjects) × ((member s k ≡ true) × (p k ≡ true))))
  some_member_lem = (
    λ e. let x = some_one passes most_subjects e in let h = both (member s x.0) (p x.0) x.1.1 in (x.0, (x.1.0, (h.0, h.1))),
    λ x. some_where passes most_subjects x.0 x.1.0 (ap₂ (λ a b. a && b) x.1.1.0 x.1.1.1),
  )

  -- no member passes exactly where each fails
  pub no_member : (some_member s p ≡ false) ↔ ((k : ℕ) → k < most_subjects → member s k ≡ true → p k ≡ false)
  no_member = (
    λ e k l m. by k e l m (p k) refl,
    λ h. some_none passes most_subjects (λ k l. fails k (h k l) (member s k) refl),
  )
    where
      by : (k : ℕ) → some_member s p ≡ false → k < most_subjects → member s k ≡ true → (b : Bool) → p k ≡ b → p k ≡ false
      by k e l m false f = f
      by k e l m true f = absurd (true≢false (sym (ap₂ (λ a b. a && b) m f) ∙ none_each passes most_subjects e k l))

      fails : (k : ℕ) → (member s k ≡ true → p k ≡ false) → (b : Bool) → member s k ≡ b → passes k ≡ false
      fails k h true m = ap₂ (λ a b. a && b) m (h m)
      fails k h false m = ap (λ b. b && p k) m

module _ (t : List ℕ) (s : ℕ) (others : List ℕ) (i : ℕ) where
  -- a node applies to the set exactly where it applies to a member by itself
  pub applies_to_member : (applies_to_some t s others i ≡ true) ↔ ((k : ℕ) × ((k < most_subjects) × ((member s k ≡ true) × (applies t (k ∷ others) i ≡ true))))
  unfolding applies_to_some
  applies_to_member = some_member_lem s (λ k. applies t (k ∷ others) i)
