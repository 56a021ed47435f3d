-- A set of one subject, the word with that place alone set: it has that member and no other, and is ruled as that subject by itself.
use mathlib.Core.Path.{◌≡◌, refl, sym, ap, ◌∙◌, subst}
use mathlib.Core.Bool.{Bool, true, false, cond, not, ◌||◌}
use mathlib.Core.Logic.{◌↔◌, ⊎_elim}
use mathlib.Core.List.{List, ◌∷◌}
use Prim.Native.Nat.{ℕ, zero, suc, ◌*◌, ◌^◌, ◌≤◌, ◌<◌}
use native.Mathlib.Nat.{eq-or-lt_of_le}
use native.Mathlib.Omega.{arith}
use borrow.Author.Tests.{eq-eqb, ne_eqb, eqb-true, le-ltb, ltb-false}
use lib.Dec.{eqb, ltb, lit<}
use lib.Pow.{shl_exact}
use Rattle.answer.specs.Below.{count_below}
use Rattle.answer.specs.Order.{IsRequest}
use Rattle.answer.proofs.Below.{some_where, count_same}
use Rattle.table.specs.Reading.{Accepted}
use Rattle.table.proofs.AcceptedIsWellFormed.{well_formed}
use Rattle.sets.specs.Sets.{bit}
use Rattle.sets.proofs.WordPlaces.{bit_only}
use Rattle.targets.specs.Targets.{applies}
use Rattle.targets.specs.Subjects.{most_subjects, member, some_member, applies_to_some, size, subjects_fault, AskedWithin}
use Rattle.ruling.specs.Ruling.{groups, groups_together}
use Rattle.targets.proofs.Members.{some_member_lem, no_member}
use Rattle.ruling.proofs.RulingGoesByWhichApply.{meaning_same}

-- of the numbers below n one is k, where k is among them
module _ (k : ℕ) where
  equals_none : (n : ℕ) → n ≤ k → count_below n (eqb k) ≡ 0
  unfolding count_below
  equals_none zero l = refl
  equals_none (suc n) l = ap (λ b. cond b (suc (count_below n (eqb k))) (count_below n (eqb k))) (ne_eqb k n (λ e. omega arith)) ∙ equals_none n (omega arith)

  equals_one : (n : ℕ) → k < n → count_below n (eqb k) ≡ 1
  unfolding count_below
  equals_one zero l = absurd (omega arith)
  equals_one (suc n) l =
      ⊎_elim
      (λ (e : k ≡ n).
      ap (λ b. cond b (suc (count_below n (eqb k))) (count_below n (eqb k))) (eq-eqb k n e) ∙ ap suc (equals_none n (omega arith)))
      (λ (h : k < n).
      ap (λ b. cond b (suc (count_below n (eqb k))) (count_below n (eqb k))) (ne_eqb k n (λ e. omega arith)) ∙ equals_one n h)
      (eq-or-lt_of_le (omega arith))

module _ (k : ℕ) (l : k < most_subjects) where
  -- its members
  pub member_one : (j : ℕ) → member (2 ^ k) j ≡ eqb k j
  member_one j =
      let e = shl_exact {a = 1} 1 k 64 (lit< tt) (omega arith) in
      let z : 1 * 2 ^ k ≡ 2 ^ k = omega arith in
      ap (λ w. bit w j) (sym (e ∙ z)) ∙ bit_only k j l

  is_member : member (2 ^ k) k ≡ true
  is_member = member_one k ∙ eq-eqb k k refl

  only_member : (j : ℕ) → member (2 ^ k) j ≡ true → k ≡ j
  only_member j m = eqb-true k j (sym (member_one j) ∙ m)

  -- how many they are
  pub size_one : size (2 ^ k) ≡ 1
  size_one = count_same (member (2 ^ k)) (eqb k) most_subjects (λ j h. member_one j) ∙ equals_one k most_subjects l

  -- a test of its members
  pub some_of_one : (p : ℕ → Bool) → some_member (2 ^ k) p ≡ p k
  some_of_one p = by (p k) refl
    where
      by : (b : Bool) → p k ≡ b → some_member (2 ^ k) p ≡ p k
      by true e = (some_member_lem (2 ^ k) p).1 (k, (l, (is_member, e))) ∙ sym e
      by false e = (no_member (2 ^ k) p).1 (λ j h m. ap p (sym (only_member j m)) ∙ e) ∙ sym e

  -- a node applies to it exactly where it applies to its member
  pub applies_to_one : (t others : List ℕ) (i : ℕ) → applies_to_some t (2 ^ k) others i ≡ applies t (k ∷ others) i
  unfolding applies_to_some
  applies_to_one t others i = some_of_one (λ j. applies t (j ∷ others) i)

  -- "A party of one is ruled as that figure."
  pub one_subject : (t others : List ℕ) → Accepted t → groups_together t (2 ^ k) others ≡ groups t (k ∷ others)
  one_subject t others c =
      meaning_same (applies_to_some t (2 ^ k) others) (applies t (k ∷ others)) t (well_formed t c) (λ i h. applies_to_one t others i)

  -- 13 applies to it exactly where its member is above the maximum
  pub fault_of_one : (maximum : ℕ) → subjects_fault maximum (2 ^ k) ≡ ltb maximum k
  unfolding subjects_fault
  fault_of_one maximum =
      ap (λ b. not b || some_member (2 ^ k) (λ j. ltb maximum j)) (some_where (member (2 ^ k)) most_subjects k l is_member)
      ∙ some_of_one (λ j. ltb maximum j)

  pub one_passes : (maximum : ℕ) → (subjects_fault maximum (2 ^ k) ≡ false) ↔ (k ≤ maximum)
  one_passes maximum = (
    λ e. ltb-false maximum k (sym (fault_of_one maximum) ∙ e),
    λ h. fault_of_one maximum ∙ le-ltb maximum k h,
  )

  -- it asks within the maxima where its member does
  pub one_asked : (maximum : ℕ → ℕ) (others : List ℕ) → IsRequest maximum (k ∷ others) → AskedWithin maximum (2 ^ k) others
  one_asked maximum others w = record {
    some = (k, (l, is_member));
    each = λ j h m. subst (λ i. IsRequest maximum (i ∷ others)) (only_member j m) w;
  }
