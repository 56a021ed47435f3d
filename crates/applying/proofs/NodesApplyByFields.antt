-- A node applies to a request exactly where it does in each field alone, and so the groups give what the nodes that are left give.
use mathlib.Core.Path.{◌≡◌, sym, ap, ap₂, ◌∙◌}
use mathlib.Core.Bool.{Bool, true, ◌&&◌, and_assoc, and-true}
use mathlib.Core.List.{List, [], ◌∷◌}
use Prim.Native.Nat.{ℕ, zero, suc, ◌+◌, ◌<◌}
use native.Mathlib.Nat.{zero-add, add-zero}
use native.Mathlib.Omega.{arith}
use borrow.Author.Tests.{lt-ltb}
use lib.ListN.{length}
use Rattle.answer.specs.Fields.{fields}
use Rattle.answer.specs.Requests.{value}
use Rattle.encoding.specs.Layout.{count}
use Rattle.table.specs.WellFormed.{WellFormed}
use Rattle.answer.specs.Below.{every_below}
use Rattle.targets.specs.Targets.{target_holds, applies}
use Rattle.ruling.specs.Ruling.{groups}
use Rattle.ruling.proofs.RulingGoesByWhichApply.{meaning_same}
use Rattle.targets.proofs.Throughout.{throughout, throughout_true, throughout_and}
use Rattle.applying.specs.Members.{range_holds, applies_in, member, still, ruling_from}

-- the first number of a test of each
every_first : (n : ℕ) (p : ℕ → Bool) → every_below (suc n) p ≡ (p 0 && every_below n (λ k. p (suc k)))
every_first zero p = sym (and-true (p 0))
every_first (suc n) p = ap (λ b. b && p (suc n)) (every_first n p) ∙ and_assoc (p 0) (every_below n (λ k. p (suc k))) (p (suc n))

module _ (t : List ℕ) where
  -- the values q of the fields from f on lie in node j's ranges
  abbrev holds_from : ℕ → List ℕ → ℕ → Bool
  holds_from f q j = every_below (length q) (λ k. range_holds t (f + k) (value q k) j)

  holds_first : (f v : ℕ) (q : List ℕ) (j : ℕ) → holds_from f (v ∷ q) j ≡ (range_holds t f v j && holds_from (suc f) q j)
  holds_first f v q j =
      every_first (length q) (λ k. range_holds t (f + k) (value (v ∷ q) k) j)
      ∙ ap₂ (λ x (p : ℕ → Bool). x && every_below (length q) p) (ap (λ g. range_holds t g v j) (add-zero f))
      (λ i k. let z : f + suc k ≡ suc f + k = omega arith in range_holds t (z i) (value q k) j)

  alone : (f v i : ℕ) → i < count t → member t f v i ≡ throughout t (range_holds t f v) i
  unfolding applies_in
  alone f v i l = ap (λ b. b && applies_in t f v i) (lt-ltb i (count t) l)

  -- what is left is what all ranges that are left leave
  still_throughout : (q : List ℕ) (f : ℕ) (a : ℕ → Bool) (i : ℕ) → i < count t → still t f a q i ≡ (a i && throughout t (holds_from f q) i)
  still_throughout [] f a i l = sym (and-true (a i)) ∙ ap (λ b. a i && b) (sym (throughout_true t i))
  still_throughout (v ∷ q) f a i l =
      still_throughout q (suc f) (λ j. a j && member t f v j) i l
      ∙ and_assoc (a i) (member t f v i) (throughout t (holds_from (suc f) q) i)
      ∙ ap (λ b. a i && b)
      (ap (λ b. b && throughout t (holds_from (suc f) q) i) (alone f v i l)
      ∙ sym (throughout_and t (range_holds t f v) (holds_from (suc f) q) i)
      ∙ ap (λ (h : ℕ → Bool). throughout t h i) (sym (λ k j. holds_first f v q j k)))

  module _ (q : List ℕ) (a : ℕ → Bool) (long : length q ≡ fields) (all : (i : ℕ) → i < count t → a i ≡ true) where
    -- a node applies exactly where it does in each field alone
    pub nodes_apply : (i : ℕ) → i < count t → still t 0 a q i ≡ applies t q i
    unfolding applies target_holds
    nodes_apply i l =
        still_throughout q 0 a i l ∙ ap (λ b. b && throughout t (holds_from 0 q) i) (all i l)
        ∙ ap (λ (h : ℕ → Bool). throughout t h i)
        (λ k j. every_below (long k) (λ f. range_holds t (zero-add f k) (value q f) j))

    -- the groups give what the nodes that are left give
    pub ruling_is : WellFormed t → ruling_from t 0 a q ≡ groups t q
    ruling_is w = meaning_same (still t 0 a q) (applies t q) t w nodes_apply
