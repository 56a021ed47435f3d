-- A law of lists of what those numbers give that pass a test, one number after another: of the cards of matching rules, and of a node's children.
use mathlib.Core.Path.{◌≡◌, refl, sym, ap, ◌∙◌}
use mathlib.Core.Bool.{Bool, true, false, cond}
use mathlib.Core.List.{List, [], ◌∷◌, ◌++◌}
use Prim.Native.Nat.{ℕ, zero, suc, ◌+◌}
use native.Mathlib.Omega.{arith}

-- The list of n numbers from i upward is that of the others, with what number i gives before it where that passes.
module _ (list : ℕ → ℕ → List ℕ) (passes : ℕ → Bool) (given : ℕ → ℕ) (none : (i : ℕ) → list i 0 ≡ [])
    (more : (i n : ℕ) (b : Bool) → passes i ≡ b → list i (suc n) ≡ cond b (given i ∷ list (i + 1) n) (list (i + 1) n)) where
  -- the list of some numbers, and then of those after them
  pub listed_join : (m n i : ℕ) → list i (m + n) ≡ list i m ++ list (i + m) n
  listed_join zero n i =
      let z : i ≡ i + 0 = omega arith in
      let y : 0 + n ≡ n = omega arith in
      ap (list i) y ∙ ap (λ j. list j n) z ∙ ap (λ xs. xs ++ list (i + 0) n) (sym (none i))
  listed_join (suc m) n i =
      let z : i + 1 + m ≡ i + suc m = omega arith in
      let y : suc m + n ≡ suc (m + n) = omega arith in
      ap (list i) y ∙ by (passes i) refl (listed_join m n (i + 1) ∙ ap (λ j. list (i + 1) m ++ list j n) z)
    where
      by : (b : Bool) → passes i ≡ b → list (i + 1) (m + n) ≡ list (i + 1) m ++ list (i + suc m) n → list i (suc (m + n)) ≡ list i (suc m) ++ list (i + suc m) n
      by true e h = more i (m + n) true e ∙ ap (λ xs. given i ∷ xs) h ∙ ap (λ xs. xs ++ list (i + suc m) n) (sym (more i m true e))
      by false e h = more i (m + n) false e ∙ h ∙ ap (λ xs. xs ++ list (i + suc m) n) (sym (more i m false e))
