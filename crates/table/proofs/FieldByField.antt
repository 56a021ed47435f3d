-- A test of each field in turn passes at some field exactly where one passes it.
use mathlib.Core.Path.{◌≡◌, refl, sym, ap, ap₂, ◌∙◌}
use mathlib.Core.Bool.{Bool, ◌||◌}
use Prim.Native.Nat.{ℕ, zero, suc, ◌+◌}
use native.Mathlib.Omega.{arith}
use Rattle.std.proofs.Math.Bool.{or_assoc}
use Rattle.std.specs.List.{list_any, range_with_len}
use Rattle.answer.specs.Below.{some_below}
use Rattle.answer.proofs.Below.{some_same}
use Rattle.answer.proofs.Tests.{or_false}

-- number 0, and the others
some_first : (p : ℕ → Bool) (n : ℕ) → some_below (suc n) p ≡ p 0 || some_below n (λ j. p (suc j))
unfolding some_below
some_first p zero = sym (or_false (p 0))
some_first p (suc n) = ap (λ b. b || p (suc n)) (some_first p n) ∙ or_assoc (p 0) (some_below n (λ j. p (suc j))) (p (suc n))

some_from : (p : ℕ → Bool) (n a : ℕ) → list_any p (range_with_len a n) ≡ some_below n (λ j. p (a + j))
unfolding some_below
some_from p zero a = refl
some_from p (suc n) a =
    let first : a ≡ a + 0 = omega arith in
    ap₂ (λ b c. b || c) (ap p first)
    (some_from p n (a + 1) ∙ some_same (λ j. p (a + 1 + j)) (λ j. p (a + suc j)) n (λ j l. let e : a + 1 + j ≡ a + suc j = omega arith in ap p e))
    ∙ sym (some_first (λ j. p (a + j)) n)

pub some_of : (p : ℕ → Bool) (n : ℕ) → list_any p (range_with_len 0 n) ≡ some_below n p
some_of p n = some_from p n 0 ∙ some_same (λ j. p (0 + j)) p n (λ j l. let e : 0 + j ≡ j = omega arith in ap p e)
