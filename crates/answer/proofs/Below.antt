-- Laws of tests of the numbers below a bound: that each passes, that some does, and how many do.
use mathlib.Core.Path.{◌≡◌, refl, sym, ap, ap₂, ◌∙◌}
use mathlib.Core.Bool.{Bool, true, false, cond, ◌&&◌, ◌||◌, true≢false}
use mathlib.Core.Logic.{⊎_elim}
use Prim.Native.Nat.{ℕ, zero, suc, ◌+◌, ◌<◌}
use native.Mathlib.Nat.{eq-or-lt_of_le}
use native.Mathlib.Numerals.{add-one}
use native.Mathlib.Omega.{arith}
use Rattle.answer.specs.Below.{every_below, some_below, count_below}
use Rattle.answer.proofs.Tests.{both, and_true, and_false, and_after, or_true, or_false}

module _ (p : ℕ → Bool) where
  pub every_next : (n : ℕ) → every_below (n + 1) p ≡ every_below n p && p n
  every_next n = rw add-one refl

  pub every_more : (n : ℕ) → every_below n p ≡ true → p n ≡ true → every_below (n + 1) p ≡ true
  every_more n e h = every_next n ∙ ap (λ b. b && p n) e ∙ h

  pub every_true : (n : ℕ) → ((j : ℕ) → j < n → p j ≡ true) → every_below n p ≡ true
  every_true zero h = refl
  every_true (suc n) h = ap (λ b. b && p n) (every_true n (λ j l. h j (omega arith))) ∙ h n (omega arith)

  pub every_false : (n j : ℕ) → j < n → p j ≡ false → every_below n p ≡ false
  every_false zero j l e = absurd (omega arith)
  every_false (suc n) j l e =
      ⊎_elim
      (λ (h : j ≡ n). ap (λ b. every_below n p && b) (ap p (sym h) ∙ e) ∙ and_false (every_below n p))
      (λ (h : j < n). ap (λ b. b && p n) (every_false n j h e))
      (eq-or-lt_of_le (omega arith))

  pub every_each : (n : ℕ) → every_below n p ≡ true → (j : ℕ) → j < n → p j ≡ true
  every_each zero e j l = absurd (omega arith)
  every_each (suc n) e j l =
      let h = both (every_below n p) (p n) e in
      ⊎_elim (λ (k : j ≡ n). ap p k ∙ h.1) (λ (k : j < n). every_each n h.0 j k) (eq-or-lt_of_le (omega arith))

  -- number 0, and the others
  pub every_first : (n : ℕ) → every_below (suc n) p ≡ p 0 && every_below n (λ j. p (suc j))
  every_first zero = sym (and_true (p 0))
  every_first (suc n) = ap (λ b. b && p (suc n)) (every_first n) ∙ and_after (p 0) (every_below n (λ j. p (suc j))) (p (suc n))

  pub some_where : (n j : ℕ) → j < n → p j ≡ true → some_below n p ≡ true
  unfolding some_below
  some_where zero j l e = absurd (omega arith)
  some_where (suc n) j l e =
      ⊎_elim
      (λ (h : j ≡ n). ap (λ b. some_below n p || b) (ap p (sym h) ∙ e) ∙ or_true (some_below n p))
      (λ (h : j < n). ap (λ b. b || p n) (some_where n j h e))
      (eq-or-lt_of_le (omega arith))

  pub some_more : (n : ℕ) → some_below n p ≡ false → p n ≡ false → some_below (n + 1) p ≡ false
  unfolding some_below
  some_more n e h = rw add-one (ap (λ b. b || p n) e ∙ h)

  pub some_none : (n : ℕ) → ((j : ℕ) → j < n → p j ≡ false) → some_below n p ≡ false
  unfolding some_below
  some_none zero h = refl
  some_none (suc n) h = ap₂ (λ a b. a || b) (some_none n (λ j l. h j (omega arith))) (h n (omega arith))

  pub none_each : (n : ℕ) → some_below n p ≡ false → (j : ℕ) → j < n → p j ≡ false
  none_each n e j l = by (p j) refl
    where
      by : (b : Bool) → p j ≡ b → p j ≡ false
      by false h = h
      by true h = absurd (true≢false (sym (some_where n j l h) ∙ e))

  -- where some number passes, it is found
  pub some_one : (n : ℕ) → some_below n p ≡ true → (j : ℕ) × ((j < n) × (p j ≡ true))
  unfolding some_below
  some_one zero e = absurd (true≢false (sym e))
  some_one (suc n) e = by (p n) refl (some_one n)
    where
      by : (b : Bool) → p n ≡ b → (some_below n p ≡ true → (j : ℕ) × ((j < n) × (p j ≡ true))) → (j : ℕ) × ((j < suc n) × (p j ≡ true))
      by true h more = (n, (omega arith, h))
      by false h more =
          let x = more (sym (or_false (some_below n p)) ∙ ap (λ b. some_below n p || b) (sym h) ∙ e) in
          (x.0, (omega (arith, x.1.0), x.1.1))

  -- number 0, and the others
  pub count_first : (n : ℕ) → count_below (suc n) p ≡ cond (p 0) (suc (count_below n (λ j. p (suc j)))) (count_below n (λ j. p (suc j)))
  unfolding count_below
  count_first zero = refl
  count_first (suc n) =
      ap (λ c. cond (p (suc n)) (suc c) c) (count_first n) ∙ turn (p (suc n)) (p 0) (count_below n (λ j. p (suc j)))
    where
      turn : (a b : Bool) (c : ℕ) → cond a (suc (cond b (suc c) c)) (cond b (suc c) c) ≡ cond b (suc (cond a (suc c) c)) (cond a (suc c) c)
      turn true true c = refl
      turn true false c = refl
      turn false true c = refl
      turn false false c = refl

-- two tests that say the same

pub every_same : (p q : ℕ → Bool) (n : ℕ) → ((j : ℕ) → j < n → p j ≡ q j) → every_below n p ≡ every_below n q
every_same p q zero e = refl
every_same p q (suc n) e = ap₂ (λ a b. a && b) (every_same p q n (λ j l. e j (omega arith))) (e n (omega arith))

pub some_same : (p q : ℕ → Bool) (n : ℕ) → ((j : ℕ) → j < n → p j ≡ q j) → some_below n p ≡ some_below n q
unfolding some_below
some_same p q zero e = refl
some_same p q (suc n) e = ap₂ (λ a b. a || b) (some_same p q n (λ j l. e j (omega arith))) (e n (omega arith))

pub count_same : (p q : ℕ → Bool) (n : ℕ) → ((j : ℕ) → j < n → p j ≡ q j) → count_below n p ≡ count_below n q
unfolding count_below
count_same p q zero e = refl
count_same p q (suc n) e = ap₂ (λ b c. cond b (suc c) c) (e n (omega arith)) (count_same p q n (λ j l. e j (omega arith)))
