-- Sets of numbers below 128, as two words: which places of a word are set, and which numbers a set has.
-- Assumes nothing: these are definitions.
use Rattle.std.specs.Prelude.{Bool, true, false, cond, ◌&&◌, ◌≡◌, ℕ, ◌-◌, ◌≤◌, ◌<◌, ◌/◌, ◌%◌, ◌^◌, eqb, ltb, Option, MatchOption}
use Rattle.sets.specs.declared.Set.{Set}

-- how many numbers a set is over: those below this
abbrev pub most : ℕ
most = 128

-- place i of a word is set
unfoldable pub bit : ℕ → ℕ → Bool
bit w i = eqb (w / 2 ^ i % 2) 1

-- the set has i: the low word has the numbers below 64, the high word those from 64 on
unfoldable pub has : Set → ℕ → Bool
has s i = cond (ltb i 64) (bit s.low i) (bit s.high (i - 64))

-- the set has exactly the numbers that pass the test
abbrev pub Has : Set → (ℕ → Bool) → Type 0
Has s p = (i : ℕ) → has s i ≡ p i

-- the two sets are the same words
unfoldable pub same : Set → Set → Bool
same s o = eqb s.low o.low && eqb s.high o.high

-- r is the least number from i up that passes the test, or n where none below n does
pub record Next (n : ℕ) (p : ℕ → Bool) (i r : ℕ) : Type 0 where
  pub from : i ≤ r
  pub most : r ≤ n
  pub passes : r < n → p r ≡ true
  pub between : (j : ℕ) → i ≤ j → j < r → p j ≡ false

-- r is the least number from i up, below n, that passes the test; none where none does
abbrev pub NextOrNone : ℕ → (ℕ → Bool) → ℕ → Option ℕ → Type 0
NextOrNone n p i r = MatchOption r ((j : ℕ) → i ≤ j → j < n → p j ≡ false) (λ m. Next n p i m × (m < n))
