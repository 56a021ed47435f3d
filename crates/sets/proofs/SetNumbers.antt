-- Which numbers a set has after an operation on its words.
use mathlib.Core.Path.{◌≡◌, refl, sym, ap, ap₂, ◌∙◌}
use mathlib.Core.Bool.{Bool, true, false, cond, ◌&&◌, false≢true}
use mathlib.Core.Logic.{⊎_elim}
use Prim.Native.Nat.{ℕ, ◌-◌, ◌≤◌, ◌<◌}
use native.Mathlib.Omega.{arith}
use borrow.Author.Tests.{eq-eqb, ne_eqb, lt-ltb, le-ltb, eqb-true, eqb-false}
use lib.Dec.{eqb, ltb}
use Rattle.answer.proofs.Tests.{lt_or_ge}
use Rattle.sets.specs.Sets.{most, bit, has, Has, same}
use Rattle.sets.specs.declared.Set.{Set}
use Rattle.sets.proofs.WordPlaces.{ltb_alike, bit_zero, bit_all}

pub has_low : (s : Set) (i : ℕ) → i < 64 → has s i ≡ bit s.low i
unfolding has
has_low s i l = ap (λ b. cond b (bit s.low i) (bit s.high (i - 64))) (lt-ltb i 64 l)

pub has_high : (s : Set) (i : ℕ) → 64 ≤ i → has s i ≡ bit s.high (i - 64)
unfolding has
has_high s i l = ap (λ b. cond b (bit s.low i) (bit s.high (i - 64))) (le-ltb i 64 l)

-- a fact of both words is one of the set
pub by_words : (s : Set) (p : ℕ → Bool) → ((i : ℕ) → i < 64 → bit s.low i ≡ p i) → ((i : ℕ) → 64 ≤ i → bit s.high (i - 64) ≡ p i) → Has s p
by_words s p lo hi i =
    ⊎_elim (λ (l : i < 64). has_low s i l ∙ lo i l) (λ (l : 64 ≤ i). has_high s i l ∙ hi i l) (lt_or_ge i 64)

pub empty_has : Has (record { low = 0; high = 0 }) (λ i. false)
empty_has = by_words (record { low = 0; high = 0 }) (λ i. false) (λ i l. bit_zero i) (λ i l. bit_zero (i - 64))

pub full_has : Has (record { low = 18446744073709551615; high = 18446744073709551615 }) (λ i. ltb i most)
full_has =
    by_words (record { low = 18446744073709551615; high = 18446744073709551615 }) (λ i. ltb i most)
    (λ i l. bit_all 64 i ∙ ltb_alike i 64 i most (λ h. omega arith) (λ h. omega arith))
    (λ i l. bit_all 64 (i - 64) ∙ ltb_alike (i - 64) 64 i most (λ h. omega arith) (λ h. omega arith))

-- an operation on both words
pub both : (g : Bool → Bool → Bool) (s o r : Set) →
    ((i : ℕ) → bit r.low i ≡ g (bit s.low i) (bit o.low i)) → ((i : ℕ) → bit r.high i ≡ g (bit s.high i) (bit o.high i)) →
    Has r (λ i. g (has s i) (has o i))
both g s o r lo hi =
    by_words r (λ i. g (has s i) (has o i)) (λ i l. lo i ∙ ap₂ g (sym (has_low s i l)) (sym (has_low o i l)))
    (λ i l. hi (i - 64) ∙ ap₂ g (sym (has_high s i l)) (sym (has_high o i l)))

-- one word changes at i, by an operation that keeps what meets false; m has the place of i alone set
module _ (g : Bool → Bool → Bool) (keeps : (b : Bool) → g b false ≡ b) (s : Set) (i m : ℕ) where
  -- another number than i is kept
  other : (j : ℕ) → (i ≡ j → ⊥) → has s j ≡ g (has s j) (eqb i j)
  other j n = sym (keeps (has s j)) ∙ ap (g (has s j)) (sym (ne_eqb i j n))

  pub in_low : (w : ℕ) → i < 64 → ((j : ℕ) → bit m j ≡ eqb i j) → ((j : ℕ) → bit w j ≡ g (bit s.low j) (bit m j)) →
      Has (record { low = w; high = s.high }) (λ j. g (has s j) (eqb i j))
  in_low w l only is =
      by_words (record { low = w; high = s.high }) (λ j. g (has s j) (eqb i j)) (λ j lj. is j ∙ ap₂ g (sym (has_low s j lj)) (only j))
      (λ j lj. sym (has_high s j lj) ∙ other j (λ e. omega arith))

  pub in_high : (w : ℕ) → 64 ≤ i → ((j : ℕ) → bit m j ≡ eqb (i - 64) j) → ((j : ℕ) → bit w j ≡ g (bit s.high j) (bit m j)) →
      Has (record { low = s.low; high = w }) (λ j. g (has s j) (eqb i j))
  in_high w l only is =
      by_words (record { low = s.low; high = w }) (λ j. g (has s j) (eqb i j)) (λ j lj. sym (has_low s j lj) ∙ other j (λ e. omega arith))
      (λ j lj. is (j - 64) ∙ ap₂ g (sym (has_high s j lj)) (only (j - 64) ∙ back j lj (eqb i j) refl))
    where
      back : (j : ℕ) → 64 ≤ j → (b : Bool) → eqb i j ≡ b → eqb (i - 64) (j - 64) ≡ eqb i j
      back j lj true e = eq-eqb (i - 64) (j - 64) (ap (λ n. n - 64) (eqb-true i j e)) ∙ sym e
      back j lj false e = ne_eqb (i - 64) (j - 64) (λ w. eqb-false i j e (omega arith)) ∙ sym e

-- equal words are equal sets
pub same_equal : (s o : Set) → same s o ≡ true → s ≡ o
unfolding same
same_equal s o e = by (eqb s.low o.low) (eqb s.high o.high) refl refl e
  where
    by : (a b : Bool) → eqb s.low o.low ≡ a → eqb s.high o.high ≡ b → a && b ≡ true → s ≡ o
    by true true p q z = ap₂ (λ x y. record { low = x; high = y }) (eqb-true s.low o.low p) (eqb-true s.high o.high q)
    by true false p q z = absurd (false≢true z)
    by false b p q z = absurd (false≢true z)
