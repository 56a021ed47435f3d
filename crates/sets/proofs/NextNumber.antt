-- The least place of a word and the word without it, and the least place of a word, or number of a set, from one up.
use mathlib.Core.Path.{◌≡◌, refl, sym, ap, ap₂, ◌∙◌, subst}
use mathlib.Core.Bool.{Bool, true, false, not, ◌&&◌, true≢false}
use mathlib.Core.Logic.{⊎_elim}
use Prim.Native.Nat.{ℕ, zero, suc, ◌+◌, ◌-◌, ◌/◌, ◌%◌, ◌^◌, ◌≤◌, ◌<◌}
use native.Mathlib.Nat.{mod-lt, zero-lt-suc, eq-or-lt_of_le, div-add-mod'}
use native.Mathlib.Numerals.{add-one}
use native.Mathlib.Omega.{arith}
use lib.Bits.{bit_and as word_and}
use lib.Count.{count_trailing_zeros, under}
use lib.Pow.{shr_lt}
use lib.Dec.{eqb, eqb-zero-suc, eqb-suc-suc}
use lib.Arith.{lt-one}
use Rattle.answer.proofs.Tests.{lt_or_ge}
use Rattle.std.specs.Prelude.{Option, Some, None, option_map}
use Rattle.std.specs.Int.{w64}
use Rattle.std.proofs.lemmas.Nat.Bits.{bit_at-trailing_zeros}
use Rattle.sets.specs.Sets.{bit, has, Next, NextOrNone}
use Rattle.sets.specs.declared.Set.{Set}
use Rattle.sets.proofs.WordPlaces.{bit_and, bit_none, bit_past, bit_first, bit_later, bit_shifted}
use Rattle.sets.proofs.SetNumbers.{has_low, has_high}

-- there is one next number
next_one : (n : ℕ) (p : ℕ → Bool) (i a b : ℕ) → Next n p i a → Next n p i b → a ≡ b
next_one n p i a b h k =
    ⊎_elim
    (λ (l : a < b). absurd (apart a b l h k))
    (λ (l : b ≤ a). ⊎_elim (λ (e : b ≡ a). sym e) (λ (m : b < a). absurd (apart b a m k h)) (eq-or-lt_of_le l))
    (lt_or_ge a b)
  where
    apart : (x y : ℕ) → x < y → Next n p i x → Next n p i y → ⊥
    apart x y l f g = true≢false (sym (f.passes (omega (arith, g.most))) ∙ g.between x f.from l)

-- the places of a word that are set in the word less 1 too are all but n
abbrev ButLeast : ℕ → ℕ → Type 0
ButLeast w n = (j : ℕ) → (bit w j && bit (w - 1) j) ≡ (bit w j && not (eqb n j))

but_even : (w n : ℕ) → 0 < w → w % 2 ≡ 0 → ButLeast (w / 2) n → ButLeast w (suc n)
but_even w n p e h zero =
    let z : bit w 0 ≡ false = bit_first w ∙ ap (λ x. eqb x 1) e in ap (λ b. b && bit (w - 1) 0) z ∙ sym (ap (λ b. b && not (eqb (suc n) 0)) z)
but_even w n p e h (suc j) =
    let z : (w - 1) / 2 ≡ w / 2 - 1 = omega arith in
    ap₂ (λ a b. a && b) (bit_later w j) (bit_later (w - 1) j ∙ ap (λ x. bit x j) z) ∙ h j
    ∙ sym (ap₂ (λ a b. a && not b) (bit_later w j) (eqb-suc-suc n j))

but_odd : (w : ℕ) → w % 2 ≡ 1 → ButLeast w 0
but_odd w e zero = let z : (w - 1) % 2 ≡ 0 = omega arith in ap (λ b. bit w 0 && b) (bit_first (w - 1) ∙ ap (λ x. eqb x 1) z)
but_odd w e (suc j) =
    let z : (w - 1) / 2 ≡ w / 2 = omega arith in
    let same : bit (w - 1) (suc j) ≡ bit w (suc j) = bit_later (w - 1) j ∙ ap (λ x. bit x j) z ∙ sym (bit_later w j) in
    ap (λ b. bit w (suc j) && b) same ∙ twice (bit w (suc j)) ∙ ap (λ b. bit w (suc j) && not b) (sym (eqb-zero-suc j))
  where
    twice : (b : Bool) → (b && b) ≡ (b && true)
    twice true = refl
    twice false = refl

but_least : (k w : ℕ) → 0 < w → w < 2 ^ k → ButLeast w (count_trailing_zeros k w)
unfolding count_trailing_zeros
but_least zero w p l = absurd (omega (arith, lt-one l))
but_least (suc k) w p l = step (w % 2) refl (λ q. but_least k (w / 2) q (shr_lt k 1 (rw (add-one k) l)))
  where
    step : (d : ℕ) → w % 2 ≡ d → (0 < w / 2 → ButLeast (w / 2) (count_trailing_zeros k (w / 2))) → ButLeast w (under d (count_trailing_zeros k (w / 2)))
    step zero e ih = but_even w (count_trailing_zeros k (w / 2)) p e (ih (omega (arith, div-add-mod' w 2)))
    step (suc d) e ih = but_odd w (omega (arith, mod-lt w (zero-lt-suc 1)))

-- of a word that is not 0

module _ (w : ℕ) (lw : w < 2 ^ 64) (some : 0 < w) where
  pub least_within : count_trailing_zeros 64 w < 64
  least_within = (bit_at-trailing_zeros w64 w some lw).0

  pub least_next : Next 64 (bit w) 0 (count_trailing_zeros 64 w)
  unfolding bit
  least_next =
      let (l, one, zeros) = bit_at-trailing_zeros w64 w some lw in
      record { from = omega arith; most = omega arith; passes = λ _. ap (λ d. eqb d 1) one; between = λ j _ lj. ap (λ d. eqb d 1) (zeros j lj) }

  pub least_out : (i : ℕ) → Next 64 (bit w) 0 i → (j : ℕ) → bit (word_and w (w - 1)) j ≡ bit w j && not (eqb i j)
  least_out i n j =
      bit_and w (w - 1) j ∙ but_least 64 w some lw j
      ∙ ap (λ r. bit w j && not (eqb r j)) (next_one 64 (bit w) 0 (count_trailing_zeros 64 w) i least_next n)

-- of a word from i up

bit_from : (w i j : ℕ) → i ≤ j → bit w j ≡ bit (w / 2 ^ i) (j - i)
bit_from w i j l = let z : j ≡ i + (j - i) = omega arith in ap (bit w) z ∙ sym (bit_shifted w i (j - i))

-- no place from i up
pub next_none : (w i : ℕ) → w / 2 ^ i ≡ 0 → (j : ℕ) → i ≤ j → j < 64 → bit w j ≡ false
next_none w i e j lj lk = bit_from w i j lj ∙ bit_none (w / 2 ^ i) (j - i) e

module _ (w i r : ℕ) (lw : w < 2 ^ 64) (n : Next 64 (bit (w / 2 ^ i)) 0 r) (l : r < 64) where
  passes : bit w (i + r) ≡ true
  passes = sym (bit_shifted w i r) ∙ n.passes l

  pub next_within : i + r < 64
  next_within =
      ⊎_elim (λ (m : i + r < 64). m) (λ (m : 64 ≤ i + r). absurd (true≢false (sym passes ∙ bit_past w (i + r) lw m))) (lt_or_ge (i + r) 64)

  pub next_some : Next 64 (bit w) i (i + r)
  next_some =
      record {
        from = omega arith;
        most = omega (arith, next_within);
        passes = λ _. passes;
        between = λ j lj lk. bit_from w i j lj ∙ n.between (j - i) (omega arith) (omega arith);
      }

-- of a set: of the low word, or of the high one where that has none

module _ (s : Set) (i : ℕ) where
  pub next_low : (a : ℕ) → Next 64 (bit s.low) i a × (a < 64) → Next 128 (has s) i a × (a < 128)
  next_low a (h, l) = (
    record {
      from = h.from;
      most = omega arith;
      passes = λ _. has_low s a l ∙ h.passes l;
      between = λ j lj lk. has_low s j (omega arith) ∙ h.between j lj lk;
    },
    omega arith,
  )

  -- where the low word has none from i up
  module _ (none : (j : ℕ) → i ≤ j → j < 64 → bit s.low j ≡ false) where
    -- up to number n, below which the high word has none
    none_up : (n : ℕ) → ((j : ℕ) → i - 64 ≤ j → j < n - 64 → bit s.high j ≡ false) → (j : ℕ) → i ≤ j → j < n → has s j ≡ false
    none_up n k j lj lk =
        ⊎_elim (λ (l : j < 64). has_low s j l ∙ none j lj l) (λ (l : 64 ≤ j). has_high s j l ∙ k (j - 64) (omega arith) (omega arith)) (lt_or_ge j 64)

    pub next_high : (k : ℕ) → i - 64 ≡ k → i ≤ 64 + k → (high r : Option ℕ) → NextOrNone 64 (bit s.high) k high → r ≡ option_map (λ p. 64 + p) high →
        NextOrNone 128 (has s) i r
    next_high k ek lk None r h e = subst (NextOrNone 128 (has s) i) (sym e) (none_up 128 (λ j lj ll. h j (omega arith) (omega arith)))
    next_high k ek lk (Some b) r (h, l) e =
        let z : 64 + b - 64 ≡ b = omega arith in
        subst (NextOrNone 128 (has s) i) (sym e) (
          record {
            from = omega (arith, h.from);
            most = omega arith;
            passes = λ _. has_high s (64 + b) (omega arith) ∙ ap (bit s.high) z ∙ h.passes l;
            between = none_up (64 + b) (λ j lj ll. h.between j (omega arith) (omega arith));
          },
          omega arith,
        )

  -- the number that the low word gives, or else the one that the high word gives
  pub next_either : (low r : Option ℕ) → i < 64 → NextOrNone 64 (bit s.low) i low → ((x : ℕ) → low ≡ Some x → r ≡ Some x) →
      (low ≡ None → (high : Option ℕ) × NextOrNone 64 (bit s.high) 0 high × (r ≡ option_map (λ p. 64 + p) high)) → NextOrNone 128 (has s) i r
  next_either (Some x) r m n l h = subst (NextOrNone 128 (has s) i) (sym (l x refl)) (next_low x n)
  next_either None r m n l h = let (high, k, e) = h refl in next_high n 0 (omega arith) (omega arith) high r k e
