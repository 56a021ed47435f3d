-- Which places of a word are set after the bit operations.
use mathlib.Core.Path.{◌≡◌, refl, sym, ap, ap₂, ◌∙◌}
use mathlib.Core.Bool.{Bool, true, false, not, ◌&&◌, ◌||◌}
use mathlib.Core.Logic.{⊎_elim}
use Prim.Native.Nat.{ℕ, zero, suc, ◌+◌, ◌-◌, ◌*◌, ◌/◌, ◌%◌, ◌^◌, ◌≤◌, ◌<◌, min, max}
use native.Mathlib.Nat.{mod-lt, zero-lt-suc}
use native.Mathlib.Omega.{arith}
use borrow.Author.Tests.{eqb-true, eqb-false, eq-eqb, ne_eqb, lt-ltb, le-ltb, lt-leb, le-leb}
use lib.Bits.{bit_and as word_and, bit_or as word_or, and_mask, shifted_half, shifted_even}
use lib.Pow.{shr-shr}
use lib.Dec.{eqb, ltb, leb}
use Rattle.answer.proofs.Tests.{lt_or_ge}
use Rattle.std.specs.Int.{w64, bit_at}
use Rattle.std.proofs.lemmas.Nat.{one_shl}
use Rattle.std.proofs.lemmas.Nat.Bits.{bit_at_and, bit_at_or, bit_at_not, bit_at-lt, bit_at-zero, bit_at_above, bit_at_lowest, bit_at-suc, bit_at_ones, bit_at_ones_above, shr_and_one, bit_at-pow_same, bit_at-pow_other}
use Rattle.sets.specs.Sets.{bit}

-- two tests that say yes and no together
pub ltb_alike : (a b c d : ℕ) → (a < b → c < d) → (b ≤ a → d ≤ c) → ltb a b ≡ ltb c d
ltb_alike a b c d same more = ⊎_elim (λ l. lt-ltb a b l ∙ sym (lt-ltb c d (same l))) (λ l. le-ltb a b l ∙ sym (le-ltb c d (more l))) (lt_or_ge a b)

leb_alike : (a b c d : ℕ) → (a ≤ b → c ≤ d) → (b < a → d < c) → leb a b ≡ leb c d
leb_alike a b c d same more = ⊎_elim (λ l. lt-leb a b l ∙ sym (lt-leb c d (more l))) (λ l. le-leb a b l ∙ sym (le-leb c d (same l))) (lt_or_ge b a)

-- a fact of both digits is one of a number below 2
pub two : (P : ℕ → Type 0) → P 0 → P 1 → (x : ℕ) → x < 2 → P x
two P a b zero l = a
two P a b (suc zero) l = b
two P a b (suc (suc x)) l = absurd (omega arith)

-- a fact of both digits of two numbers below 2
twos : (P : ℕ → ℕ → Type 0) → P 0 0 → P 0 1 → P 1 0 → P 1 1 → (x y : ℕ) → x < 2 → y < 2 → P x y
twos P p q r s x y lx ly = two (λ d. P d y) (two (P 0) p q y ly) (two (P 1) r s y ly) x lx

pub bit_and : (a b i : ℕ) → bit (word_and a b) i ≡ bit a i && bit b i
unfolding bit
bit_and a b i =
    ap (λ d. eqb d 1) (bit_at_and a b i)
    ∙ twos (λ x y. eqb (min x y) 1 ≡ (eqb x 1 && eqb y 1)) refl refl refl refl (bit_at a i) (bit_at b i) (bit_at-lt a i) (bit_at-lt b i)

pub bit_or : (a b i : ℕ) → bit (word_or a b) i ≡ bit a i || bit b i
unfolding bit
bit_or a b i =
    ap (λ d. eqb d 1) (bit_at_or a b i)
    ∙ twos (λ x y. eqb (max x y) 1 ≡ (eqb x 1 || eqb y 1)) refl refl refl refl (bit_at a i) (bit_at b i) (bit_at-lt a i) (bit_at-lt b i)

pub bit_zero : (i : ℕ) → bit 0 i ≡ false
unfolding bit
bit_zero i = ap (λ d. eqb d 1) (bit_at-zero i)

pub bit_none : (w i : ℕ) → w ≡ 0 → bit w i ≡ false
bit_none w i e = ap (λ w. bit w i) e ∙ bit_zero i

-- past the last place of a word
pub bit_past : (w i : ℕ) → w < 2 ^ 64 → 64 ≤ i → bit w i ≡ false
unfolding bit
bit_past w i l h = ap (λ d. eqb d 1) (bit_at_above w 64 i l h)

-- the places of a word that another does not have
pub bit_cleared : (w m i : ℕ) → w < 2 ^ 64 → m < 2 ^ 64 → bit (word_and w (2 ^ 64 - 1 - m)) i ≡ bit w i && not (bit m i)
unfolding bit
bit_cleared w m i lw lm =
    bit_and w (2 ^ 64 - 1 - m) i
    ∙ ⊎_elim
    (λ (l : i < 64). ap (λ d. bit w i && eqb d 1) (bit_at_not w64 m i lm l) ∙ ap (λ b. bit w i && b) (turned (m / 2 ^ i % 2) (mod-lt (m / 2 ^ i) (zero-lt-suc 1))))
    (λ (h : 64 ≤ i). ap (λ b. b && bit (2 ^ 64 - 1 - m) i) (bit_past w i lw h) ∙ sym (ap (λ b. b && not (bit m i)) (bit_past w i lw h)))
    (lt_or_ge i 64)
  where
    turned : (d : ℕ) → d < 2 → eqb (1 - d) 1 ≡ not (eqb d 1)
    turned d l = two (λ d. eqb (1 - d) 1 ≡ not (eqb d 1)) refl refl d l

pub bit_first : (w : ℕ) → bit w 0 ≡ eqb (w % 2) 1
unfolding bit
bit_first w = ap (λ d. eqb d 1) (bit_at_lowest w)

pub bit_later : (w i : ℕ) → bit w (suc i) ≡ bit (w / 2) i
unfolding bit
bit_later w i = ap (λ d. eqb d 1) (bit_at-suc w i)

pub bit_shifted : (w i j : ℕ) → bit (w / 2 ^ i) j ≡ bit w (i + j)
unfolding bit
bit_shifted w i j = ap (λ n. eqb (n % 2) 1) (shr-shr w i j)

-- the word with its first k places set
pub bit_all : (k i : ℕ) → bit (2 ^ k - 1) i ≡ ltb i k
unfolding bit
bit_all k i =
    ⊎_elim
    (λ (l : i < k). ap (λ d. eqb d 1) (bit_at_ones k i l) ∙ sym (lt-ltb i k l))
    (λ (l : k ≤ i). ap (λ d. eqb d 1) (bit_at_ones_above k i l) ∙ sym (le-ltb i k l))
    (lt_or_ge i k)

-- what a shift and a mask read
pub bit_read : (w i : ℕ) → eqb (word_and (w / 2 ^ i) 1) 1 ≡ bit w i
unfolding bit
bit_read w i = ap (λ d. eqb d 1) (shr_and_one w i)

-- a word cut at its first k places
bit_within : (n k i : ℕ) → bit (n % 2 ^ k) i ≡ bit n i && ltb i k
bit_within n k i = ap (λ m. bit m i) (sym (and_mask n k)) ∙ bit_and n (2 ^ k - 1) i ∙ ap (λ b. bit n i && b) (bit_all k i)

-- a number shifted up by i places
bit_up : (w i j : ℕ) → bit (w * 2 ^ i) j ≡ leb i j && bit w (j - i)
bit_up w zero j =
    let z : w * 2 ^ 0 ≡ w = omega arith in
    let y : j ≡ j - 0 = omega arith in
    ap (λ n. bit n j) z ∙ ap (bit w) y ∙ sym (ap (λ b. b && bit w (j - 0)) (le-leb 0 j (omega arith)))
bit_up w (suc i) zero =
    bit_first (w * 2 ^ suc i) ∙ ap (λ n. eqb n 1) (shifted_even w i) ∙ sym (ap (λ b. b && bit w (0 - suc i)) (lt-leb (suc i) 0 (omega arith)))
bit_up w (suc i) (suc j) =
    let y : j - i ≡ suc j - suc i = omega arith in
    bit_later (w * 2 ^ suc i) j ∙ ap (λ n. bit n j) (shifted_half w i) ∙ bit_up w i j
    ∙ ap₂ (λ b k. b && bit w k) (leb_alike i j (suc i) (suc j) (λ l. omega arith) (λ l. omega arith)) y

-- a word shifted up by i places
pub bit_left : (w i j : ℕ) → bit (w * 2 ^ i % 2 ^ 64) j ≡ (leb i j && bit w (j - i)) && ltb j 64
bit_left w i j = bit_within (w * 2 ^ i) 64 j ∙ ap (λ b. b && ltb j 64) (bit_up w i j)

-- the word with one place set
pub bit_only : (i j : ℕ) → i < 64 → bit (1 * 2 ^ i % 2 ^ 64) j ≡ eqb i j
unfolding bit
bit_only i j l = ap (λ w. bit w j) (one_shl i 64 l) ∙ by (eqb j i) refl
  where
    by : (b : Bool) → eqb j i ≡ b → bit (2 ^ i) j ≡ eqb i j
    by true e = ap (λ d. eqb (bit_at (2 ^ i) d) 1) (eqb-true j i e) ∙ ap (λ d. eqb d 1) (bit_at-pow_same i) ∙ sym (eq-eqb i j (sym (eqb-true j i e)))
    by false e = ap (λ d. eqb d 1) (bit_at-pow_other i j (eqb-false j i e)) ∙ sym (ne_eqb i j (λ z. eqb-false j i e (sym z)))
