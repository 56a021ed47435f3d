-- Bytes that are gathered into a word: it has room for eight, and each can be read back from it; so each end of a node's ranges can.
use mathlib.Core.Path.{◌≡◌, refl, sym, ap, ap₂, ◌∙◌, subst}
use mathlib.Core.Logic.{⊎_elim}
use mathlib.Core.List.{List}
use Prim.Native.Nat.{ℕ, zero, suc, ◌+◌, ◌-◌, ◌*◌, ◌/◌, ◌%◌, ◌^◌, ◌≤◌, ◌<◌}
use native.Mathlib.Nat.{eq-or-lt_of_le, lt_of_lt_of_le, div-one}
use native.Mathlib.Omega.{arith}
use lib.Arith.{digits_lt, digits_div, digits_mod}
use lib.Pow.{pow-add, pow_mono, shr-shr}
use Rattle.answer.specs.Fields.{fields}
use Rattle.encoding.specs.Layout.{Bytes, record_byte, low, high}
use Rattle.encoding.specs.Ranges.{gathered, ranges_word, range_byte, ReadsBack}

module _ (b : ℕ → ℕ) (bytes : (k : ℕ) → b k < 256) where
  -- n bytes take 8 n bits
  below : (n : ℕ) → gathered b n < 2 ^ (8 * n)
  unfolding gathered
  below zero = omega arith
  below (suc n) =
      let z : 8 * n + 8 ≡ 8 * suc n = omega arith in
      subst (λ (m : ℕ). gathered b n * 256 + b n < m) (sym (pow-add 2 (8 * n) 8) ∙ ap (λ k. 2 ^ k) z) (digits_lt (below n) (bytes n))

  -- at most six leave room for two more
  room : (n : ℕ) → n ≤ 6 → gathered b n < 2 ^ 48
  room n l = let m : 8 * n ≤ 48 = omega arith in lt_of_lt_of_le (below n) (pow_mono m)

  -- byte k of n, of which the last is lowest
  byte_of : (n k : ℕ) → k < n → gathered b n / 2 ^ (8 * (n - 1 - k)) % 256 ≡ b k
  unfolding gathered
  byte_of zero k l = absurd (omega arith)
  byte_of (suc n) k l =
      let w = gathered b n * 256 + b n in
      ⊎_elim
      (λ (e : k ≡ n).
      let z : 8 * (suc n - 1 - k) ≡ 0 = omega arith in
      ap (λ m. w / 2 ^ m % 256) z ∙ ap (λ m. m % 256) (div-one w) ∙ digits_mod (gathered b n) (bytes n) ∙ ap b (sym e))
      (λ (m : k < n).
      let z : 8 * (suc n - 1 - k) ≡ 8 + 8 * (n - 1 - k) = omega arith in
      ap (λ m. w / 2 ^ m % 256) z ∙ ap (λ m. m % 256) (sym (shr-shr w 8 (8 * (n - 1 - k))))
      ∙ ap (λ m. m / 2 ^ (8 * (n - 1 - k)) % 256) (digits_div (gathered b n) (bytes n))
      ∙ byte_of n k m)
      (eq-or-lt_of_le (omega arith))

module _ (t : List ℕ) (i : ℕ) where
  -- node i's range bytes, one after another
  abbrev range_at : ℕ → ℕ
  range_at k = record_byte t i (5 + k)

  module _ (bytes : Bytes t) where
    are_bytes : (k : ℕ) → range_at k < 256
    unfolding record_byte
    are_bytes k = bytes _

    -- "one word": 64 bits, and so for up to four fields
    pub ranges_fit : ranges_word t i < 2 ^ 64
    unfolding ranges_word
    ranges_fit = let m : 8 * (2 * fields) ≤ 64 = omega arith in lt_of_lt_of_le (below range_at are_bytes (2 * fields)) (pow_mono m)

    byte_back : (k : ℕ) → k < 2 * fields → range_byte (ranges_word t i) k ≡ range_at k
    unfolding ranges_word range_byte
    byte_back = byte_of range_at are_bytes (2 * fields)

    -- "each of the six can be read back from the word": over the number of the field
    pub reads_back : ReadsBack (ranges_word t i) t i
    reads_back f l =
        let z : 5 + (2 * f + 1) ≡ 5 + 2 * f + 1 = omega arith in
        (byte_back (2 * f) (omega arith), byte_back (2 * f + 1) (omega arith) ∙ ap (record_byte t i) z)

  -- the range bytes of the fields before field f are gathered
  abbrev pub RangesGathered : ℕ → ℕ → Type 0
  RangesGathered f w = w ≡ gathered range_at (2 * f)

  pub none_gathered : RangesGathered 0 0
  unfolding gathered
  none_gathered = refl

  pub room_for_two : (f w : ℕ) → Bytes t → f < fields → RangesGathered f w → w < 2 ^ 48
  room_for_two f w bytes l e = omega (arith, e, room range_at (are_bytes bytes) (2 * f) (omega arith))

  pub one_more : (f w l h v : ℕ) → RangesGathered f w → l ≡ low t i f → h ≡ high t i f → v ≡ (w * 256 + l) * 256 + h → RangesGathered (f + 1) v
  unfolding gathered
  one_more f w l h v e el eh ev =
      let z : 2 * (f + 1) ≡ suc (suc (2 * f)) = omega arith in
      let y : 5 + 2 * f + 1 ≡ 5 + suc (2 * f) = omega arith in
      ev ∙ ap₂ (λ a b. a * 256 + b) (ap₂ (λ a b. a * 256 + b) e el) (eh ∙ ap (record_byte t i) y) ∙ ap (gathered range_at) (sym z)

  pub all_gathered : (f w : ℕ) → f ≡ fields → RangesGathered f w → w ≡ ranges_word t i
  unfolding ranges_word
  all_gathered f w l e = e ∙ ap (λ n. gathered range_at (2 * n)) l
