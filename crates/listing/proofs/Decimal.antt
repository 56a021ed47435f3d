-- Laws of a number's decimal digits: how they begin and end, and how many there are.
use mathlib.Core.Path.{◌≡◌, refl, sym, ap, ◌∙◌}
use mathlib.Core.Bool.{Bool, true, false, cond}
use mathlib.Core.List.{List, [], ◌∷◌, ◌++◌}
use Prim.Native.Nat.{ℕ, zero, suc, ◌+◌, ◌/◌, ◌%◌, ◌^◌, ◌≤◌, ◌<◌}
use native.Mathlib.Omega.{arith}
use native.Mathlib.Nat.{div-lt_self, div-lt_iff_lt-mul, mod-eq_of_lt}
use borrow.Author.Tests.{lt-ltb, le-ltb, ltb-true, ltb-false}
use lib.Dec.{ltb}
use lib.ListN.{length, length-append}
use Rattle.listing.specs.Text.{decimal_up_to, decimal}
use Rattle.listing.specs.declared.text.Text.{Text}
use Rattle.listing.specs.Written.{HasRoom, Puts}
use Rattle.listing.proofs.Writing.{Partly, partly_none, partly_first, partly_more}

-- one step of the digits, by whether the number is one digit
step : (k n : ℕ) (b : Bool) → ltb n 10 ≡ b → decimal_up_to (suc k) n ≡ cond b ((48 + n) ∷ []) (decimal_up_to k (n / 10) ++ (48 + n % 10) ∷ [])
unfolding decimal_up_to
step k n b e = ap (λ (x : Bool). cond x ((48 + n) ∷ []) (decimal_up_to k (n / 10) ++ (48 + n % 10) ∷ [])) e

pub tenth_less : (n : ℕ) → 10 ≤ n → n / 10 < n
tenth_less n h = div-lt_self (omega arith) (omega arith)

-- more room than the number makes no difference
enough : (k j n : ℕ) → n < k → n < j → decimal_up_to k n ≡ decimal_up_to j n
enough zero j n h g = absurd (omega arith)
enough (suc k) zero n h g = absurd (omega arith)
enough (suc k) (suc j) n h g = by (ltb n 10) refl (λ l. enough k j (n / 10) (omega (arith, tenth_less n l)) (omega (arith, tenth_less n l)))
  where
    by : (b : Bool) → ltb n 10 ≡ b → (10 ≤ n → decimal_up_to k (n / 10) ≡ decimal_up_to j (n / 10)) → decimal_up_to (suc k) n ≡ decimal_up_to (suc j) n
    by true e r = step k n true e ∙ sym (step j n true e)
    by false e r =
        step k n false e ∙ ap (λ (l : List ℕ). l ++ (48 + n % 10) ∷ []) (r (ltb-false n 10 e)) ∙ sym (step j n false e)

-- the digits of a number of one digit
pub decimal_digit : (n : ℕ) → n < 10 → decimal n ≡ (48 + n) ∷ []
unfolding decimal
decimal_digit n h = step n n true (lt-ltb n 10 h)

-- the digits of any other: those of a tenth, and the last one
pub decimal_more : (n : ℕ) → 10 ≤ n → decimal n ≡ decimal (n / 10) ++ (48 + n % 10) ∷ []
unfolding decimal
decimal_more n h =
    step n n false (le-ltb n 10 h)
    ∙ ap (λ (l : List ℕ). l ++ (48 + n % 10) ∷ []) (enough n (suc (n / 10)) (n / 10) (tenth_less n h) (omega arith))

-- a number below a power of ten has no more digits than its exponent, of at least one
pub decimal_short : (k n : ℕ) → n < 10 ^ suc k → length (decimal n) ≤ suc k
decimal_short zero n h = omega (arith, ap length (decimal_digit n (omega arith)))
decimal_short (suc k) n h = by (ltb n 10) refl (decimal_short k (n / 10))
  where
    by : (b : Bool) → ltb n 10 ≡ b → (n / 10 < 10 ^ suc k → length (decimal (n / 10)) ≤ suc k) → length (decimal n) ≤ suc (suc k)
    by true e r = omega (arith, ap length (decimal_digit n (ltb-true n 10 e)))
    by false e r =
        omega (
          arith,
          ap length (decimal_more n (ltb-false n 10 e)),
          length-append (decimal (n / 10)) ((48 + n % 10) ∷ []),
          r ((div-lt_iff_lt-mul {k = 10} (omega arith)).1 (omega arith)),
        )

module _ (n : ℕ) where
  abbrev pub last_digit : List ℕ
  last_digit = (48 + n % 10) ∷ []

  -- of the digits of n, the last is left: of a number of one digit, and of any other once the digits of a tenth are written
  pub digit_left : {t : Text} → n < 10 → Partly t (decimal n) t last_digit
  digit_left h = partly_none (ap (λ (m : ℕ). (48 + m) ∷ []) (mod-eq_of_lt {n = n} {m = 10} h) ∙ sym (decimal_digit n h))

  pub last_left : {t u : Text} → 10 ≤ n → Puts t u (decimal (n / 10)) → Partly t (decimal n) u last_digit
  last_left h p = partly_more (partly_none refl) (decimal_more n h) p

  pub tenth_room : (t : Text) → 10 ≤ n → HasRoom t (decimal n) → HasRoom t (decimal (n / 10))
  tenth_room t h r = partly_first (partly_none {t = t} refl) (decimal (n / 10)) last_digit (decimal_more n h) r
