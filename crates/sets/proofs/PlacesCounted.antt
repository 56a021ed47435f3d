-- How many places of a word are set is what counting its ones gives.
use mathlib.Core.Path.{◌≡◌, sym, ap, ◌∙◌}
use mathlib.Core.Bool.{cond}
use Prim.Native.Nat.{ℕ, zero, suc, ◌+◌, ◌/◌, ◌%◌, ◌^◌, ◌<◌}
use native.Mathlib.Nat.{mod-lt, zero-lt-suc}
use native.Mathlib.Numerals.{add-one}
use native.Mathlib.Omega.{arith}
use lib.Arith.{lt-one}
use lib.Count.{ones, ones_in, ones_step}
use lib.Dec.{eqb}
use lib.Pow.{shr_lt}
use Rattle.answer.specs.Below.{count_below}
use Rattle.answer.proofs.Below.{count_first, count_same}
use Rattle.sets.specs.Sets.{bit}
use Rattle.sets.proofs.WordPlaces.{two, bit_first, bit_later}

-- a first digit beside a count
digit : (c x : ℕ) → x < 2 → x + c ≡ cond (eqb x 1) (suc c) c
digit c = two (λ x. x + c ≡ cond (eqb x 1) (suc c) c) (let z : 0 + c ≡ c = omega arith in z) (let z : 1 + c ≡ suc c = omega arith in z)

pub ones_counted : (k w : ℕ) → w < 2 ^ k → ones w ≡ count_below k (bit w)
unfolding ones ones_in count_below
ones_counted zero w l = ap ones (lt-one l)
ones_counted (suc k) w l =
    let later = ones_counted k (w / 2) (shr_lt k 1 (rw (add-one k) l)) ∙ count_same (bit (w / 2)) (λ j. bit w (suc j)) k (λ j _. sym (bit_later w j)) in
    ones_step w ∙ ap (λ c. w % 2 + c) later ∙ digit (count_below k (λ j. bit w (suc j))) (w % 2) (mod-lt w (zero-lt-suc 1))
    ∙ sym (count_first (bit w) k ∙ ap (λ b. cond b (suc (count_below k (λ j. bit w (suc j)))) (count_below k (λ j. bit w (suc j)))) (bit_first w))
