-- The cards are those of all matching rules, in table order, once for each rule, and nothing else: a rule that matches has its
-- card at the place that counts the rules matching before it, and every place is that of such a rule.
use mathlib.Core.Path.{◌≡◌, refl, sym, ap, ◌∙◌}
use mathlib.Core.Bool.{Bool, true, false, cond}
use mathlib.Core.Logic.{⊎_elim}
use mathlib.Core.List.{List, ◌++◌}
use Prim.Native.Nat.{ℕ, zero, suc, ◌+◌, ◌-◌, ◌<◌}
use native.Mathlib.Nat.{eq-or-lt_of_le}
use native.Mathlib.Omega.{arith}
use lib.ListN.{get_or, length, length-append}
use lib.Seq.{get_or_at}
use Rattle.answer.specs.Below.{count_below}
use Rattle.encoding.specs.Layout.{count, card}
use Rattle.ruling.specs.Meaning.{matches, cards_from, cards, matching}
use Rattle.ruling.proofs.Cards.{cards_none, cards_more, cards_join}

-- Place k of the cards is that of a rule that matches, before which k rules match.
pub record Origin (a : ℕ → Bool) (t : List ℕ) (n k : ℕ) : Type 0 where
  pub rule : ℕ
  pub inside : rule < n
  pub hit : matches a t rule ≡ true
  pub before : matching a t rule ≡ k

module _ (a : ℕ → Bool) (t : List ℕ) where
  matching_more : (n : ℕ) (b : Bool) → matches a t n ≡ b → matching a t (suc n) ≡ cond b (suc (matching a t n)) (matching a t n)
  unfolding count_below
  matching_more n b e = ap (λ x. cond x (suc (matching a t n)) (matching a t n)) e

  matching_none : matching a t 0 ≡ 0
  unfolding count_below
  matching_none = refl

  counted : (n : ℕ) → length (cards_from a t 0 n) ≡ matching a t n
  counted zero = ap length (cards_none a t 0) ∙ sym matching_none
  counted (suc n) =
      let z : suc n ≡ n + 1 = omega arith in
      let y : 0 + n ≡ n = omega arith in
      ap (λ m. length (cards_from a t 0 m)) z
      ∙ ap length (cards_join a t n 1 0)
      ∙ length-append (cards_from a t 0 n) (cards_from a t (0 + n) 1)
      ∙ ap (λ m. length (cards_from a t 0 n) + length (cards_from a t m 1)) y
      ∙ by (matches a t n) refl (counted n)
    where
      by : (b : Bool) → matches a t n ≡ b → length (cards_from a t 0 n) ≡ matching a t n →
          length (cards_from a t 0 n) + length (cards_from a t n 1) ≡ matching a t (suc n)
      by true e h =
          omega (arith, matching_more n true e, ap length (cards_more a t n 0 true e), ap length (cards_none a t (n + 1)))
      by false e h =
          omega (arith, matching_more n false e, ap length (cards_more a t n 0 false e), ap length (cards_none a t (n + 1)))

  -- "as count, the number of matching rules"
  pub number_of_cards : length (cards a t) ≡ matching a t (count t)
  number_of_cards = counted (count t)

  -- each matching rule's card is listed, in table order
  pub each_listed : (i : ℕ) → i < count t → matches a t i ≡ true → get_or (cards a t) (matching a t i) 0 ≡ card t i
  each_listed i l e =
      let z : count t ≡ i + suc (count t - suc i) = omega arith in
      let y : 0 + i ≡ i = omega arith in
      let rest = cards_from a t (i + 1) (count t - suc i) in
      ap (λ m. get_or (cards_from a t 0 m) (matching a t i) 0) z
      ∙ ap (λ cs. get_or cs (matching a t i) 0)
      (cards_join a t i (suc (count t - suc i)) 0
      ∙ ap (λ m. cards_from a t 0 i ++ cards_from a t m (suc (count t - suc i))) y
      ∙ ap (λ cs. cards_from a t 0 i ++ cs) (cards_more a t i (count t - suc i) true e))
      ∙ get_or_at (cards_from a t 0 i) (card t i) rest 0 (matching a t i) (counted i)

  origin : (n k : ℕ) → k < matching a t n → Origin a t n k
  origin zero k l = absurd (omega (arith, matching_none))
  origin (suc n) k l = by (matches a t n) refl (λ h. origin n k h)
    where
      later : Origin a t n k → Origin a t (suc n) k
      later o = record { rule = o.rule; inside = omega (arith, o.inside); hit = o.hit; before = o.before }

      by : (b : Bool) → matches a t n ≡ b → (k < matching a t n → Origin a t n k) → Origin a t (suc n) k
      by true e earlier =
          ⊎_elim
          (λ (h : k ≡ matching a t n). record { rule = n; inside = omega arith; hit = e; before = sym h })
          (λ (h : k < matching a t n). later (earlier h))
          (eq-or-lt_of_le (omega (arith, matching_more n true e)))
      by false e earlier = later (earlier (omega (arith, matching_more n false e)))

  -- nothing is listed but the cards of matching rules
  pub nothing_else : (k : ℕ) → k < length (cards a t) → Origin a t (count t) k
  nothing_else k l = origin (count t) k (omega (arith, number_of_cards))
