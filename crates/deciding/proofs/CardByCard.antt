-- The cards of the rules of a set, stored one after another: the nodes between those of the set have none.
use mathlib.Core.Path.{◌≡◌, sym, ap, ◌∙◌}
use mathlib.Core.Bool.{Bool, true, false}
use mathlib.Core.List.{List, [], ◌∷◌, ◌++◌}
use Prim.Native.Nat.{ℕ, suc, ◌+◌, ◌-◌, ◌≤◌, ◌<◌}
use native.Mathlib.Omega.{arith}
use lib.ListN.{length, set}
use lib.Seq.{sets}
use Rattle.encoding.specs.Layout.{kind, card, count}
use Rattle.ruling.specs.Meaning.{cards_from, cards}
use Rattle.ruling.proofs.Cards.{matches_rule, matches_group, cards_none, cards_more, cards_skip, cards_join, cards_few}

-- the cards of the matching rules from node i on
abbrev pub cards_after : (ℕ → Bool) → List ℕ → ℕ → List ℕ
cards_after a t i = cards_from a t i (count t - i)

-- What holds before node i: the k cards stored so far and those from i on are all cards.
pub record Before (a : ℕ → Bool) (t before : List ℕ) (i k : ℕ) (list : List ℕ) : Type 0 where
  pub number : length (cards a t) ≡ k + length (cards_after a t i)
  pub all : sets before 0 (cards a t) ≡ sets list k (cards_after a t i)

module _ {a : ℕ → Bool} {t : List ℕ} where
  -- the first node
  pub before_first : {list : List ℕ} → Before a t list 0 0 list
  before_first {list} =
      let z : count t ≡ count t - 0 = omega arith in
      let e : cards a t ≡ cards_after a t 0 = ap (cards_from a t 0) z in
      record { number = omega (arith, ap length e); all = ap (sets list 0) e }

  module _ {before list : List ℕ} {i k : ℕ} (h : Before a t before i k list) where
    -- the nodes up to the next of the set have no card
    pub before_member : {j : ℕ} → i ≤ j → j ≤ count t → ((m : ℕ) → i ≤ m → m < j → a m ≡ false) → Before a t before j k list
    before_member {j} l le none =
        let z : count t - i ≡ (j - i) + (count t - j) = omega arith in
        let y : i + (j - i) ≡ j = omega arith in
        let e : cards_after a t i ≡ cards_after a t j =
        ap (cards_from a t i) z ∙ cards_join a t (j - i) (count t - j) i
        ∙ ap (λ cs. cs ++ cards_from a t (i + (j - i)) (count t - j)) (cards_skip a t (j - i) i (λ m p q. none m p (omega arith)))
        ∙ ap (λ m. cards_from a t m (count t - j)) y in
        record { number = omega (arith, h.number, ap length e); all = h.all ∙ ap (sets list k) e }

    -- after a rule of the set, whose card was stored
    pub after_rule : {list' : List ℕ} {k' m c : ℕ} → i < count t → a i ≡ true → m ≡ kind t i → 4 ≤ m → c ≡ card t i →
        k' ≡ k + 1 → list' ≡ set list k c → Before a t before (i + 1) k' list'
    after_rule {list'} {k'} l is em lm ec ek el =
        let y : count t - i ≡ suc (count t - (i + 1)) = omega arith in
        let z : suc k ≡ k' = omega arith in
        let rest = cards_after a t (i + 1) in
        let e : cards_after a t i ≡ card t i ∷ rest =
        ap (cards_from a t i) y ∙ cards_more a t i (count t - (i + 1)) true (matches_rule a t i is (omega arith)) in
        record {
          number = omega (arith, h.number, ap length e);
          all =
              h.all ∙ ap (sets list k) e
              ∙ ap (λ u. sets (set list k u) (suc k) rest) (sym ec)
              ∙ ap (λ u. sets u (suc k) rest) (sym el)
              ∙ ap (λ u. sets list' u rest) z;
        }

    -- after a group
    pub after_group : {list' : List ℕ} {k' m : ℕ} → i < count t → m ≡ kind t i → m < 4 →
        k' ≡ k → list' ≡ list → Before a t before (i + 1) k' list'
    after_group l em lm ek el =
        let y : count t - i ≡ suc (count t - (i + 1)) = omega arith in
        let e : cards_after a t i ≡ cards_after a t (i + 1) =
        ap (cards_from a t i) y ∙ cards_more a t i (count t - (i + 1)) false (matches_group a t i (omega arith)) in
        rw (ek, el) (record { number = omega (arith, h.number, ap length e); all = h.all ∙ ap (sets list k) e })

    -- there are no more cards than nodes
    pub stored_few : k ≤ count t
    stored_few = omega (arith, h.number, cards_few a t (count t) 0)

    -- no node of the set is left
    pub before_end : i ≤ count t → ((m : ℕ) → i ≤ m → m < count t → a m ≡ false) → (k ≡ length (cards a t)) × (list ≡ sets before 0 (cards a t))
    before_end l none =
        let b = before_member l (omega arith) none in
        let z : count t - count t ≡ 0 = omega arith in
        let e : cards_after a t (count t) ≡ [] = ap (cards_from a t (count t)) z ∙ cards_none a t (count t) in
        (omega (arith, b.number, ap length e), sym (b.all ∙ ap (sets list k) e))
