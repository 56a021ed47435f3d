-- Laws of the cards of matching rules among nodes that follow one another, for any test of which nodes apply.
use mathlib.Core.Path.{◌≡◌, refl, ap, ◌∙◌}
use mathlib.Core.Bool.{Bool, true, false, cond, ◌&&◌}
use mathlib.Core.List.{List, [], ◌∷◌, ◌++◌}
use Prim.Native.Nat.{ℕ, zero, suc, ◌+◌, ◌≤◌, ◌<◌}
use native.Mathlib.Omega.{arith}
use borrow.Author.Tests.{le-leb, lt-leb}
use lib.Dec.{leb}
use lib.ListN.{length}
use Rattle.answer.proofs.Tests.{and_false}
use Rattle.encoding.specs.Layout.{kind, card}
use Rattle.ruling.specs.Meaning.{matches, cards_from}
use Rattle.ruling.proofs.Listed.{listed_join}

module _ (a : ℕ → Bool) (t : List ℕ) where
  pub matches_rule : (i : ℕ) → a i ≡ true → 4 ≤ kind t i → matches a t i ≡ true
  matches_rule i e l = ap (λ b. b && a i) (le-leb 4 (kind t i) l) ∙ e

  pub matches_group : (i : ℕ) → kind t i < 4 → matches a t i ≡ false
  matches_group i l = ap (λ b. b && a i) (lt-leb 4 (kind t i) l)

  pub matches_not : (i : ℕ) → a i ≡ false → matches a t i ≡ false
  matches_not i e = ap (λ b. leb 4 (kind t i) && b) e ∙ and_false (leb 4 (kind t i))

  pub cards_none : (i : ℕ) → cards_from a t i 0 ≡ []
  unfolding cards_from
  cards_none i = refl

  -- one node more, by whether it is a rule that matches
  pub cards_more : (i n : ℕ) (b : Bool) → matches a t i ≡ b →
      cards_from a t i (suc n) ≡ cond b (card t i ∷ cards_from a t (i + 1) n) (cards_from a t (i + 1) n)
  unfolding cards_from
  cards_more i n b e = ap (λ x. cond x (card t i ∷ cards_from a t (i + 1) n) (cards_from a t (i + 1) n)) e

  -- where no node applies, there is no card
  pub cards_skip : (n i : ℕ) → ((m : ℕ) → i ≤ m → m < i + n → a m ≡ false) → cards_from a t i n ≡ []
  cards_skip zero i h = cards_none i
  cards_skip (suc n) i h =
      cards_more i n false (matches_not i (h i (omega arith) (omega arith)))
      ∙ cards_skip n (i + 1) (λ m l r. h m (omega arith) (omega arith))

  -- the cards of nodes, and then of those after them
  pub cards_join : (m n i : ℕ) → cards_from a t i (m + n) ≡ cards_from a t i m ++ cards_from a t (i + m) n
  cards_join = listed_join (cards_from a t) (matches a t) (card t) cards_none cards_more

  -- no more cards than nodes
  pub cards_few : (n i : ℕ) → length (cards_from a t i n) ≤ n
  cards_few zero i = omega (arith, ap length (cards_none i))
  cards_few (suc n) i = by (matches a t i) refl (cards_few n (i + 1))
    where
      by : (b : Bool) → matches a t i ≡ b → length (cards_from a t (i + 1) n) ≤ n → length (cards_from a t i (suc n)) ≤ suc n
      by true e h = omega (arith, ap length (cards_more i n true e), h)
      by false e h = omega (arith, ap length (cards_more i n false e), h)
