-- What a search for 0 among a terminal's cards tells.
use Rattle.std.proofs.Common.{◌≡◌, ℕ, ◌+◌, ◌<◌, ◌≤◌, Bool, true, false, not, nat_eq, List, length, get_or, take, drop, sym, ◌∙◌, arith, eqb-true}
use Rattle.std.specs.List.{IsAnyAnswer}
use Rattle.std.proofs.lemmas.Bool.{eqb-false}
use Rattle.std.proofs.lemmas.List.{get_or-take, get_or-drop, length-take, length-drop}
use Rattle.diagram.specs.Layout.{level_at, decision_at, count_at, card_at}
use Rattle.diagram.specs.Sound.{SoundTerminal}
use Rattle.diagram.specs.Decided.{Decides}

module _ (d : List ℕ) (p m : ℕ) (e : m ≡ count_at d p) (within : p + 3 + count_at d p ≤ length d) where
  abbrev cards : List ℕ
  cards = take m (drop (p + 3) d)

  card : (i : ℕ) → i < m → get_or cards i 0 ≡ card_at d p i
  card i h = get_or-take m (drop (p + 3) d) i 0 h ∙ get_or-drop (p + 3) d i 0

  counted : length cards ≡ m
  counted = omega (arith, length-take m (drop (p + 3) d), length-drop (p + 3) d)

  -- a terminal with one of the four decisions and few cards is sound where none of them is 0
  pub cards_decide : level_at d p ≡ 0 → decision_at d p ≤ 3 → count_at d p ≤ 127 →
      (b : Bool) → IsAnyAnswer (λ y t. nat_eq y 0 ≡ t) cards b → Decides (SoundTerminal d p) (not b)
  cards_decide l v n true h = λ s.
      let i : h.0 < m = omega (arith, h.1, counted) in
      s.holds.none_zero h.0 (omega arith) (sym (card h.0 i) ∙ eqb-true _ 0 (h.2 0))
  cards_decide l v n false h =
      record {
        label = l;
        holds = record { one_of_four = v; at_most = n; none_zero = λ i g z. eqb-false _ 0 (h i 0 (omega arith) (omega (arith, counted))) (card i (omega arith) ∙ z) };
      }
