-- In a sound diagram every request within the maxima reaches a terminal. So its ruling is one that a terminal can hold: one of the four
-- decisions, at most 127 cards, none of them 0.
use mathlib.Core.Path.{◌≡◌, refl, sym, ◌∙◌, subst}
use mathlib.Core.List.{List}
use Prim.Native.Nat.{ℕ, zero, suc, ◌+◌, ◌≤◌}
use native.Mathlib.Omega.{arith}
use native.Mathlib.Numerals.{add-one}
use lib.ListN.{length, drop}
use lib.Seq.{get_or-take, get_or-drop}
use Rattle.answer.specs.Fields.{fields}
use Rattle.answer.specs.Requests.{value, Within}
use Rattle.diagram.specs.Layout.{root, maximum, count_at}
use Rattle.diagram.specs.LookUp.{ruling_at, child, ruled_by}
use Rattle.diagram.specs.Sound.{Holdable, SoundTerminal, Sound}
use Rattle.diagram.specs.Landed.{Landed}
use Rattle.diagram.proofs.Descent.{Down, down_none, down_more, landed, terminal_there, cards_counted}

module _ (d q : List ℕ) (s : Sound fields d) (w : Within (maximum d) q) (l : length q ≡ fields) where
  descends : (f : ℕ) → f ≤ fields → (p : ℕ) × Down d q p f
  descends zero h = (root d, down_none d s q w (root d) refl)
  descends (suc f) h =
      let a = descends f (omega arith) in
      let c = child d a.0 (value q f) in
      (c, subst (Down d q c) (add-one f) (down_more d s q w a.0 f a.1 (omega arith) (omega arith) (value q f) c refl refl))

  pub every_request_reaches_a_terminal : (p : ℕ) × Landed d q p
  every_request_reaches_a_terminal =
      let a = descends fields (omega arith) in
      (a.0, landed d s q w a.0 fields a.1 (omega arith) l)

  pub ruling_holdable : Holdable (ruled_by d q)
  ruling_holdable =
      let a = every_request_reaches_a_terminal in
      subst Holdable a.1.ruling (read a.0 (terminal_there d s a.0 a.1.entry) (cards_counted d s a.0 a.1.entry))
    where
      read : (p : ℕ) → SoundTerminal d p → length (ruling_at d p).cards ≡ count_at d p → Holdable (ruling_at d p)
      read p t n =
          record {
            one_of_four = t.holds.one_of_four;
            at_most = omega (arith, t.holds.at_most);
            none_zero = λ i h z. t.holds.none_zero i (omega arith) (sym (get_or-drop (p + 3) d i 0) ∙ sym (get_or-take (count_at d p) (drop (p + 3) d) i 0 (omega arith)) ∙ z);
          }
