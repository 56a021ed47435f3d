-- Refusal 12, and what a look-up in a sound diagram answers: one law for each.
use mathlib.Core.Path.{◌≡◌, sym, ap, ◌∙◌}
use mathlib.Core.Bool.{true, false, not}
use mathlib.Core.List.{List, [], ◌∷◌}
use Prim.Native.Nat.{ℕ, ◌+◌, ◌≤◌, ◌<◌}
use native.Mathlib.Omega.{arith}
use lib.Dec.{lit<}
use lib.ListN.{length, take, drop}
use lib.Seq.{get_or-take, get_or-drop}
use Rattle.answer.specs.Fields.{fields}
use Rattle.answer.specs.Answers.{refused, zeros, padded}
use Rattle.answer.specs.Requests.{value, Within, field_fault}
use Rattle.answer.specs.Refusals.{None, First, here}
use Rattle.answer.specs.Rulings.{answer_of}
use Rattle.answer.specs.declared.Answer.{Answer}
use Rattle.answer.proofs.FirstField.{fault_alike}
use Rattle.answer.proofs.Settling.{settled_later}
use Rattle.answer.proofs.RequestRefusals.{within_ruled, asked_so}
use Rattle.diagram.specs.Layout.{maximum, decision_at, count_at}
use Rattle.diagram.specs.LookUp.{ruled_by}
use Rattle.diagram.specs.Sound.{Sound}
use Rattle.diagram.specs.Decided.{yes?, yes_decides}
use Rattle.diagram.specs.SoundIsDecided.{sound?}
use Rattle.diagram.specs.Landed.{Landed}
use Rattle.diagram.specs.LookedUp.{diagram_refusal, sound_refusals, looked_up, looked_up_list, sound_looked_up, sound_looked_up_list}
use Rattle.diagram.proofs.Deciding.{sound_is, affirmed}
use Rattle.diagram.proofs.Descent.{cards_counted}
use Rattle.diagram.proofs.EveryRequestReachesATerminal.{ruling_holdable}

-- refusal 9 by the part of the diagram that holds the maxima
pub maxima_fault : (d q : List ℕ) (from : ℕ) → from ≤ fields → field_fault (value (take fields (drop 2 d))) q from ≡ field_fault (maximum d) q from
maxima_fault d q from h =
    fault_alike (value (take fields (drop 2 d))) (maximum d) q from h (λ f l. get_or-take fields (drop 2 d) f 0 l ∙ get_or-drop 2 d f 0)

module _ (d : List ℕ) where
  -- 12 applies exactly where the diagram is not sound

  pub unsound : (Sound fields d → ⊥) → First (diagram_refusal d ∷ []) (diagram_refusal d)
  unsound h = here (ap not (sym (sound_is d false h)))

  pub sound : Sound fields d → None (diagram_refusal d ∷ [])
  sound s = (ap not (sym (sound_is d true s)), tt)

  pub none_sound : None (diagram_refusal d ∷ []) → Sound fields d
  none_sound n = affirmed (Sound fields d) (yes? (sound? fields d)) (yes_decides (sound? fields d)) n.0

  module _ (q : List ℕ) where
    -- what stands at the terminal that a request reaches
    module _ (s : Sound fields d) (p : ℕ) (l : Landed d q p) where
      pub reached_cards : take (count_at d p) (drop (p + 3) d) ≡ (ruled_by d q).cards
      reached_cards = ap (λ r. r.cards) l.ruling

      pub reached_count : count_at d p ≡ length (ruled_by d q).cards
      reached_count = sym (cards_counted d s p l.entry) ∙ ap length reached_cards

      pub reached_decision : decision_at d p ≡ (ruled_by d q).decision
      reached_decision = ap (λ r. r.decision) l.ruling

    -- what a sound diagram answers is what any does, where 12 does not apply
    pub sound_answers : (n m : ℕ) → Sound fields d → m ≡ n → (a : Answer) (list : List ℕ) → a ≡ sound_looked_up d q m → list ≡ sound_looked_up_list d q m →
        (a ≡ looked_up d q n) × (list ≡ looked_up_list d q n)
    sound_answers n m s k a list e z =
        let r = ruled_by d q in
        settled_later refused (zeros n) (answer_of r 0) (padded r.cards n) (diagram_refusal d ∷ []) (sound_refusals d q n) a list (sound s)
        (e ∙ ap (sound_looked_up d q) k, z ∙ ap (sound_looked_up_list d q) k)

    -- every request within the maxima of a sound diagram gets its ruling, where the list is long enough
    pub sound_ruled : (n : ℕ) → Sound fields d → Within (maximum d) q → length (ruled_by d q).cards ≤ n →
        (looked_up d q n ≡ answer_of (ruled_by d q) 0) × (looked_up_list d q n ≡ padded (ruled_by d q).cards n)
    sound_ruled n s w = within_ruled (diagram_refusal d ∷ []) (maximum d) q 0 (omega arith) (ruled_by d q) 0 n (sound s) (λ f _ l. w f l)

    -- the decision is one of the four, for every slice and every request of as many values as there are fields
    pub one_of_four : (n : ℕ) → length q ≡ fields → (looked_up d q n).decision < 4
    one_of_four n e =
        asked_so (diagram_refusal d ∷ []) (maximum d) q 0 (omega arith) (ruled_by d q) 0 n (λ m. m < 4) (lit< tt)
        (λ none w. omega (arith, (ruling_holdable d q (none_sound none) (λ f l. w f (omega arith) l) e).one_of_four))
