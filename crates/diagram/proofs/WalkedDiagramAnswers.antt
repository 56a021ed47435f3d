-- In any slice that starts with a walked diagram, a request within the maxima gets the answer and the list of the ruling walked; any request gets the
-- decision of a ruling walked, or 0.
use mathlib.Core.Path.{◌≡◌, sym, ap, ◌∙◌, subst}
use mathlib.Core.List.{List, [], ◌∷◌, ◌++◌}
use Prim.Native.Nat.{ℕ, ◌≤◌, ◌<◌}
use native.Mathlib.Omega.{arith}
use lib.ListN.{length, get_or}
use Rattle.answer.specs.Fields.{fields}
use Rattle.answer.specs.Answers.{padded}
use Rattle.answer.specs.Rulings.{Ruling, answer_of}
use Rattle.answer.proofs.RequestRefusals.{asked_so}
use Rattle.diagram.specs.Layout.{most_places, maximum}
use Rattle.diagram.specs.Walk.{diagram, WithinMaxima}
use Rattle.diagram.specs.Sound.{Holdable, Sound}
use Rattle.diagram.specs.LookUp.{ruled_by}
use Rattle.diagram.specs.LookedUp.{diagram_refusal, looked_up, looked_up_list}
use Rattle.diagram.proofs.LookUpGivesTheRuling.{look_up_gives_the_ruling}
use Rattle.diagram.proofs.DiagramIsSound.{diagram_is_sound}
use Rattle.diagram.proofs.LookUpAnswers.{sound_ruled}
use Rattle.diagram.proofs.WithinAsWalked.{within_length, within_as_walked}

module _ (ms : List ℕ) (f : List ℕ → Ruling) (tail : List ℕ) (all : length ms ≡ fields) (maxima : (i : ℕ) → i < length ms → get_or ms i 0 ≤ 255)
    (holdable : (q : List ℕ) → WithinMaxima ms q → Holdable (f q)) (most : length (diagram ms f) ≤ most_places)
    (q : List ℕ) (n : ℕ) (w : WithinMaxima ms q) where
  abbrev slice : List ℕ
  slice = diagram ms f ++ tail

  sound : Sound fields slice
  sound = subst (λ k. Sound k slice) all (diagram_is_sound ms f tail (omega arith) maxima holdable most)

  -- the answer and the list: those of the ruling, where the list is long enough for its cards
  pub walked_diagram_answers : length (f q).cards ≤ n →
      (looked_up (diagram ms f ++ tail) q n ≡ answer_of (f q) 0)
      × (looked_up_list (diagram ms f ++ tail) q n ≡ padded (f q).cards n)
  walked_diagram_answers l =
      let same = look_up_gives_the_ruling ms f tail q w in
      let h = sound_ruled slice q n sound ((within_as_walked ms f tail q all (within_length ms q w ∙ all)).1 w) (omega (arith, ap (λ r. length r.cards) same)) in
      (h.0 ∙ ap (λ r. answer_of r 0) same, h.1 ∙ ap (λ r. padded r.cards n) same)

-- what is so of 0, and of the decision of every ruling walked, is so of the decision that is answered
pub walked_so : (ms : List ℕ) (f : List ℕ → Ruling) (tail : List ℕ) → length ms ≡ fields → (P : ℕ → Type 0) → P 0 →
    ((q : List ℕ) → WithinMaxima ms q → P (f q).decision) → (q : List ℕ) (n : ℕ) → length q ≡ fields → P (looked_up (diagram ms f ++ tail) q n).decision
walked_so ms f tail all P zero h q n e =
    let d = diagram ms f ++ tail in
    asked_so (diagram_refusal d ∷ []) (maximum d) q 0 (omega arith) (ruled_by d q) 0 n P zero
    (λ none w.
    let within = (within_as_walked ms f tail q all e).0 (λ i l. w i (omega arith) l) in
    subst P (sym (ap (λ r. r.decision) (look_up_gives_the_ruling ms f tail q within))) (h q within))
