-- Diagrams over as many fields are equal, number for number, exactly when the maxima are the same and the rulings within them are.
use mathlib.Core.Path.{◌≡◌, sym, ap, ◌∙◌, subst}
use mathlib.Core.Logic.{◌↔◌}
use mathlib.Core.List.{List, [], ◌++◌}
use Prim.Native.Nat.{ℕ}
use lib.ListN.{length, take, drop}
use Rattle.answer.specs.Rulings.{Ruling}
use Rattle.diagram.specs.Walk.{diagram, WithinMaxima}
use Rattle.diagram.specs.LookUp.{ruled_by}
use Rattle.diagram.proofs.DiagramHeader.{diagram_maxima}
use Rattle.diagram.proofs.LookUpGivesTheRuling.{look_up_gives_the_ruling}
use Rattle.diagram.proofs.DiagramGoesByRulingsWithin.{Alike, diagram_goes_by_rulings_within}

module _ (ms ns : List ℕ) (f g : List ℕ → Ruling) (l : length ms ≡ length ns) where
  same_maxima : diagram ms f ≡ diagram ns g → ms ≡ ns
  same_maxima e =
      sym (diagram_maxima ms f)
      ∙ ap (λ d. take (length ms) (drop 2 d)) e
      ∙ ap (λ n. take n (drop 2 (diagram ns g))) l
      ∙ diagram_maxima ns g

  same_rulings : diagram ms f ≡ diagram ns g → Alike ms f g
  same_rulings e q w =
      sym (look_up_gives_the_ruling ms f [] q w)
      ∙ ap (λ d. ruled_by (d ++ []) q) e
      ∙ look_up_gives_the_ruling ns g [] q (subst (λ l. WithinMaxima l q) (same_maxima e) w)

  -- the diagrams are equal exactly where the maxima are equal and the rulings alike
  pub equal_exactly_when_alike : (diagram ms f ≡ diagram ns g) ↔ ((ms ≡ ns) × Alike ms f g)
  equal_exactly_when_alike = (
    λ e. (same_maxima e, same_rulings e),
    λ h. diagram_goes_by_rulings_within ms f g h.1 ∙ ap (λ l. diagram l g) h.0,
  )
