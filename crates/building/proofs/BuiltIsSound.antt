-- Any slice that starts with the diagram of an accepted table is sound, where that diagram has at most 32,768 places.
use mathlib.Core.Path.{subst}
use mathlib.Core.List.{List, ◌++◌}
use Prim.Native.Nat.{ℕ, ◌≤◌}
use native.Mathlib.Omega.{arith}
use lib.ListN.{length}
use Rattle.answer.specs.Fields.{fields}
use Rattle.encoding.specs.Layout.{Bytes, maxima}
use Rattle.table.specs.Reading.{Accepted}
use Rattle.encoding.proofs.Maxima.{maxima_length, maxima_bytes}
use Rattle.targets.specs.Targets.{applies}
use Rattle.ruling.specs.Ruling.{groups}
use Rattle.ruling.proofs.DecisionIsOneOfFour.{meaning_below}
use Rattle.ruling.proofs.AtMost127Cards.{at_most_127_cards}
use Rattle.ruling.proofs.NoCardIsZero.{no_card_is_zero}
use Rattle.diagram.specs.Layout.{most_places}
use Rattle.diagram.specs.Sound.{Holdable, Sound}
use Rattle.diagram.proofs.DiagramIsSound.{diagram_is_sound}
use Rattle.building.specs.Built.{diagram_of}

-- a terminal can hold what the groups of an accepted table give
pub groups_holdable : (t q : List ℕ) → Accepted t → Holdable (groups t q)
groups_holdable t q c =
    record {
      one_of_four = omega (arith, meaning_below (applies t q) t);
      at_most = at_most_127_cards (applies t q) t c;
      none_zero = no_card_is_zero (applies t q) t c;
    }

-- whatever follows the diagram in the slice
pub built_is_sound : (t tail : List ℕ) → Bytes t → Accepted t → length (diagram_of t) ≤ most_places → Sound fields (diagram_of t ++ tail)
built_is_sound t tail b c most =
    let all = maxima_length t in
    subst (λ k. Sound k (diagram_of t ++ tail)) all
    (diagram_is_sound (maxima t) (groups t) tail (omega arith) (λ i l. maxima_bytes t b i (omega arith)) (λ q w. groups_holdable t q c) most)
