-- A request is within the maxima in the header of a walked diagram exactly where it is within the maxima walked.
use mathlib.Core.Path.{◌≡◌, refl}
use mathlib.Core.Logic.{◌↔◌}
use mathlib.Core.List.{List, [], ◌∷◌, ◌++◌}
use Prim.Native.Nat.{ℕ, zero, suc, ◌≤◌, ◌<◌}
use native.Mathlib.Omega.{arith}
use lib.ListN.{length, get_or}
use Rattle.answer.specs.Fields.{fields}
use Rattle.answer.specs.Requests.{value, Within}
use Rattle.answer.specs.Rulings.{Ruling}
use Rattle.diagram.specs.Layout.{maximum}
use Rattle.diagram.specs.Walk.{diagram, WithinMaxima}
use Rattle.diagram.proofs.DiagramHeader.{diagram_maximum}

-- within a list of maxima are as many values, each at most its maximum

pub within_length : (ms q : List ℕ) → WithinMaxima ms q → length q ≡ length ms
within_length [] [] w = refl
within_length [] (v ∷ q) w = absurd w
within_length (m ∷ ms) [] w = absurd w
within_length (m ∷ ms) (v ∷ q) w = omega (arith, within_length ms q w.1)

pub within_each : (ms q : List ℕ) → WithinMaxima ms q → (i : ℕ) → i < length ms → value q i ≤ get_or ms i 0
within_each [] q w i l = absurd (omega arith)
within_each (m ∷ ms) [] w i l = absurd w
within_each (m ∷ ms) (v ∷ q) w zero l = w.0
within_each (m ∷ ms) (v ∷ q) w (suc i) l = within_each ms q w.1 i (omega arith)

pub each_within : (ms q : List ℕ) → length q ≡ length ms → ((i : ℕ) → i < length ms → value q i ≤ get_or ms i 0) → WithinMaxima ms q
each_within [] [] e h = tt
each_within [] (v ∷ q) e h = absurd (omega arith)
each_within (m ∷ ms) [] e h = absurd (omega arith)
each_within (m ∷ ms) (v ∷ q) e h = (h 0 (omega arith), each_within ms q (omega arith) (λ i l. h (suc i) (omega arith)))

-- within the header's maxima exactly where within those walked, whatever follows the diagram in the slice
pub within_as_walked : (ms : List ℕ) (f : List ℕ → Ruling) (tail q : List ℕ) → length ms ≡ fields → length q ≡ fields →
    Within (maximum (diagram ms f ++ tail)) q ↔ WithinMaxima ms q
within_as_walked ms f tail q e n = (
  λ w. each_within ms q (omega arith) (λ i l. omega (arith, w i (omega arith), diagram_maximum ms f tail i l)),
  λ w i l. omega (arith, within_each ms q w i (omega arith), diagram_maximum ms f tail i (omega arith)),
)
