-- A request is within a table's fields exactly where it is within its list of maxima.
use mathlib.Core.Path.{◌≡◌, sym, ◌∙◌}
use mathlib.Core.Logic.{◌↔◌}
use mathlib.Core.List.{List}
use Prim.Native.Nat.{ℕ}
use native.Mathlib.Omega.{arith}
use lib.ListN.{length}
use Rattle.answer.specs.Fields.{fields}
use Rattle.answer.specs.Requests.{Within}
use Rattle.encoding.specs.Layout.{maximum, maxima}
use Rattle.encoding.proofs.Maxima.{maxima_length, maxima_each}
use Rattle.diagram.specs.Walk.{WithinMaxima}
use Rattle.diagram.proofs.WithinAsWalked.{within_length, within_each, each_within}

-- within the fields, and so within the list of maxima, and the other way round
pub within_maxima : (t q : List ℕ) → ((length q ≡ fields) × Within (maximum t) q) ↔ WithinMaxima (maxima t) q
within_maxima t q =
    let all : length (maxima t) ≡ fields = maxima_length t in (
      λ w. each_within (maxima t) q (w.0 ∙ sym all) (λ i l. omega (arith, w.1 i (omega arith), maxima_each t i (omega arith))),
      λ w. (within_length (maxima t) q w ∙ all, λ f l. omega (arith, within_each (maxima t) q w f (omega arith), maxima_each t f l)),
    )
