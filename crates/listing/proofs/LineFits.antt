-- The line of every request within the maxima of a sound diagram fits into the longest line.
use mathlib.Core.Path.{◌≡◌, refl}
use mathlib.Core.Logic.{⊎_elim}
use mathlib.Core.List.{List, [], ◌∷◌, ◌++◌}
use Prim.Native.Nat.{ℕ, ◌+◌, ◌*◌, ◌≤◌, ◌<◌}
use native.Mathlib.Omega.{arith}
use lib.ListN.{length, get_or, take, drop, length-append, length-take, get_or-eq_default}
use lib.Seq.{get_or-take, get_or-drop}
use Rattle.answer.specs.Fields.{fields}
use Rattle.answer.specs.Requests.{Within}
use Rattle.answer.specs.Rulings.{Ruling}
use Rattle.answer.proofs.Tests.{lt_or_ge}
use Rattle.diagram.specs.Layout.{root, maximum}
use Rattle.diagram.specs.LookUp.{ruled_by}
use Rattle.diagram.specs.Sound.{Sound}
use Rattle.diagram.proofs.EveryRequestReachesATerminal.{ruling_holdable}
use Rattle.listing.specs.Text.{newline, ranges, items, decision_word, line, most_line}
use Rattle.listing.specs.Paths.{path_of, line_of}
use Rattle.listing.proofs.Lengths.{items_short, word_short}
use Rattle.listing.proofs.PathRanges.{ranges_short}

-- numbers of 16 bits
abbrev pub Small : List ℕ → Type 0
Small l = (i : ℕ) → get_or l i 0 < 65536

-- a part of such numbers
pub small_part : (l : List ℕ) → Small l → (from n : ℕ) → Small (take n (drop from l))
small_part l h from n i =
    ⊎_elim
    (λ (a : i < n). omega (arith, get_or-take n (drop from l) i 0 a, get_or-drop from l i 0, h (from + i)))
    (λ (a : n ≤ i). omega (arith, get_or-eq_default (take n (drop from l)) 0 {n = i} (omega (arith, length-take n (drop from l)))))
    (lt_or_ge i n)

module _ (d : List ℕ) (s : Sound fields d) (q : List ℕ) (w : Within (maximum d) q) (l : length q ≡ fields) where
  -- the ranges alone
  pub ranges_fit : length (ranges (path_of d q)) ≤ 8 * fields
  ranges_fit = ranges_short d s q w l fields 0 (root d) refl s.root_entry

  pub line_fits : Small (ruled_by d q).cards → length (line_of d q) ≤ most_line
  unfolding line
  line_fits small =
      let r : Ruling = ruled_by d q in
      omega (
        arith,
        length-append (ranges (path_of d q)) (decision_word r.decision ++ (items r.cards ++ newline ∷ [])),
        length-append (decision_word r.decision) (items r.cards ++ newline ∷ []),
        length-append (items r.cards) (newline ∷ []),
        ranges_fit,
        word_short r.decision,
        items_short r.cards small,
        (ruling_holdable d q s w l).at_most,
      )
