-- What stands in the header of any slice that starts with a walked diagram.
use mathlib.Core.Path.{◌≡◌, refl, sym, ap, ◌∙◌}
use mathlib.Core.List.{List, [], ◌∷◌, ◌++◌, append_assoc}
use Prim.Native.Nat.{ℕ, ◌+◌, ◌<◌}
use native.Mathlib.Omega.{arith}
use lib.ListN.{length, get_or, take, drop, length-append, get_or-append}
use lib.Seq.{take-append_seam, get_or-drop}
use Rattle.answer.specs.Rulings.{Ruling}
use Rattle.diagram.specs.Layout.{header, used, root, maximum}
use Rattle.diagram.specs.Walk.{joined, Entered, walk, diagram}

module _ (ms : List ℕ) (f : List ℕ → Ruling) where
  -- the walk from no entries
  abbrev pub walked : Entered
  walked = walk (length ms) ms f []

  -- the places before the entries
  abbrev pub head : List ℕ
  head = (header (length ms) + length (joined walked.entries)) ∷ walked.place ∷ ms

  -- the places before the entries are as many as a header has
  pub head_length : length head ≡ header (length ms)
  head_length = omega arith

  -- the maxima stand after places used and the root
  pub diagram_maxima : take (length ms) (drop 2 (diagram ms f)) ≡ ms
  unfolding diagram
  diagram_maxima = take-append_seam ms (joined walked.entries)

  module _ (tail : List ℕ) where
    -- a slice that starts with the diagram is the header, the entries, and what follows
    pub diagram_splits : diagram ms f ++ tail ≡ head ++ (joined walked.entries ++ tail)
    unfolding diagram
    diagram_splits = append_assoc head (joined walked.entries) tail

    -- places used: the header's and the entries'

    pub diagram_places : used (diagram ms f ++ tail) ≡ header (length ms) + length (joined walked.entries)
    unfolding diagram
    diagram_places = refl

    pub diagram_used : used (diagram ms f ++ tail) ≡ length (diagram ms f)
    unfolding diagram
    diagram_used = omega (arith, length-append ms (joined walked.entries))

    -- the place of the root is that which the walk gave
    pub diagram_root : root (diagram ms f ++ tail) ≡ walked.place
    unfolding diagram
    diagram_root = refl

    -- the maxima are those walked
    pub diagram_maximum : (i : ℕ) → i < length ms → maximum (diagram ms f ++ tail) i ≡ get_or ms i 0
    unfolding diagram
    diagram_maximum i l =
        sym (get_or-drop 2 (diagram ms f ++ tail) i 0)
        ∙ ap (λ ns. get_or ns i 0) (append_assoc ms (joined walked.entries) tail)
        ∙ get_or-append ms (joined walked.entries ++ tail) 0 i l
